-- What holds of edges in one order holds of them in another.
use Rattle.std.proofs.Common.{◌≡◌, ◌+◌, ℕ, Bool, true, false, ◌||◌, refl, sym, ◌∙◌, ap, arith, cond}
use Rattle.std.proofs.Common.{List, [], ◌∷◌, Option, Some, IfSome, IsPermutation, count_by, sum_by}
use Rattle.std.specs.List.{list_any}
use Rattle.std.proofs.lemmas.List.Sorted.{list_any-IsPermutation, sum_by-IsPermutation}
use Rattle.std.proofs.lemmas.List.Sums.{sum_by-cons}
use Rattle.std.proofs.lemmas.List.Recursion.{is_count_by}
use Rattle.geometry_model.specs.Points.{Point}
use Rattle.geometry_model.specs.Geometries.{Edge}
use Rattle.geometry_model.specs.Sides.{on}
use Rattle.geometry_model.specs.Crossings.{odd, strictly_above, at_or_above}
use Rattle.edge_boxes.specs.BoxLists.{IsReordered}
use Rattle.edge_boxes.specs.EdgeCrossings.{AreCrossings}
use Rattle.edge_boxes.specs.EdgeTests.{EndsPassing}
use Rattle.edge_boxes.specs.declared.reordering.Reordered.{Reordered}
use Rattle.edge_boxes.specs.declared.point_crossings.Crossings.{Crossings}

-- the copy that there is
pub copy_is : (kept : Option Reordered) (copy : Reordered) (edges : List Edge) → kept ≡ Some copy
    → IfSome kept (λ r. IsReordered r edges) → IsReordered copy edges
copy_is kept copy edges is h = let one = rw is at h in one

abbrev one_or_none : (Edge → Bool) → Edge → ℕ
one_or_none test e = cond (test e) 1 0

counts_one : (test : Edge → Bool) (e : Edge) (es : List Edge)
    → sum_by (one_or_none test) (e ∷ es) ≡ cond (test e) (1 + sum_by (one_or_none test) es) (sum_by (one_or_none test) es)
counts_one test e es = sum_by-cons (one_or_none test) e es ∙ once (test e) (sum_by (one_or_none test) es)
  where
    once : (b : Bool) (n : ℕ) → cond b 1 0 + n ≡ cond b (1 + n) n
    once true n = refl
    once false n = let same : 0 + n ≡ n = omega arith in same

count_is_sum : (test : Edge → Bool) (es : List Edge) → sum_by (one_or_none test) es ≡ count_by test es
count_is_sum test = is_count_by (sum_by (one_or_none test)) test refl (counts_one test)

count_kept : (test : Edge → Bool) (es fs : List Edge) → IsPermutation es fs → count_by test fs ≡ count_by test es
count_kept test es fs moved =
    sym (count_is_sum test fs) ∙ sum_by-IsPermutation (one_or_none test) es fs moved ∙ count_is_sum test es

-- how a point lies relative to edges doesn't depend on their order
pub crossings_kept : (c : Crossings) (es fs : List Edge) (p : Point) → IsPermutation es fs
    → AreCrossings c fs p → AreCrossings c es p
crossings_kept c es fs p moved h = record {
  on = h.on ∙ sym (list_any-IsPermutation (λ e. on e p) es fs moved);
  above = h.above ∙ ap odd (count_kept (λ e. strictly_above e p) es fs moved);
  at_or_above = h.at_or_above ∙ ap odd (count_kept (λ e. at_or_above e p) es fs moved);
}

-- nor does whether an edge passes a test with one of others on the others' order
pub others_kept : (test : Edge → Edge → Bool) (es os ps : List Edge) → IsPermutation os ps
    → list_any (λ e. list_any (test e) ps) es ≡ list_any (λ e. list_any (test e) os) es
others_kept test [] os ps moved = refl
others_kept test (e ∷ es) os ps moved =
    ap (λ b. b || list_any (λ f. list_any (test f) ps) es) (sym (list_any-IsPermutation (test e) os ps moved))
    ∙ ap (λ b. list_any (test e) os || b) (others_kept test es os ps moved)

-- nor whether one of some edges does
pub both_kept : (test : Edge → Edge → Bool) (es fs os ps : List Edge) → IsPermutation es fs → IsPermutation os ps
    → list_any (λ e. list_any (test e) ps) fs ≡ list_any (λ e. list_any (test e) os) es
both_kept test es fs os ps moved others =
    others_kept test fs os ps others ∙ sym (list_any-IsPermutation (λ e. list_any (test e) os) es fs moved)

-- nor which edge passes last
pub ends_kept : (test : Edge → Edge → Bool) (edges os ps : List Edge) (place : ℕ) → IsPermutation os ps
    → EndsPassing (λ e. list_any (test e) ps) edges place → EndsPassing (λ e. list_any (test e) os) edges place
ends_kept test edges os ps place moved h e at = list_any-IsPermutation (test e) os ps moved ∙ h e at
