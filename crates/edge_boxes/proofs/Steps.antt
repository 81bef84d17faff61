-- The steps of a walk through a list of boxes.
use Rattle.std.proofs.Common.{Bool, true, ◌||◌, take, ℕ, ◌-◌, ◌<◌, ◌≤◌, ◌≡◌, ◌⊎◌, inl, inr, List, [], ◌++◌, length, drop, get_or, sym, ap, ◌∙◌, subst, arith, false}
use Rattle.std.specs.Prelude.{slice_range}
use Rattle.std.proofs.lemmas.List.{take-append-drop}
use Rattle.std.proofs.lemmas.List.Folds.{list_any-append, drop_split}
use Rattle.std.proofs.lemmas.Bool.{or_right}
use Rattle.geometry_model.specs.Points.{Point}
use Rattle.geometry_model.specs.Sides.{on}
use Rattle.geometry_model.specs.Geometries.{Edge}
use Rattle.edge_boxes.specs.BoxLists.{covered, IsBoxAt, AreBoxes}
use Rattle.edge_boxes.specs.BoxCells.{IsCellOf}
use Rattle.edge_boxes.specs.EdgeCrossings.{AreCrossings, IsShown, on_any}
use Rattle.edge_boxes.specs.Walks.{IsStep}
use Rattle.edge_boxes.specs.declared.boxes.EdgeBox.{EdgeBox}
use Rattle.edge_boxes.specs.declared.cells.Cell.{Cell}
use Rattle.edge_boxes.specs.declared.point_crossings.Crossings.{Crossings}
use Rattle.edge_boxes.proofs.BoxFacts.{rest_is, found_before, covered_before}
use Rattle.edge_boxes.proofs.Saying.{none_found}

-- the box that is read right before a place is one of the edges' boxes there
pub box_before : (boxes : List EdgeBox) (edges : List Edge) (place : ℕ) (b : EdgeBox) → AreBoxes boxes edges → 0 < place → place ≤ length boxes → b ≡ get_or boxes (place - 1) b → IsBoxAt edges boxes (place - 1) b
box_before boxes edges place b are h k is = are (place - 1) b (found_before boxes place b h k is)

-- a box that shows
pub step_shown : (boxes : List EdgeBox) (edges : List Edge) (p : Point) (place : ℕ) (b : EdgeBox) (cell : Cell) (c : Crossings) → AreBoxes boxes edges → 0 < place → place ≤ length boxes → b ≡ get_or boxes (place - 1) b
    → IsCellOf cell p → IsShown b.run cell c → IsStep boxes edges p place (place - 1 - b.size) c
step_shown boxes edges p place b cell c are h k is of says =
    let box = box_before boxes edges place b are h k is in
    record {
      earlier = omega (arith, h);
      own = box.run.own;
      split = box.run.split ∙ ap (λ n. box.run.own ++ drop n edges) (sym (covered_before boxes place b h (found_before boxes place b h k is)));
      said = says p box.run.own of box.run.sums;
    }

-- where a leaf's run begins
pub leaf_ordered : (boxes : List EdgeBox) (edges : List Edge) (place : ℕ) (b : EdgeBox) → AreBoxes boxes edges → 0 < place → place ≤ length boxes → b ≡ get_or boxes (place - 1) b → b.size ≡ 0
    → covered boxes (place - 1) ≤ b.end
leaf_ordered boxes edges place b are h k is leaf =
    let box = box_before boxes edges place b are h k is in
    let whole : place - 1 - b.size ≡ place - 1 = omega (arith, leaf) in
    subst (λ n. covered boxes n ≤ b.end) whole box.run.ordered

-- a leaf whose edges are looked at
pub leaf_step : (boxes : List EdgeBox) (edges : List Edge) (p : Point) (place : ℕ) (b : EdgeBox) (c : Crossings) → AreBoxes boxes edges → 0 < place → place ≤ length boxes → b ≡ get_or boxes (place - 1) b → b.size ≡ 0
    → AreCrossings c (slice_range edges (covered boxes (place - 1)) b.end) p → IsStep boxes edges p place (place - 1) c
leaf_step boxes edges p place b c are h k is leaf of =
    record {
      earlier = omega (arith, h);
      own = slice_range edges (covered boxes (place - 1)) b.end;
      split = drop_split edges (covered boxes (place - 1)) b.end (leaf_ordered boxes edges place b are h k is leaf)
          ∙ ap (λ n. slice_range edges (covered boxes (place - 1)) b.end ++ drop n edges) (sym (covered_before boxes place b h (found_before boxes place b h k is)));
      said = of;
    }

-- before a box that is entered the others go as far
pub inner_covered : (boxes : List EdgeBox) (edges : List Edge) (place : ℕ) (b : EdgeBox) → AreBoxes boxes edges → 0 < place → place ≤ length boxes → b ≡ get_or boxes (place - 1) b → (b.size ≡ 0 → ⊥)
    → covered boxes (place - 1) ≡ covered boxes place
inner_covered boxes edges place b are h k is inner = go (box_before boxes edges place b are h k is).last
  where
    go : (b.size ≡ 0) ⊎ (covered boxes (place - 1) ≡ b.end) → covered boxes (place - 1) ≡ covered boxes place
    go (inl z) = absurd (inner z)
    go (inr z) = z ∙ sym (covered_before boxes place b h (found_before boxes place b h k is))

-- a box that is entered
pub inner_step : (boxes : List EdgeBox) (edges : List Edge) (p : Point) (place : ℕ) (b : EdgeBox) (c : Crossings) → AreBoxes boxes edges → 0 < place → place ≤ length boxes → b ≡ get_or boxes (place - 1) b → (b.size ≡ 0 → ⊥)
    → c ≡ record { on = false; odd_above = false; odd_at_or_above = false } → IsStep boxes edges p place (place - 1) c
inner_step boxes edges p place b c are h k is inner e =
    record {
      earlier = omega (arith, h);
      own = [];
      split = ap (λ n. drop n edges) (inner_covered boxes edges place b are h k is inner);
      said = rw e (none_found [] p tt);
    }

-- ---- on an edge
-- on one of the edges from a place on
pub on_from : (edges : List Edge) (n : ℕ) (p : Point) → on_any (drop n edges) p ≡ true → on_any edges p ≡ true
on_from edges n p e = ap (λ l. on_any l p) (sym (take-append-drop n edges)) ∙ list_any-append (λ s. on s p) (take n edges) (drop n edges) ∙ or_right (on_any (take n edges) p) (on_any (drop n edges) p) e

-- from where a step leads to, the point is on an edge where the step shows so or it was on one behind it
stepped : (boxes : List EdgeBox) (edges : List Edge) (p : Point) (place next : ℕ) (own : Crossings) (s : IsStep boxes edges p place next own)
    → on_any (drop (covered boxes next) edges) p ≡ (own.on || on_any (drop (covered boxes place) edges) p)
stepped boxes edges p place next own s = ap (λ l. on_any l p) s.split ∙ list_any-append (λ f. on f p) s.own (drop (covered boxes place) edges)
    ∙ ap (λ (b : Bool). b || on_any (drop (covered boxes place) edges) p) (sym s.said.on)

-- where a step shows that the point is on an edge, it is on one of all edges
pub on_at_step : (boxes : List EdgeBox) (edges : List Edge) (p : Point) (place next : ℕ) (own : Crossings) → IsStep boxes edges p place next own → own.on ≡ true → on_any edges p ≡ true
on_at_step boxes edges p place next own s e = on_from edges (covered boxes next) p (stepped boxes edges p place next own s ∙ ap (λ (b : Bool). b || on_any (drop (covered boxes place) edges) p) e)

-- a point on one of the edges from a place to the end is on one of all edges
pub on_uncovered : (edges : List Edge) (n : ℕ) (p : Point) (run : List Edge) → n ≤ length edges → run ≡ slice_range edges n (length edges) → on_any run p ≡ true → on_any edges p ≡ true
on_uncovered edges n p run h is e = on_from edges n p (ap (λ l. on_any l p) (sym (is ∙ rest_is edges n h)) ∙ e)
