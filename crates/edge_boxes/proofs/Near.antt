-- Edges that pass a test, as those near an envelope, found from the last one back.
use Rattle.std.proofs.Common.{ℕ, zero, suc, ◌+◌, ◌-◌, ◌<◌, ◌≤◌, ◌≡◌, Bool, false, ◌||◌, List, [], ◌∷◌, ◌++◌, length, drop, take, get_or, refl, sym, ap, ap₂, ◌∙◌, subst, arith}
use Rattle.std.specs.Prelude.{slice_range}
use Rattle.std.specs.List.{AllByRecursion, list_any}
use Rattle.std.proofs.Math.Seq.{take-add}
use Rattle.std.proofs.lemmas.List.{drop-drop, append_cancel_right}
use Rattle.std.proofs.lemmas.List.Folds.{list_any-append, drop_split}
use Rattle.std.proofs.lemmas.Bool.{or_parts}
use Rattle.geometry_model.specs.Geometries.{Edge}
use Rattle.geometry_model.specs.Envelopes.{Envelope, overlap}
use Rattle.edge_boxes.specs.BoxLists.{covered, AreBoxes}
use Rattle.edge_boxes.specs.EdgeRuns.{LiesIn}
use Rattle.edge_boxes.specs.EdgeTests.{NonePasses, IsStepBack}
use Rattle.edge_boxes.specs.NearEdges.{is_near}
use Rattle.edge_boxes.specs.declared.boxes.EdgeBox.{EdgeBox}
use Rattle.edge_boxes.specs.declared.kept_runs.Run.{Run}
use Rattle.edge_boxes.proofs.BoxFacts.{covered_before, found_before}
use Rattle.edge_boxes.proofs.Far.{edge_apart}
use Rattle.edge_boxes.proofs.Sharing.{edge_before}
use Rattle.edge_boxes.proofs.Steps.{box_before, inner_covered}

-- ---- parts of a list, one behind the other
pub parts_joined : {X : Type 0} (xs : List X) (first middle end : ℕ) → first ≤ middle → middle ≤ end → slice_range xs first end ≡ slice_range xs first middle ++ slice_range xs middle end
parts_joined xs first middle end h k =
    let e : end - first ≡ (middle - first) + (end - middle) = omega (arith, h, k) in
    let f : first + (middle - first) ≡ middle = omega (arith, h) in
    ap (λ n. take n (drop first xs)) e ∙ take-add (middle - first) (end - middle) (drop first xs)
    ∙ ap (λ l. slice_range xs first middle ++ take (end - middle) l) (drop-drop (middle - first) first xs ∙ ap (λ n. drop n xs) f)

-- where no edge of two parts passes, none of both passes
pub none_in_both : (f : Edge → Bool) (xs : List Edge) (first middle end : ℕ) → first ≤ middle → middle ≤ end → list_any f (slice_range xs first middle) ≡ false → list_any f (slice_range xs middle end) ≡ false → list_any f (slice_range xs first end) ≡ false
none_in_both f xs first middle end h k none others = ap (list_any f) (parts_joined xs first middle end h k) ∙ list_any-append f (slice_range xs first middle) (slice_range xs middle end) ∙ ap₂ (λ (s t : Bool). s || t) none others

-- and where none of both passes, none of the first part does
pub none_in_part : (f : Edge → Bool) (xs : List Edge) (first middle end : ℕ) → first ≤ middle → middle ≤ end → list_any f (slice_range xs first end) ≡ false → list_any f (slice_range xs first middle) ≡ false
none_in_part f xs first middle end h k none =
    (or_parts (list_any f (slice_range xs first middle)) (list_any f (slice_range xs middle end)) (sym (list_any-append f (slice_range xs first middle) (slice_range xs middle end)) ∙ ap (list_any f) (sym (parts_joined xs first middle end h k)) ∙ none)).0

-- no edge is in an empty part
none_in_none : (f : Edge → Bool) (xs : List Edge) (n : ℕ) → list_any f (slice_range xs n n) ≡ false
none_in_none f xs n =
    let e : n - n ≡ 0 = omega arith in
    ap (λ m. list_any f (take m (drop n xs))) e

-- ---- one edge back
pub one_back : (test : Edge → Bool) (edges : List Edge) (left end : ℕ) (e : Edge) → 0 < left → left ≤ end → end ≤ length edges → e ≡ get_or edges (left - 1) e → test e ≡ false → list_any test (slice_range edges left end) ≡ false
    → list_any test (slice_range edges (left - 1) end) ≡ false
one_back test edges zero end e p h k is far all = absurd (omega (arith, p))
one_back test edges (suc i) end e p h k is far all =
    let less : suc i - 1 ≡ i = omega arith in
    subst (λ n. e ≡ get_or edges n e → list_any test (slice_range edges n end) ≡ false) (sym less)
    (λ is'. ap (list_any test) (edge_before edges i end e (omega (arith, h)) k is') ∙ ap₂ (λ (s t : Bool). s || t) far all) is

-- ---- near an envelope
-- within bounds that don't overlap the envelope no edge is near
none_within : (b around : Envelope) (es : List Edge) → AllByRecursion (LiesIn b) es → overlap b around ≡ false → list_any (is_near around) es ≡ false
none_within b around [] all far = refl
none_within b around (e ∷ es) all far = ap₂ (λ (s t : Bool). s || t) (edge_apart b around e all.0 far) (none_within b around es all.1 far)

pub outside_by_bounds : (run : Run) (around : Envelope) → overlap run.bounds around ≡ false → NonePasses (is_near around) run
outside_by_bounds run around far es sums = none_within run.bounds around es sums.lies far

-- ---- one box back
-- a box of whose edges none passes is passed over with its subtree
pub skip_back : (boxes : List EdgeBox) (edges : List Edge) (test : Edge → Bool) (place left first : ℕ) (b : EdgeBox) → AreBoxes boxes edges → 0 < place → place ≤ length boxes → b ≡ get_or boxes (place - 1) b
    → left ≤ covered boxes place → first ≡ covered boxes (place - 1 - b.size) → first < left → NonePasses test b.run → IsStepBack boxes edges test place left (place - 1 - b.size) first
skip_back boxes edges test place left first b are h k is upto begins behind far =
    let box = box_before boxes edges place b are h k is in
    let ends : covered boxes place ≡ b.end = covered_before boxes place b h (found_before boxes place b h k is) in
    let own : box.run.own ≡ slice_range edges (covered boxes (place - 1 - b.size)) b.end =
    append_cancel_right box.run.own (slice_range edges (covered boxes (place - 1 - b.size)) b.end) (drop b.end edges) (sym box.run.split ∙ drop_split edges (covered boxes (place - 1 - b.size)) b.end box.run.ordered) in
    let none : list_any test (slice_range edges first b.end) ≡ false =
    ap (λ n. list_any test (slice_range edges n b.end)) begins ∙ ap (list_any test) (sym own) ∙ far box.run.own box.run.sums in
    record {
      earlier = omega (arith, h);
      back = omega (arith, behind);
      none = none_in_part test edges first left b.end (omega (arith, behind)) (omega (arith, upto, ends)) none;
      last = λ l. absurd (omega (arith, l, begins));
    }

-- a box that is entered leaves all as it is, since the boxes before it go as far
pub enter_back : (boxes : List EdgeBox) (edges : List Edge) (test : Edge → Bool) (place left : ℕ) (b : EdgeBox) → AreBoxes boxes edges → 0 < place → place ≤ length boxes → b ≡ get_or boxes (place - 1) b
    → left ≤ covered boxes place → (b.size ≡ 0 → ⊥) → IsStepBack boxes edges test place left (place - 1) left
enter_back boxes edges test place left b are h k is upto inner =
    let same : covered boxes (place - 1) ≡ covered boxes place = inner_covered boxes edges place b are h k is inner in
    record {
      earlier = omega (arith, h);
      back = omega arith;
      none = none_in_none test edges left;
      last = λ l. absurd (omega (arith, l, same, upto));
    }
