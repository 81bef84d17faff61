-- The steps of a walk that looks for an edge that passes a test.
use Rattle.std.proofs.Common.{Bool, true, false, ◌||◌, take, ℕ, ◌-◌, ◌<◌, ◌≤◌, ◌≡◌, List, [], ◌++◌, length, drop, get_or, refl, sym, ap, ◌∙◌, arith}
use Rattle.std.specs.Prelude.{slice_range}
use Rattle.std.specs.List.{list_any}
use Rattle.std.proofs.lemmas.List.{take-append-drop}
use Rattle.std.proofs.lemmas.List.Folds.{list_any-append, drop_split}
use Rattle.std.proofs.lemmas.Bool.{or_right}
use Rattle.geometry_model.specs.Geometries.{Edge}
use Rattle.edge_boxes.specs.BoxLists.{covered, AreBoxes}
use Rattle.edge_boxes.specs.EdgeTests.{NonePasses, IsTestStep}
use Rattle.edge_boxes.specs.declared.boxes.EdgeBox.{EdgeBox}
use Rattle.edge_boxes.proofs.BoxFacts.{rest_is, found_before, covered_before}
use Rattle.edge_boxes.proofs.Steps.{box_before, leaf_ordered, inner_covered}

-- ---- steps
-- a box of whose edges none passes is passed over with its subtree
pub test_skip : (boxes : List EdgeBox) (edges : List Edge) (test : Edge → Bool) (place : ℕ) (b : EdgeBox) → AreBoxes boxes edges → 0 < place → place ≤ length boxes → b ≡ get_or boxes (place - 1) b
    → NonePasses test b.run → IsTestStep boxes edges test place (place - 1 - b.size) false
test_skip boxes edges test place b are h k is far =
    let box = box_before boxes edges place b are h k is in
    record {
      earlier = omega (arith, h);
      own = box.run.own;
      split = box.run.split ∙ ap (λ n. box.run.own ++ drop n edges) (sym (covered_before boxes place b h (found_before boxes place b h k is)));
      said = sym (far box.run.own box.run.sums);
    }

-- a leaf shows what its own edges do
pub test_leaf : (boxes : List EdgeBox) (edges : List Edge) (test : Edge → Bool) (place : ℕ) (b : EdgeBox) (found : Bool) → AreBoxes boxes edges → 0 < place → place ≤ length boxes → b ≡ get_or boxes (place - 1) b → b.size ≡ 0
    → found ≡ list_any test (slice_range edges (covered boxes (place - 1)) b.end) → IsTestStep boxes edges test place (place - 1) found
test_leaf boxes edges test place b found are h k is leaf of =
    record {
      earlier = omega (arith, h);
      own = slice_range edges (covered boxes (place - 1)) b.end;
      split = drop_split edges (covered boxes (place - 1)) b.end (leaf_ordered boxes edges place b are h k is leaf)
          ∙ ap (λ n. slice_range edges (covered boxes (place - 1)) b.end ++ drop n edges) (sym (covered_before boxes place b h (found_before boxes place b h k is)));
      said = of;
    }

-- a box that is entered shows nothing itself, since the boxes before it go over the same edges
pub test_inner : (boxes : List EdgeBox) (edges : List Edge) (test : Edge → Bool) (place : ℕ) (b : EdgeBox) → AreBoxes boxes edges → 0 < place → place ≤ length boxes → b ≡ get_or boxes (place - 1) b → (b.size ≡ 0 → ⊥)
    → IsTestStep boxes edges test place (place - 1) false
test_inner boxes edges test place b are h k is inner =
    record {
      earlier = omega (arith, h);
      own = [];
      split = ap (λ n. drop n edges) (inner_covered boxes edges place b are h k is inner);
      said = refl;
    }

-- ---- one from a place on
-- an edge found from a place on is one of all edges
one_from : (edges : List Edge) (n : ℕ) (test : Edge → Bool) → list_any test (drop n edges) ≡ true → list_any test edges ≡ true
one_from edges n test h = ap (list_any test) (sym (take-append-drop n edges)) ∙ list_any-append test (take n edges) (drop n edges)
    ∙ or_right (list_any test (take n edges)) (list_any test (drop n edges)) h

-- from where a step leads to, there is such an edge where the step shows one or there was one behind it
stepped : (boxes : List EdgeBox) (edges : List Edge) (test : Edge → Bool) (place next : ℕ) (found : Bool) (s : IsTestStep boxes edges test place next found)
    → list_any test (drop (covered boxes next) edges) ≡ (found || list_any test (drop (covered boxes place) edges))
stepped boxes edges test place next found s = ap (list_any test) s.split ∙ list_any-append test s.own (drop (covered boxes place) edges)
    ∙ ap (λ (b : Bool). b || list_any test (drop (covered boxes place) edges)) (sym s.said)

-- where a step shows such an edge, there is one among all edges
pub one_at_step : (boxes : List EdgeBox) (edges : List Edge) (test : Edge → Bool) (place next : ℕ) (found : Bool) → IsTestStep boxes edges test place next found → found ≡ true → list_any test edges ≡ true
one_at_step boxes edges test place next found s h =
    one_from edges (covered boxes next) test (stepped boxes edges test place next found s ∙ ap (λ (b : Bool). b || list_any test (drop (covered boxes place) edges)) h)

-- the edges from a place to the end, cut out as a run, show the same as the edges from there on
pub uncovered_is : (edges : List Edge) (n m : ℕ) (test : Edge → Bool) (run : List Edge) → n ≡ m → m ≤ length edges
    → run ≡ slice_range edges n (length edges)
    → list_any test run ≡ list_any test (drop m edges)
uncovered_is edges n m test run same h is = ap (list_any test) (is ∙ ap (λ k. slice_range edges k (length edges)) same ∙ rest_is edges m h)

-- one found among the edges from a place to the end is one of all edges
pub one_uncovered : (edges : List Edge) (n : ℕ) (test : Edge → Bool) (run : List Edge) → n ≤ length edges → run ≡ slice_range edges n (length edges) → list_any test run ≡ true → list_any test edges ≡ true
one_uncovered edges n test run h is found = one_from edges n test (sym (uncovered_is edges n n test run refl h is) ∙ found)
