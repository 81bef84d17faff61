-- Boxes at their places, and what stays as the list grows.
use Rattle.std.proofs.Common.{ℕ, zero, suc, ◌+◌, ◌-◌, ◌<◌, ◌≤◌, ◌≡◌, List, ◌++◌, length, drop, get_or, Option, Some, None, refl, sym, ap, ◌∙◌, arith}
use Rattle.std.specs.Prelude.{slice_get, slice_range}
use Rattle.std.proofs.lemmas.Option.{slice_get_read}
use Rattle.std.proofs.lemmas.List.{length-drop, append-nil, length-append}
use Rattle.std.proofs.Math.Seq.{drop-length}
use Rattle.std.proofs.lemmas.List.Folds.{drop_split}
use Rattle.geometry_model.specs.Geometries.{Edge}
use Rattle.edge_boxes.specs.BoxLists.{end_of, covered, AreBoxes}
use Rattle.edge_boxes.specs.declared.boxes.EdgeBox.{EdgeBox}

-- ---- the box before a place
-- the box that is read right before a place within the list is there
pub found_before : (boxes : List EdgeBox) (place : ℕ) (b : EdgeBox) → 0 < place → place ≤ length boxes → b ≡ get_or boxes (place - 1) b → slice_get boxes (place - 1) ≡ Some b
found_before boxes place b h k is = slice_get_read boxes (length boxes) (place - 1) b refl (omega (arith, h, k)) is

-- the boxes before a place go as far as the box right before it
pub covered_before : (boxes : List EdgeBox) (place : ℕ) (b : EdgeBox) → 0 < place → slice_get boxes (place - 1) ≡ Some b → covered boxes place ≡ b.end
covered_before boxes zero b h e = absurd (omega (arith, h))
covered_before boxes (suc i) b h e = let less : suc i - 1 ≡ i = omega arith in ap end_of (ap (slice_get boxes) (sym less) ∙ e)

-- the boxes before a place go no further than the edges, since the run of the last of them ends within these
pub covered_within : (boxes : List EdgeBox) (edges : List Edge) (place : ℕ) → AreBoxes boxes edges → place ≤ length boxes → covered boxes place ≤ length edges
covered_within boxes edges zero are h = omega arith
covered_within boxes edges (suc i) are h = go (slice_get boxes i) refl
  where
    go : (o : Option EdgeBox) → slice_get boxes i ≡ o → end_of o ≤ length edges
    go None e = omega arith
    go (Some b) e = (are i b e).run.within

-- from a place to the end
pub rest_is : {X : Type 0} (xs : List X) (first : ℕ) → first ≤ length xs → slice_range xs first (length xs) ≡ drop first xs
rest_is xs first h = sym (drop_split xs first (length xs) h ∙ ap (λ l. slice_range xs first (length xs) ++ l) (drop-length xs) ∙ append-nil (slice_range xs first (length xs)))

-- how many edges a run has
pub run_counted : {X : Type 0} (xs own : List X) (first end : ℕ) → drop first xs ≡ own ++ drop end xs → first ≤ end → end ≤ length xs → first + length own ≡ end
run_counted xs own first end split h k =
    let e : length xs - first ≡ length own + (length xs - end) = sym (length-drop first xs) ∙ ap length split ∙ length-append own (drop end xs) ∙ ap (λ n. length own + n) (length-drop end xs) in
    omega (arith, e, h, k)
