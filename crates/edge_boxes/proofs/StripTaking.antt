-- A list of boxes in which one box is given a strip.
use Rattle.std.proofs.Common.{ℕ, zero, suc, ◌-◌, ◌<◌, ◌≡◌, ◌⊎◌, inl, inr, List, [], ◌∷◌, length, drop, get_or, set, Option, Some, IfSome, refl, sym, ap, ◌∙◌, subst}
use Rattle.std.specs.Prelude.{slice_get, slice_range}
use Rattle.std.proofs.lemmas.List.{append_cancel_right}
use Rattle.std.proofs.lemmas.Option.{slice_get_read}
use Rattle.std.proofs.lemmas.List.Folds.{drop_split}
use Rattle.geometry_model.specs.Geometries.{Edge}
use Rattle.edge_boxes.specs.Strips.{IsStripOf}
use Rattle.edge_boxes.specs.BoxLists.{end_of, covered, IsRun, IsBoxAt, AreBoxes}
use Rattle.edge_boxes.specs.Builds.{IsStripAt}
use Rattle.edge_boxes.specs.declared.boxes.EdgeBox.{EdgeBox}
use Rattle.edge_boxes.specs.declared.strips.Strip.{Strip}

-- the box with another strip
abbrev pub stripped : EdgeBox → Option Strip → EdgeBox
stripped b strip = record { run = record { bounds = b.run.bounds; ends = b.run.ends; strip = strip }; size = b.size; end = b.end }

-- ---- the box at a place
-- the box that is read at a place within the list is there
pub box_at : (boxes : List EdgeBox) (place : ℕ) (b : EdgeBox) → place < length boxes → b ≡ get_or boxes place b → slice_get boxes place ≡ Some b
box_at boxes place b h is = slice_get_read boxes (length boxes) place b refl h is

-- and it is one of the edges' boxes there
pub covered_up_to : (boxes : List EdgeBox) (edges : List Edge) (place : ℕ) (b : EdgeBox) → AreBoxes boxes edges → place < length boxes → b ≡ get_or boxes place b → IsBoxAt edges boxes place b
covered_up_to boxes edges place b are h is = are place b (box_at boxes place b h is)

-- a strip of the edges from where a box's subtree begins to where the box ends is one for that box
pub strip_of_box : (boxes : List EdgeBox) (edges own : List Edge) (place first : ℕ) (b : EdgeBox) (strip : Option Strip) → slice_get boxes place ≡ Some b → first ≡ covered boxes (place - b.size)
    → own ≡ slice_range edges first b.end → IfSome strip (λ s. IsStripOf s own) → IsStripAt boxes edges place strip
strip_of_box boxes edges own place first b strip e f g h c k =
    let same : b ≡ c = let s : Some b ≡ Some c = sym e ∙ k in cc in
    subst (λ (d : EdgeBox). IfSome strip (λ s. IsStripOf s (slice_range edges (covered boxes (place - d.size)) d.end))) same
    (subst (λ n. IfSome strip (λ s. IsStripOf s (slice_range edges n b.end))) f (subst (λ l. IfSome strip (λ s. IsStripOf s l)) g h))

-- ---- one box replaced
-- a box of the changed list is one of the old ones, or the one that was put in
found_or_set : (boxes : List EdgeBox) (i j : ℕ) (x c : EdgeBox) → slice_get (set boxes i x) j ≡ Some c → (slice_get boxes j ≡ Some c) ⊎ ((j ≡ i) × (x ≡ c))
found_or_set [] i j x c e = inl e
found_or_set (b ∷ boxes) zero zero x c e = let s : x ≡ c = cc in inr (refl, s)
found_or_set (b ∷ boxes) zero (suc j) x c e = inl e
found_or_set (b ∷ boxes) (suc i) zero x c e = inl e
found_or_set (b ∷ boxes) (suc i) (suc j) x c e = go (found_or_set boxes i j x c e)
  where
    go : (slice_get boxes j ≡ Some c) ⊎ ((j ≡ i) × (x ≡ c)) → (slice_get boxes j ≡ Some c) ⊎ ((suc j ≡ suc i) × (x ≡ c))
    go (inl f) = inl f
    go (inr f) = inr (ap suc f.0, f.1)

-- a box replaced by one with the same end leaves the end at each place as it was
end_set : (boxes : List EdgeBox) (i j : ℕ) (x b : EdgeBox) → slice_get boxes i ≡ Some b → x.end ≡ b.end → end_of (slice_get (set boxes i x) j) ≡ end_of (slice_get boxes j)
end_set [] i j x b e f = refl
end_set (c ∷ boxes) zero zero x b e f = f ∙ sym (ap end_of e)
end_set (c ∷ boxes) zero (suc j) x b e f = refl
end_set (c ∷ boxes) (suc i) zero x b e f = refl
end_set (c ∷ boxes) (suc i) (suc j) x b e f = end_set boxes i j x b e f

-- so the boxes before each place go as far as they did
covered_set : (boxes : List EdgeBox) (i : ℕ) (x b : EdgeBox) → slice_get boxes i ≡ Some b → x.end ≡ b.end → (place : ℕ) → covered (set boxes i x) place ≡ covered boxes place
covered_set boxes i x b e f zero = refl
covered_set boxes i x b e f (suc j) = end_set boxes i j x b e f

-- a box is one of the edges' boxes at its place in any list that goes as far before each place
covered_alike : (boxes others : List EdgeBox) (edges : List Edge) (place : ℕ) (c : EdgeBox) → ((n : ℕ) → covered others n ≡ covered boxes n) → IsBoxAt edges boxes place c → IsBoxAt edges others place c
covered_alike boxes others edges place c same k = record {
  subtree = k.subtree;
  run = subst (λ n. IsRun edges c.run n c.end) (sym (same (place - c.size))) k.run;
  last = go k.last;
}
  where
    go : (c.size ≡ 0) ⊎ (covered boxes place ≡ c.end) → (c.size ≡ 0) ⊎ (covered others place ≡ c.end)
    go (inl e) = inl e
    go (inr e) = inr (same place ∙ e)

-- a box whose strip is replaced by another one of its own edges is still a box there
with_strip : (boxes : List EdgeBox) (edges : List Edge) (place : ℕ) (b : EdgeBox) (strip : Option Strip) → IsBoxAt edges boxes place b
    → IfSome strip (λ s. IsStripOf s (slice_range edges (covered boxes (place - b.size)) b.end)) → IsBoxAt edges boxes place (stripped b strip)
with_strip boxes edges place b strip k h = record {
  subtree = k.subtree;
  run = record {
    own = k.run.own;
    split = k.run.split;
    sums = record { lies = k.run.sums.lies; ends = k.run.sums.ends; strip = subst (λ l. IfSome strip (λ s. IsStripOf s l)) (sym own_is) h };
    ordered = k.run.ordered;
    within = k.run.within;
  };
  last = k.last;
}
  where
    own_is : k.run.own ≡ slice_range edges (covered boxes (place - b.size)) b.end
    own_is = append_cancel_right k.run.own (slice_range edges (covered boxes (place - b.size)) b.end) (drop b.end edges) (sym k.run.split ∙ drop_split edges (covered boxes (place - b.size)) b.end k.run.ordered)

-- the boxes stay those of the edges
pub strip_set : (boxes : List EdgeBox) (edges : List Edge) (i : ℕ) (b : EdgeBox) (strip : Option Strip) → AreBoxes boxes edges → slice_get boxes i ≡ Some b → IsStripAt boxes edges i strip
    → AreBoxes (set boxes i (stripped b strip)) edges
strip_set boxes edges i b strip are e h j c f = go (found_or_set boxes i j (stripped b strip) c f)
  where
    alike : (n : ℕ) → covered (set boxes i (stripped b strip)) n ≡ covered boxes n
    alike = covered_set boxes i (stripped b strip) b e refl

    go : (slice_get boxes j ≡ Some c) ⊎ ((j ≡ i) × (stripped b strip ≡ c)) → IsBoxAt edges (set boxes i (stripped b strip)) j c
    go (inl g) = covered_alike boxes (set boxes i (stripped b strip)) edges j c alike (are j c g)
    go (inr g) = subst (λ (d : EdgeBox). IsBoxAt edges (set boxes i (stripped b strip)) j d) g.1
        (subst (λ n. IsBoxAt edges (set boxes i (stripped b strip)) n (stripped b strip)) (sym g.0)
        (covered_alike boxes (set boxes i (stripped b strip)) edges i (stripped b strip) alike (with_strip boxes edges i b strip (are i b e) (h b e))))
