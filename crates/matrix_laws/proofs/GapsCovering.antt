-- What shows the gaps of an edge, the points that it shares and all ends shows all points of the edge.
use Rattle.std.proofs.Common.{◌≡◌, ◌≢◌, ◌⊎◌, inl, inr, Bool, true, false, ◌||◌, refl, sym, ap, subst, ◌∙◌, List, [], ◌∷◌, ◌++◌, All, Any, Contains}
use Rattle.std.proofs.lemmas.List.Elements.{Contains-append_left, Contains-append_right, All-contains}
use Rattle.geometry_model.specs.Points.{Point, IsPoint, same_point}
use Rattle.geometry_model.specs.Geometries.{Edge, Geometry, kind, edges, listed}
use Rattle.geometry_model.specs.Sides.{on, on_one_line}
use Rattle.geometry_model.specs.CutPoints.{IsCut, is_end}
use Rattle.geometry_model.specs.CutPoints.IsCut.{AtEnd, Listed, AtCrossing}
use Rattle.geometry_model.specs.Locations.{locate}
use Rattle.geometry_model.specs.Pieces.{Piece, stretches}
use Rattle.geometry_model.specs.Dimensions.{Matrix}
use Rattle.geometry_model.specs.Labels.{below, above, edges_of_both}
use Rattle.geometry_model.specs.Validity.{IsValid}
use Rattle.geometry_model.specs.declared.point_sets.Dimension.TheVariants.{Zero, One, Two}
use Rattle.geometry_laws.proofs.Each.{Among, Passing, each_at}
use Rattle.geometry_laws.proofs.PointOrder.{same_symmetric}
use Rattle.geometry_laws.proofs.Respect.{locate_respects}
use Rattle.geometry_laws.proofs.RingParity.{each_from_all}
use Rattle.geometry_laws.proofs.Cuts.{among_from_contains, contains_of_among, one_line}
use Rattle.matrix_laws.proofs.Closing.{valid_rings_are_closed}
use Rattle.matrix_laws.proofs.MatrixLists.{Some_of, some_from_any}
use Rattle.matrix_laws.proofs.CutOrder.{cut_of_same}
use Rattle.matrix_laws.specs.Cells.{Shows, ShowsPoint, IsNoCut, Covers}
use Rattle.matrix_laws.proofs.Growing.{shows_at, shows_less}
use Rattle.matrix_laws.specs.Gaps.{EdgeGaps, AreGaps, IsBetween, IsClear, IsShared, IsGap, IsWithin, mostly, of_own_edges}
use Rattle.matrix_laws.specs.Covering.{IsOffEdges, ShowsOff, ShowsOn, ShowsGap, ShowsEnds}
use Rattle.matrix_laws.proofs.Shared.{span_of_gap}
use Rattle.matrix_laws.proofs.Alike.{Applies, applies}
use Rattle.matrix_laws.proofs.GapTheorems.{gap_end_is_alike, shared_point_shares_gap}
use Rattle.matrix_laws.proofs.Stretching.{spread, Meeting, goes_on, goes_back}
use Rattle.matrix_laws.proofs.Located.{not_off, on_or_off, off_is_shown, ShowsShared, shared_is_shown}
use Rattle.matrix_laws.proofs.GapThere.{SameSides, same_sides}

-- ---- the gap that holds a point of the edge
-- both ends of a stretch between neighbours of a list are in the list
ends_among : (xs : List Point) (c : Piece) → Among c (stretches xs) → Among c.lesser xs × Among c.greater xs
ends_among [] c m = absurd m
ends_among (p ∷ []) c m = absurd m
ends_among (p ∷ q ∷ rest) c (inl e) = (inl (ap (λ (d : Piece). d.lesser) e), inr (inl (ap (λ (d : Piece). d.greater) e)))
ends_among (p ∷ q ∷ rest) c (inr m) = let r : Among c.lesser (q ∷ rest) × Among c.greater (q ∷ rest) = ends_among (q ∷ rest) c m in (inr r.0, inr r.1)

-- a gap of the edge that the matrix shows and in which the point lies, ends counted
pub record Held (a b : Geometry) (m : Matrix) (e : Edge) (x : Point) : Type 0 where
  pub p : Point
  pub q : Point
  pub gap : IsGap e (edges b) p q
  pub shows : ShowsGap a b m e p q
  pub within : IsWithin (record { lesser = p; greater = q }) x
  pub lesser_is_cut : IsCut (e ∷ edges b) [] p
  pub greater_is_cut : IsCut (e ∷ edges b) [] q

-- the stretches between the stops hold the whole edge, and each is a gap that the matrix shows
held : (a b : Geometry) (e : Edge) (g : EdgeGaps) → AreGaps e (edges b) g → (m : Matrix) → All (λ c. ShowsGap a b m e c.lesser c.greater) (stretches g.stops) → (x : Point) → IsPoint x → on e x ≡ true → Held a b m e x
held a b e g h m s x hx k = go (some_from_any (λ c. IsWithin c x) (stretches g.stops) (h.whole x hx k))
  where
    go : Some_of (λ c. IsWithin c x) (stretches g.stops) → Held a b m e x
    go r = let t : Among r.found.lesser g.stops × Among r.found.greater g.stops = ends_among g.stops r.found r.among in record {
      p = r.found.lesser;
      q = r.found.greater;
      gap = each_at (λ c. IsGap e (edges b) c.lesser c.greater) (stretches g.stops) r.found (each_from_all (λ c. IsGap e (edges b) c.lesser c.greater) (stretches g.stops) h.gaps) r.among;
      shows = each_at (λ c. ShowsGap a b m e c.lesser c.greater) (stretches g.stops) r.found (each_from_all (λ c. ShowsGap a b m e c.lesser c.greater) (stretches g.stops) s) r.among;
      within = record { not_before = (r.has).not_before; not_after = (r.has).not_after };
      lesser_is_cut = each_at (IsCut (e ∷ edges b) []) g.stops r.found.lesser (each_from_all (IsCut (e ∷ edges b) []) g.stops h.cuts) t.0;
      greater_is_cut = each_at (IsCut (e ∷ edges b) []) g.stops r.found.greater (each_from_all (IsCut (e ∷ edges b) []) g.stops h.cuts) t.1;
    }

-- ---- a cut of an edge of a and b's edges is one of both geometries
member : (a b : Geometry) (e : Edge) → Contains (edges a) e → (f : Edge) → Contains (e ∷ edges b) f → Contains (edges_of_both a b) f
member a b e c f d = go (among_from_contains (e ∷ edges b) f d)
  where
    go : Among f (e ∷ edges b) → Contains (edges_of_both a b) f
    go (inl k) = subst (Contains (edges_of_both a b)) (sym k) (Contains-append_left (edges a) (edges b) e c)
    go (inr k) = Contains-append_right (edges a) (edges b) f (contains_of_among f (edges b) k)

-- since that edge and b's are edges of both
cut_of_both : (a b : Geometry) (e : Edge) → Contains (edges a) e → (x : Point) → IsCut (e ∷ edges b) [] x → IsCut (edges_of_both a b) (listed a ++ listed b) x
cut_of_both a b e c x (AtEnd hx f d k) = AtEnd hx f (member a b e c f d) k
cut_of_both a b e c x (Listed hx p d k) = absurd (among_from_contains [] p d)
cut_of_both a b e c x (AtCrossing hx f h d k n s t) = AtCrossing hx f h (member a b e c f d) (member a b e c h k) n s t

-- so a point that is no cut lies strictly within the gap
between : (a b : Geometry) (m : Matrix) (e : Edge) → Contains (edges a) e → (x : Point) → IsPoint x → on e x ≡ true → (h : Held a b m e x) → IsNoCut a b x → IsBetween e h.p h.q x
between a b m e c x hx k h f = go (applies e h.p h.q x (h.gap).lesser_is_point (h.gap).greater_is_point hx k h.within)
  where
    go : Applies e h.p h.q x → IsBetween e h.p h.q x
    go (Applies.AtLesser s) = absurd (f (cut_of_same (edges_of_both a b) (listed a ++ listed b) h.p x (h.gap).lesser_is_point hx s (cut_of_both a b e c h.p h.lesser_is_cut)))
    go (Applies.AtGreater s) = absurd (f (cut_of_same (edges_of_both a b) (listed a ++ listed b) h.q x (h.gap).greater_is_point hx (same_symmetric h.q x ∙ s) (cut_of_both a b e c h.q h.greater_is_cut)))
    go (Applies.Amid i) = i

-- ---- off b's edges the point lies as the gap's sample
-- so what the matrix shows by the sample it shows of the point too
off_shown : (a b : Geometry) → IsValid b → (m : Matrix) → ShowsEnds a b m → (e : Edge) → Contains (edges a) e → (x : Point) → IsPoint x → on e x ≡ true → Held a b m e x → IsOffEdges b x → ShowsPoint a b m e x
off_shown a b vb m t e c x hx k h o = go (gap_end_is_alike b (valid_rings_are_closed b vb) e h.p h.q h.gap x (h.shows).sample (h.shows).between hx k h.within o)
  where
    go : (mostly b x ≡ mostly b (h.shows).sample) × IsOffEdges b (h.shows).sample → ShowsPoint a b m e x
    go r = off_is_shown a b m t e c x hx k o (subst (ShowsOff a m e) (sym r.0) (((h.shows).shows).off r.1))

-- ---- on an edge of b
-- the gap beside the point is shared, where neither edge ends there and both are on one line
sample_held : (a b : Geometry) (m : Matrix) (e : Edge) (x : Point) → IsPoint x → (h : Held a b m e x) → on e x ≡ true → (f : Edge) → Contains (edges b) f → on f x ≡ true → on_one_line e f ≡ true → is_end f x ≡ false → on f (h.shows).sample ≡ true
sample_held a b m e x hx h ke f d k l n = go (All-contains (λ r. IsClear e h.p h.q r ⊎ IsShared e h.p h.q r) (edges b) f (h.gap).whole d) (applies e h.p h.q x (h.gap).lesser_is_point (h.gap).greater_is_point hx ke h.within)
  where
    meeting : Meeting e f h.p h.q
    meeting = record {
      one_line = one_line e f l;
      span = span_of_gap e (edges b) h.p h.q h.gap;
    }

    go : IsClear e h.p h.q f ⊎ IsShared e h.p h.q f → Applies e h.p h.q x → on f (h.shows).sample ≡ true
    go (inr s) r = s.1 (h.shows).sample (h.shows).between
    go (inl u) (Applies.AtLesser r) = goes_on e f h.p h.q meeting u x hx (spread f x hx k n) r (h.shows).sample (h.shows).between
    go (inl u) (Applies.AtGreater r) = goes_back e f h.p h.q meeting u x hx (spread f x hx k n) r (h.shows).sample (h.shows).between
    go (inl u) (Applies.Amid i) = absurd (let z : true ≡ false = sym k ∙ u x i in cc)

-- a point that is one of the shared points, in whatever triple, is shown as that one is
shared_shown : (a b : Geometry) (m : Matrix) (x : Point) → IsPoint x → (ps : List Point) → All IsPoint ps → All (λ p. Shows m (locate a p) (locate b p) Zero) ps → Any (λ p. same_point p x ≡ true) ps → Shows m (locate a x) (locate b x) Zero
shared_shown a b m x hx ps hp s r = go (some_from_any (λ p. same_point p x ≡ true) ps r)
  where
    go : Some_of (λ p. same_point p x ≡ true) ps → Shows m (locate a x) (locate b x) Zero
    go t = let h : IsPoint t.found = each_at IsPoint ps t.found (each_from_all IsPoint ps hp) t.among in
        shows_at m Zero (locate a t.found) (locate a x) (locate b t.found) (locate b x) (locate_respects a t.found x h hx t.has) (locate_respects b t.found x h hx t.has)
        (each_at (λ p. Shows m (locate a p) (locate b p) Zero) ps t.found (each_from_all (λ p. Shows m (locate a p) (locate b p) Zero) ps s) t.among)

points_of : (e : Edge) (fs : List Edge) (ps : List Point) → All (λ p. IsPoint p × (on e p ≡ true) × Any (λ f. on f p ≡ true) fs) ps → All IsPoint ps
points_of e fs ps h k d l = (h k d l).0

-- where one of the edges ends or they cross it is one of the shared points; elsewhere the gap is shared, and shows it
on_shown : (a b : Geometry) → IsValid a → IsValid b → (e : Edge) → Contains (edges a) e → (g : EdgeGaps) → AreGaps e (edges b) g → (m : Matrix) → All (λ p. Shows m (locate a p) (locate b p) Zero) g.shared
    → (x : Point) → IsPoint x → on e x ≡ true → Held a b m e x → (f : Edge) → Contains (edges b) f → on f x ≡ true → ShowsShared a b m e x
on_shown a b va vb e c g r m s x hx k h f d l = record {
  point = point (is_end e x || is_end f x) refl (on_one_line e f) refl;
  piece = λ u. (on_sample (on_by u)).piece;
  lower = λ u n. let t : SameSides a b x (h.shows).sample = sides u n in shows_at m Two (below a (h.shows).sample) (below a x) (below b (h.shows).sample) (below b x) (sym t.first_below) (sym t.second_below) ((on_sample (on_by u)).lower n);
  upper = λ u n. let t : SameSides a b x (h.shows).sample = sides u n in shows_at m Two (above a (h.shows).sample) (above a x) (above b (h.shows).sample) (above b x) (sym t.first_above) (sym t.second_above) ((on_sample (on_by u)).upper n);
}
  where
    on_sample : on f (h.shows).sample ≡ true → ShowsOn a b m e (h.shows).sample
    on_sample t = ((h.shows).shows).shared (not_off b f d (h.shows).sample t)

    by_shared : Any (λ p. same_point p x ≡ true) g.shared → Shows m (locate a x) (locate b x) Zero
    by_shared t = shared_shown a b m x hx g.shared (points_of e (edges b) g.shared r.shared_on) s t

    no_second : (t u : Bool) → t || u ≡ false → u ≡ false
    no_second true u n = absurd (let z : true ≡ false = n in cc)
    no_second false u n = n

    point : (t : Bool) → is_end e x || is_end f x ≡ t → (u : Bool) → on_one_line e f ≡ u → Shows m (locate a x) (locate b x) Zero ⊎ Shows m (of_own_edges (kind a)) (of_own_edges (kind b)) Zero
    point true n u z = inl (by_shared (r.found f d x hx k l n))
    point false n false z = inl (by_shared (r.crossed f d x hx k l z))
    point false n true z = inr (shows_less m (of_own_edges (kind a)) (of_own_edges (kind b)) One Zero refl ((on_sample (sample_held a b m e x hx h k f d l z (no_second (is_end e x) (is_end f x) n))).piece))

    shared_gap : IsNoCut a b x → IsShared e h.p h.q f
    shared_gap u = shared_point_shares_gap e (edges b) h.p h.q x f h.gap d (between a b m e c x hx k h u) l

    on_by : IsNoCut a b x → on f (h.shows).sample ≡ true
    on_by u = (shared_gap u).1 (h.shows).sample (h.shows).between

    sides : IsNoCut a b x → e.start.x ≢ e.end.x → SameSides a b x (h.shows).sample
    sides u n = same_sides a b va vb e c n h.p h.q h.gap f d (shared_gap u) x (h.shows).sample (between a b m e c x hx k h u) (h.shows).between

-- a point of the edge is off b's edges or on one, and in both cases it is shown
pub gaps_cover : (a b : Geometry) → IsValid a → IsValid b → (e : Edge) → Contains (edges a) e → e.start ≢ e.end → (g : EdgeGaps) → AreGaps e (edges b) g → (m : Matrix) → ShowsEnds a b m
    → All (λ c. ShowsGap a b m e c.lesser c.greater) (stretches g.stops) → All (λ p. Shows m (locate a p) (locate b p) Zero) g.shared → Covers a b m e
gaps_cover a b va vb e c w g r m t s u x hx k = go (on_or_off b x)
  where
    here : Held a b m e x
    here = held a b e g r m s x hx k

    go : Passing (λ f. on f x) (edges b) ⊎ IsOffEdges b x → ShowsPoint a b m e x
    go (inl p) = shared_is_shown a b m t e c p.found (contains_of_among p.found (edges b) p.among) x hx k p.passes (on_shown a b va vb e c g r m u x hx k here p.found (contains_of_among p.found (edges b) p.among) p.passes)
    go (inr o) = off_shown a b vb m t e c x hx k here o
