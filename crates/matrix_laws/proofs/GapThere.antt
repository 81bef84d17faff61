-- What a gap shows is there: a point of it that is no cut lies as its sample does.
use Rattle.std.proofs.Common.{◌≡◌, ◌≢◌, ◌⊎◌, inl, inr, true, false, refl, sym, ◌∙◌, List, ◌++◌, All, Contains}
use Rattle.std.proofs.lemmas.List.Elements.{Contains-append_left, All-contains}
use Rattle.geometry_model.specs.Points.{Point, IsPoint}
use Rattle.geometry_model.specs.Geometries.{Edge, Geometry, kind, edges, listed}
use Rattle.geometry_model.specs.Sides.{on}
use Rattle.geometry_model.specs.CutPoints.{IsCut}
use Rattle.geometry_model.specs.Locations.{locate}
use Rattle.geometry_model.specs.Labels.{below, above, edges_of_both, labelled_matrix}
use Rattle.geometry_model.specs.Validity.{IsValid}
use Rattle.geometry_model.specs.declared.shapes.Kind.TheVariants as kinds
use Rattle.geometry_model.specs.declared.point_sets.Location.{Location}
use Rattle.geometry_model.specs.declared.point_sets.Location.TheVariants.{Interior, Exterior}
use Rattle.geometry_model.specs.declared.point_sets.Dimension.TheVariants.{One, Two}
use Rattle.geometry_laws.proofs.Each.{Passing, each_of}
use Rattle.geometry_laws.proofs.CoverTheorems.{all_from_each}
use Rattle.geometry_laws.proofs.Cuts.{contains_of_among}
use Rattle.matrix_laws.specs.PolygonLaws.{ArePartedAs}
use Rattle.matrix_laws.proofs.Closing.{valid_rings_are_closed}
use Rattle.matrix_laws.specs.Cells.{Shows, IsNoCut}
use Rattle.matrix_laws.proofs.Growing.{shows_at}
use Rattle.matrix_laws.proofs.There.{piece_is_there, sides_are_there}
use Rattle.matrix_laws.specs.Gaps.{IsBetween, IsClear, IsShared, IsGap, mostly, of_own_edges}
use Rattle.matrix_laws.specs.Covering.{IsOffEdges, ShowsOff, ShowsOn, ShowsAt}
use Rattle.matrix_laws.proofs.Shared.{span_of_gap}
use Rattle.matrix_laws.proofs.GapTheorems.{gap_has_no_cut, gap_is_alike, own_edges_are_mostly, sides_off_edges, sides_of_no_area, sides_of_own_edge, sides_along_own_edge, shared_point_shares_gap, shared_gap_holds_ends}
use Rattle.matrix_laws.proofs.Stretching.{not_upright_either}
use Rattle.matrix_laws.proofs.Located.{is_area, on_or_off, AppliesMostly, no_cut_applies}

-- ---- the edge's point between, as one of the other edge
pub between_of_other : (e f : Edge) (p q x : Point) → IsShared e p q f → IsBetween e p q x → IsBetween f p q x
between_of_other e f p q x s i = record { is_point = i.is_point; is_on = s.1 x i; after = i.after; before = i.before }

-- the sides of two points of a gap that an edge of b shares
pub record SameSides (a b : Geometry) (x y : Point) : Type 0 where
  pub first_below : below a x ≡ below a y
  pub first_above : above a x ≡ above a y
  pub second_below : below b x ≡ below b y
  pub second_above : above b x ≡ above b y

-- each side lies alike all along an own edge: in a along the gap's edge, and in b along the edge that shares it
pub same_sides : (a b : Geometry) → IsValid a → IsValid b → (e : Edge) → Contains (edges a) e → e.start.x ≢ e.end.x → (p q : Point) → IsGap e (edges b) p q → (f : Edge) → Contains (edges b) f → IsShared e p q f
    → (x y : Point) → IsBetween e p q x → IsBetween e p q y → SameSides a b x y
same_sides a b va vb e c n p q g f d s x y i j = go (shared_gap_holds_ends e (edges b) p q f g d s)
  where
    go : (on f p ≡ true) × (on f q ≡ true) → SameSides a b x y
    go h = let u : (below a x ≡ below a y) × (above a x ≡ above a y) = sides_along_own_edge a va e c n p q x y g.lesser_is_point g.greater_is_point g.lesser_on g.greater_on i j in
        let v : (below b x ≡ below b y) × (above b x ≡ above b y) = sides_along_own_edge b vb f d (not_upright_either e f p q n (span_of_gap e (edges b) p q g) h.0 h.1)
        p q x y g.lesser_is_point g.greater_is_point h.0 h.1 (between_of_other e f p q x s i) (between_of_other e f p q y s j) in
        record { first_below = u.0; first_above = u.1; second_below = v.0; second_above = v.1 }

-- ---- off b's edges
-- an edge that misses one point of a gap misses all of them
off_along : (e : Edge) (fs : List Edge) (p q : Point) → IsGap e fs p q → (x y : Point) → IsBetween e p q x → IsBetween e p q y → All (λ f. on f y ≡ false) fs → All (λ f. on f x ≡ false) fs
off_along e fs p q g x y i j h = all_from_each (λ f. on f x ≡ false) fs (each_of (λ f. on f x ≡ false) fs (λ f m. go f (All-contains (λ k. on k y ≡ false) fs f h (contains_of_among f fs m)) (All-contains (λ k. IsClear e p q k ⊎ IsShared e p q k) fs f g.whole (contains_of_among f fs m))))
  where
    go : (f : Edge) → on f y ≡ false → IsClear e p q f ⊎ IsShared e p q f → on f x ≡ false
    go f k (inl n) = n x i
    go f k (inr s) = absurd (let z : true ≡ false = sym (s.1 y j) ∙ k in cc)

-- ---- what is there at a point of the gap that is no cut
-- where the point lies, and what the label matrix shows of it and of its sides
pub record AtNoCut (a b : Geometry) (e : Edge) (x : Point) : Type 0 where
  pub applies : AppliesMostly a b x
  pub no_cut : IsNoCut a b x
  pub piece : Shows (labelled_matrix a b) (locate a x) (locate b x) One
  pub sides : e.start.x ≢ e.end.x → Shows (labelled_matrix a b) (below a x) (below b x) Two × Shows (labelled_matrix a b) (above a x) (above b x) Two

-- a point that is no cut lies where almost all do, and its piece and its sides are there
at_no_cut : (a b : Geometry) → IsValid a → IsValid b → (e : Edge) → Contains (edges a) e → (p q x : Point) → IsBetween e p q x → IsNoCut a b x → AtNoCut a b e x
at_no_cut a b va vb e c p q x i f = record {
  applies = no_cut_applies a b e c x i.is_point i.is_on f;
  no_cut = f;
  piece = piece_is_there a b (valid_rings_are_closed a va) (valid_rings_are_closed b vb) e (Contains-append_left (edges a) (edges b) e c) x i.is_point i.is_on f;
  sides = λ n. sides_are_there a b (valid_rings_are_closed a va) (valid_rings_are_closed b vb) e (Contains-append_left (edges a) (edges b) e c) n x i.is_point i.is_on f;
}

-- a side of an area's edge is interior and the other exterior, and those of other kinds are exterior
outer_there : (a b : Geometry) → IsValid a → (e : Edge) → Contains (edges a) e → (x : Point) → IsPoint x → on e x ≡ true → IsNoCut a b x → e.start.x ≢ e.end.x → (l : Location)
    → Shows (labelled_matrix a b) (below a x) l Two → Shows (labelled_matrix a b) (above a x) l Two → Shows (labelled_matrix a b) Exterior l Two
outer_there a b va e c x hx h f n l u v = go (is_area (kind a))
  where
    parted : ArePartedAs (below a x) (above a x) → Shows (labelled_matrix a b) Exterior l Two
    parted (inl q) = shows_at (labelled_matrix a b) Two (above a x) Exterior l l q.1 refl v
    parted (inr q) = shows_at (labelled_matrix a b) Two (below a x) Exterior l l q.0 refl u

    go : (kind a ≡ kinds.Area) ⊎ (kind a ≢ kinds.Area) → Shows (labelled_matrix a b) Exterior l Two
    go (inl k) = parted (sides_of_own_edge a b va k e c n x hx h f)
    go (inr k) = shows_at (labelled_matrix a b) Two (below a x) Exterior l l ((sides_of_no_area a x k).0) refl u

-- and of an area's edge so is what the interior side shows
inner_there : (a b : Geometry) → IsValid a → (e : Edge) → Contains (edges a) e → (x : Point) → IsPoint x → on e x ≡ true → IsNoCut a b x → kind a ≡ kinds.Area → e.start.x ≢ e.end.x → (l : Location)
    → Shows (labelled_matrix a b) (below a x) l Two → Shows (labelled_matrix a b) (above a x) l Two → Shows (labelled_matrix a b) Interior l Two
inner_there a b va e c x hx h f k n l u v = parted (sides_of_own_edge a b va k e c n x hx h f)
  where
    parted : ArePartedAs (below a x) (above a x) → Shows (labelled_matrix a b) Interior l Two
    parted (inl q) = shows_at (labelled_matrix a b) Two (below a x) Interior l l q.0 refl u
    parted (inr q) = shows_at (labelled_matrix a b) Two (above a x) Interior l l q.1 refl v

-- ---- the gap's sample off b's edges
-- it lies as the point that is no cut, so what is there of that one is what it shows
off_there : (a b : Geometry) → IsValid a → IsValid b → (e : Edge) → Contains (edges a) e → (p q x y : Point) → IsGap e (edges b) p q → IsBetween e p q x → IsBetween e p q y → AtNoCut a b e x → IsOffEdges b y → ShowsOff a (labelled_matrix a b) e (mostly b y)
off_there a b va vb e c p q x y g i j t o = record {
  piece = shows_at (labelled_matrix a b) One (locate a x) (of_own_edges (kind a)) (locate b x) (mostly b y) (t.applies).0 ((t.applies).1 ∙ alike) t.piece;
  outer = λ n. outer_there a b va e c x i.is_point i.is_on t.no_cut n (mostly b y) (lower n) (upper n);
  inner = λ k n. inner_there a b va e c x i.is_point i.is_on t.no_cut k n (mostly b y) (lower n) (upper n);
}
  where
    alike : mostly b x ≡ mostly b y
    alike = gap_is_alike b (valid_rings_are_closed b vb) e p q g x y i j

    off : IsOffEdges b x
    off = off_along e (edges b) p q g x y i j o

    lower : e.start.x ≢ e.end.x → Shows (labelled_matrix a b) (below a x) (mostly b y) Two
    lower n = shows_at (labelled_matrix a b) Two (below a x) (below a x) (below b x) (mostly b y) refl ((sides_off_edges b x i.is_point off).0 ∙ alike) ((t.sides n).0)

    upper : e.start.x ≢ e.end.x → Shows (labelled_matrix a b) (above a x) (mostly b y) Two
    upper n = shows_at (labelled_matrix a b) Two (above a x) (above a x) (above b x) (mostly b y) refl ((sides_off_edges b x i.is_point off).1 ∙ alike) ((t.sides n).1)

-- ---- the gap's sample on an edge of b
-- all along a shared gap the sides lie alike, so what is there of the point that is no cut is what it shows
on_there : (a b : Geometry) → IsValid a → IsValid b → (e : Edge) → Contains (edges a) e → (p q x y : Point) → IsGap e (edges b) p q → IsBetween e p q x → IsBetween e p q y → AtNoCut a b e x → (f : Edge) → Contains (edges b) f → IsShared e p q f → ShowsOn a b (labelled_matrix a b) e y
on_there a b va vb e c p q x y g i j t f d s = record {
  piece = shows_at (labelled_matrix a b) One (locate a x) (of_own_edges (kind a)) (locate b x) (of_own_edges (kind b)) (t.applies).0 ((t.applies).1 ∙ own_edges_are_mostly b f d x (s.1 x i)) t.piece;
  lower = λ n. shows_at (labelled_matrix a b) Two (below a x) (below a y) (below b x) (below b y) (alike n).first_below (alike n).second_below ((t.sides n).0);
  upper = λ n. shows_at (labelled_matrix a b) Two (above a x) (above a y) (above b x) (above b y) (alike n).first_above (alike n).second_above ((t.sides n).1);
}
  where
    alike : e.start.x ≢ e.end.x → SameSides a b x y
    alike n = same_sides a b va vb e c n p q g f d s x y i j

-- each gap has a point that is no cut, and what is shown by any of its points is there at that one
pub gap_is_there : (a b : Geometry) → IsValid a → IsValid b → (e : Edge) → Contains (edges a) e → e.start ≢ e.end → (p q y : Point) → IsGap e (edges b) p q → IsBetween e p q y → ShowsAt a b (labelled_matrix a b) e y
gap_is_there a b va vb e c w p q y g j = go (gap_has_no_cut e (edges b) p q g (edges_of_both a b) (listed a ++ listed b))
  where
    go : (x : Point) × IsBetween e p q x × (IsCut (edges_of_both a b) (listed a ++ listed b) x → ⊥) → ShowsAt a b (labelled_matrix a b) e y
    go s = record {
      off = λ o. off_there a b va vb e c p q s.0 y g s.1 j (at_no_cut a b va vb e c p q s.0 s.1 s.2) o;
      shared = λ n. shared n (on_or_off b y);
    }
      where
        shared : (IsOffEdges b y → ⊥) → Passing (λ f. on f y) (edges b) ⊎ IsOffEdges b y → ShowsOn a b (labelled_matrix a b) e y
        shared n (inr o) = absurd (n o)
        shared n (inl k) = on_there a b va vb e c p q s.0 y g s.1 j (at_no_cut a b va vb e c p q s.0 s.1 s.2) k.found (contains_of_among k.found (edges b) k.among)
            (shared_point_shares_gap e (edges b) p q y k.found g (contains_of_among k.found (edges b) k.among) j k.passes)
