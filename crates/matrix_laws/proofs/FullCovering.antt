-- A matrix that shows all that gaps can show covers each edge, whatever meets it.
use Rattle.std.proofs.Common.{◌≡◌, ◌≢◌, ◌⊎◌, inl, inr, true, refl, sym, subst, Contains}
use Rattle.geometry_model.specs.Points.{Point, IsPoint}
use Rattle.geometry_model.specs.Geometries.{Edge, Geometry, kind, edges}
use Rattle.geometry_model.specs.Sides.{on}
use Rattle.geometry_model.specs.Dimensions.{Matrix}
use Rattle.geometry_model.specs.Labels.{below, above}
use Rattle.geometry_model.specs.Validity.{IsValid}
use Rattle.geometry_model.specs.declared.shapes.Kind.TheVariants as kinds
use Rattle.geometry_model.specs.declared.point_sets.Location.{Location}
use Rattle.geometry_model.specs.declared.point_sets.Location.TheVariants.{Interior, Exterior}
use Rattle.geometry_model.specs.declared.point_sets.Dimension.TheVariants.{Zero, One, Two}
use Rattle.geometry_laws.proofs.Each.{Passing}
use Rattle.geometry_laws.proofs.Cuts.{contains_of_among, not_less_self, one_line}
use Rattle.matrix_laws.specs.Cells.{Shows, ShowsPoint, IsNoCut, Covers}
use Rattle.matrix_laws.proofs.Growing.{shows_at, shows_less}
use Rattle.matrix_laws.specs.Gaps.{SharesNoStretch, mostly, of_own_edges}
use Rattle.matrix_laws.specs.Covering.{IsOffEdges, ShowsOff, ShowsEnds}
use Rattle.matrix_laws.specs.CoveringLaws.{IsFullOff, IsFullOn, IsFullAlong}
use Rattle.matrix_laws.proofs.GapTheorems.{off_edges_is_no_boundary}
use Rattle.matrix_laws.proofs.Stretching.{SharesFurther, shares_further, spread}
use Rattle.matrix_laws.proofs.Located.{Side, lower_side, upper_side, on_or_off, off_is_shown, ShowsShared, shared_is_shown, Overlaps, overlaps}

-- ---- off b's edges
-- off b's edges a point is in b's exterior, or in the interior of an area, and the matrix shows what either wants
pub full_off_at : (a b : Geometry) (m : Matrix) (e : Edge) → IsFullOff a b m e → (x : Point) → IsOffEdges b x → ShowsOff a m e (mostly b x)
full_off_at a b m e h x o = go (off_edges_is_no_boundary b x o)
  where
    go : (mostly b x ≡ Exterior) ⊎ ((kind b ≡ kinds.Area) × (mostly b x ≡ Interior)) → ShowsOff a m e (mostly b x)
    go (inl q) = subst (ShowsOff a m e) (sym q) h.in_exterior
    go (inr q) = subst (ShowsOff a m e) (sym q.1) (h.in_interior q.0)

-- ---- on an edge of b: each two parts that sides can be in
pub full_on_sides : (a b : Geometry) (m : Matrix) → IsFullOn a b m → (l k : Location) → Side a l → Side b k → Shows m l k Two
full_on_sides a b m h l k (inl s) (inl t) = shows_at m Two Exterior l Exterior k (sym s) (sym t) h.outer
full_on_sides a b m h l k (inl s) (inr t) = shows_at m Two Exterior l Interior k (sym s) (sym t.1) (h.second t.0)
full_on_sides a b m h l k (inr s) (inl t) = shows_at m Two Interior l Exterior k (sym s.1) (sym t) (h.first s.0)
full_on_sides a b m h l k (inr s) (inr t) = shows_at m Two Interior l Interior k (sym s.1) (sym t.1) (h.inner s.0 t.0)

-- so the matrix shows what a point on an edge of b wants
pub full_along_at : (a b : Geometry) (m : Matrix) (e : Edge) → IsFullAlong a b m e → (x : Point) → ShowsShared a b m e x
full_along_at a b m e h x = record {
  point = inr (shows_less m (of_own_edges (kind a)) (of_own_edges (kind b)) One Zero refl h.piece);
  piece = λ u. h.piece;
  lower = λ u n. full_on_sides a b m (h.sides n) (below a x) (below b x) (lower_side a x) (lower_side b x);
  upper = λ u n. full_on_sides a b m (h.sides n) (above a x) (above b x) (upper_side a x) (upper_side b x);
}

-- each point of the edge is on an edge of b or off all of them
pub full_covers : (a b : Geometry) → IsValid a → IsValid b → (e : Edge) → Contains (edges a) e → e.start ≢ e.end → (m : Matrix)
    → ShowsEnds a b m → IsFullOff a b m e → IsFullAlong a b m e → Covers a b m e
full_covers a b va vb e c w m t h k x hx l = go (on_or_off b x)
  where
    go : Passing (λ f. on f x) (edges b) ⊎ IsOffEdges b x → ShowsPoint a b m e x
    go (inl p) = shared_is_shown a b m t e c p.found (contains_of_among p.found (edges b) p.among) x hx l p.passes (full_along_at a b m e k x)
    go (inr o) = off_is_shown a b m t e c x hx l o (full_off_at a b m e h x o)

-- ---- where no edge of b shares a stretch, each point that one holds is a cut
-- a point of both that is no cut would be within both edges, on one line, so they would share a stretch
shared_is_cut : (a b : Geometry) (e : Edge) → Contains (edges a) e → e.start ≢ e.end → SharesNoStretch e (edges b) → (f : Edge) → Contains (edges b) f → (x : Point) → IsPoint x → on e x ≡ true → on f x ≡ true → IsNoCut a b x → ⊥
shared_is_cut a b e c w n f d x hx k l u = go (overlaps a b e f c d x hx k l u)
  where
    further : Overlaps e f x → SharesFurther e f x → ⊥
    further o s = not_less_self x s.point (n f d o.one_line x s.point hx s.is_point k l s.on_first s.on_second) s.further

    go : Overlaps e f x → ⊥
    go o = further o (shares_further e f w (one_line e f o.one_line) x hx (spread e x hx k o.no_end) (spread f x hx l o.no_other_end))

-- so a point on an edge of b is a cut, of which only a point is to be shown, and all others lie off b's edges
pub full_off_covers : (a b : Geometry) → IsValid a → IsValid b → (e : Edge) → Contains (edges a) e → e.start ≢ e.end → (m : Matrix)
    → ShowsEnds a b m → IsFullOff a b m e → Shows m (of_own_edges (kind a)) (of_own_edges (kind b)) Zero → SharesNoStretch e (edges b) → Covers a b m e
full_off_covers a b va vb e c w m t h z n x hx l = go (on_or_off b x)
  where
    cut : (f : Edge) → Contains (edges b) f → on f x ≡ true → ShowsShared a b m e x
    cut f d k = record {
      point = inr z;
      piece = λ u. absurd (shared_is_cut a b e c w n f d x hx l k u);
      lower = λ u v. absurd (shared_is_cut a b e c w n f d x hx l k u);
      upper = λ u v. absurd (shared_is_cut a b e c w n f d x hx l k u);
    }

    go : Passing (λ f. on f x) (edges b) ⊎ IsOffEdges b x → ShowsPoint a b m e x
    go (inl p) = shared_is_shown a b m t e c p.found (contains_of_among p.found (edges b) p.among) x hx l p.passes (cut p.found (contains_of_among p.found (edges b) p.among) p.passes)
    go (inr o) = off_is_shown a b m t e c x hx l o (full_off_at a b m e h x o)
