-- Edges of a whose points are all on edges of b, and when a matrix covers them.
use Rattle.std.proofs.Common.{◌≡◌, ◌≢◌, true, List, All, Contains}
use Rattle.std.proofs.lemmas.List.Elements.{All-contains}
use Rattle.geometry_model.specs.Points.{Point, IsPoint}
use Rattle.geometry_model.specs.Geometries.{Edge, Geometry, edges}
use Rattle.geometry_model.specs.Sides.{on}
use Rattle.geometry_model.specs.Dimensions.{Matrix}
use Rattle.geometry_model.specs.Labels.{below, above}
use Rattle.geometry_laws.proofs.Each.{Passing}
use Rattle.geometry_laws.proofs.Cuts.{contains_of_among, one_line}
use Rattle.matrix_laws.proofs.MatrixLists.{Some_of, some_from_any}
use Rattle.matrix_laws.specs.Cells.{ShowsPoint, IsNoCut, Covers}
use Rattle.matrix_laws.specs.Covering.{IsHeld, ShowsOn, ShowsEnds}
use Rattle.matrix_laws.specs.CoveringLaws.{IsFullAlong}
use Rattle.matrix_laws.proofs.Stretching.{SharesFurther, shares_further, spread, not_upright_either}
use Rattle.matrix_laws.proofs.Located.{lower_side, upper_side, shared_is_shown, Overlaps, overlaps}
use Rattle.matrix_laws.proofs.FullCovering.{full_on_sides, full_along_at}

-- an edge of b holds each point of a held edge
pub holder : (es : List Edge) (e : Edge) → IsHeld es e → (x : Point) → IsPoint x → on e x ≡ true → Passing (λ f. on f x) es
holder es e h x hx k = go (some_from_any (λ f. on f x ≡ true) es (h x hx k))
  where
    go : Some_of (λ f. on f x ≡ true) es → Passing (λ f. on f x) es
    go s = record { found = s.found; among = s.among; passes = s.has }

-- ---- where the matrix shows all that gaps along the edge can show
pub held_covers : (a b : Geometry) (e : Edge) → Contains (edges a) e → (m : Matrix) → ShowsEnds a b m → IsHeld (edges b) e → IsFullAlong a b m e → Covers a b m e
held_covers a b e c m t h k x hx l = go (holder (edges b) e h x hx l)
  where
    go : Passing (λ f. on f x) (edges b) → ShowsPoint a b m e x
    go p = shared_is_shown a b m t e c p.found (contains_of_among p.found (edges b) p.among) x hx l p.passes (full_along_at a b m e k x)

-- so it shows each gap of the edge, by any point within it
pub full_shows_on : (a b : Geometry) (m : Matrix) (e : Edge) → IsFullAlong a b m e → (y : Point) → ShowsOn a b m e y
full_shows_on a b m e h y = record {
  piece = h.piece;
  lower = λ n. full_on_sides a b m (h.sides n) (below a y) (below b y) (lower_side a y) (lower_side b y);
  upper = λ n. full_on_sides a b m (h.sides n) (above a y) (above b y) (upper_side a y) (upper_side b y);
}

-- ---- where the matrix covers the edges of b
-- edges of both that hold a point that is no cut are on one line: neither is vertical, or both are
not_upright_too : (a b : Geometry) (e f : Edge) → Contains (edges a) e → Contains (edges b) f → e.start ≢ e.end → (x : Point) → IsPoint x → on e x ≡ true → on f x ≡ true → IsNoCut a b x → e.start.x ≢ e.end.x → f.start.x ≢ f.end.x
not_upright_too a b e f c d w x hx k l u n = go (overlaps a b e f c d x hx k l u)
  where
    further : SharesFurther e f x → f.start.x ≢ f.end.x
    further s = not_upright_either e f x s.point n (record { lesser = hx; greater = s.is_point; lesser_on = k; greater_on = s.on_first; in_order = s.further }) l s.on_second

    go : Overlaps e f x → f.start.x ≢ f.end.x
    go o = further (shares_further e f w (one_line e f o.one_line) x hx (spread e x hx k o.no_end) (spread f x hx l o.no_other_end))

shown_by_other : (a b : Geometry) (m : Matrix) (e f : Edge) → Contains (edges a) e → Contains (edges b) f → e.start ≢ e.end → (x : Point) → IsPoint x → on e x ≡ true → on f x ≡ true → ShowsPoint a b m f x → ShowsPoint a b m e x
shown_by_other a b m e f c d w x hx k l s = record {
  point = s.point;
  piece = s.piece;
  lower = λ u n. s.lower u (not_upright_too a b e f c d w x hx k l u n);
  upper = λ u n. s.upper u (not_upright_too a b e f c d w x hx k l u n);
}

-- a point that an edge of b holds is shown with that edge
pub shown_by_covered : (a b : Geometry) (m : Matrix) → All (Covers a b m) (edges b) → (e : Edge) → Contains (edges a) e → e.start ≢ e.end → (x : Point) → IsPoint x → on e x ≡ true → Passing (λ f. on f x) (edges b) → ShowsPoint a b m e x
shown_by_covered a b m covered e c w x hx k p = let d : Contains (edges b) p.found = contains_of_among p.found (edges b) p.among in
    shown_by_other a b m e p.found c d w x hx k p.passes (All-contains (Covers a b m) (edges b) p.found covered d x hx p.passes)

-- so all points of a held edge are
pub held_by_covered : (a b : Geometry) (e : Edge) → Contains (edges a) e → e.start ≢ e.end → (m : Matrix) → All (Covers a b m) (edges b) → IsHeld (edges b) e → Covers a b m e
held_by_covered a b e c w m covered h x hx k = shown_by_covered a b m covered e c w x hx k (holder (edges b) e h x hx k)
