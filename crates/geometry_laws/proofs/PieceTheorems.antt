-- The laws of pieces and neighbourhoods, for two geometries.
use Rattle.std.proofs.Common.{◌≡◌, false, List, [], ◌∷◌, ◌++◌, sym}
use Rattle.basics.proofs.Bools.{by_contraries}
use Rattle.geometry_model.specs.Points.{Position, Point, IsPoint}
use Rattle.geometry_model.specs.Geometries.{Geometry, edges, listed, rings}
use Rattle.geometry_model.specs.Sides.{on}
use Rattle.geometry_model.specs.Dimensions.{HasTriangle, common}
use Rattle.geometry_model.specs.Locations.{is_at, locate}
use Rattle.geometry_model.specs.Labels.{above, below, is_upright, edges_of_both}
use Rattle.geometry_model.specs.Pieces.{Piece}
use Rattle.geometry_laws.specs.RingLaws.{IsClosed}
use Rattle.geometry_laws.specs.PieceLaws.{HasClosedRings, IsPieceOf, IsInside, IsOff}
use Rattle.geometry_laws.proofs.Cuts.{Ends, piece_ends}
use Rattle.geometry_laws.proofs.Each.{Each, among_left, among_right, each_append}
use Rattle.geometry_laws.proofs.RingParity.{each_from_all}
use Rattle.geometry_laws.proofs.Locating.{Off, locate_off}
use Rattle.geometry_laws.proofs.Triangles.{dot, dots, dot_is_at, marks, triangle_of_off}
use Rattle.geometry_laws.proofs.WithinPiece.{Belongs, locate_within, above_within, below_within, not_upright_edge}

-- the edges and positions of each geometry are among those of both: of the first
pub first_belongs : (a b : Geometry) → Belongs (edges_of_both a b) (listed a ++ listed b) a
first_belongs a b = record { edge = λ e m. among_left e (edges a) (edges b) m; position = λ p m. among_left p (listed a) (listed b) m }

-- and of the second
pub second_belongs : (a b : Geometry) → Belongs (edges_of_both a b) (listed a ++ listed b) b
second_belongs a b = record { edge = λ e m. among_right e (edges a) (edges b) m; position = λ p m. among_right p (listed a) (listed b) m }

-- no cut lies strictly within a piece of two geometries, so all its points lie alike in both
pub labels_constant : (a b : Geometry) → HasClosedRings a → HasClosedRings b → (c : Piece) (h : IsPieceOf a b c) → (x y : Point) → IsInside a b c h x → IsInside a b c h y → (locate a x ≡ locate a y) × (locate b x ≡ locate b y)
labels_constant a b ca cb c h x y i j = let d : Ends c = piece_ends (edges_of_both a b) (listed a ++ listed b) c h in (
  locate_within (edges_of_both a b) (listed a ++ listed b) c h d x y i j a (each_from_all IsClosed (rings a) ca) (first_belongs a b),
  locate_within (edges_of_both a b) (listed a ++ listed b) c h d x y i j b (each_from_all IsClosed (rings b) cb) (second_belongs a b),
)

-- and where it isn't vertical, both its sides are labelled alike at all of them
pub sides_constant : (a b : Geometry) → HasClosedRings a → HasClosedRings b → (c : Piece) (h : IsPieceOf a b c) → is_upright c ≡ false → (x y : Point) → IsInside a b c h x → IsInside a b c h y
    → ((above a x ≡ above a y) × (above b x ≡ above b y)) × ((below a x ≡ below a y) × (below b x ≡ below b y))
sides_constant a b ca cb c h f x y i j = let d : Ends c = piece_ends (edges_of_both a b) (listed a ++ listed b) c h in (
  (
    above_within (edges_of_both a b) (listed a ++ listed b) c h d x y i j a (each_from_all IsClosed (rings a) ca) (first_belongs a b),
    above_within (edges_of_both a b) (listed a ++ listed b) c h d x y i j b (each_from_all IsClosed (rings b) cb) (second_belongs a b),
  ),
  (
    below_within (edges_of_both a b) (listed a ++ listed b) c h d (not_upright_edge (edges_of_both a b) (listed a ++ listed b) c h d f) x y i j a (each_from_all IsClosed (rings a) ca) (first_belongs a b),
    below_within (edges_of_both a b) (listed a ++ listed b) c h d (not_upright_edge (edges_of_both a b) (listed a ++ listed b) c h d f) x y i j b (each_from_all IsClosed (rings b) cb) (second_belongs a b),
  ),
)

-- ---- off both
-- a point at none of the positions is off their dots
dots_of : (ps : List Position) (p : Point) → IsPoint p → Each (λ a. is_at p a ≡ false) ps → Each (λ e. on e p ≡ false) (dots ps)
dots_of [] p hp h = tt
dots_of (a ∷ ps) p hp h = (by_contraries (on (dot a) p) (is_at p a) (dot_is_at a p hp) h.0, dots_of ps p hp h.1)

-- a point off both geometries is off all their marks
pub off_marks : (a b : Geometry) (p : Point) → IsPoint p → Off a p → Off b p → Each (λ e. on e p ≡ false) (marks a b)
off_marks a b p hp h k = each_append (λ e. on e p ≡ false) (edges_of_both a b) (dots (listed a ++ listed b))
    (each_append (λ e. on e p ≡ false) (edges a) (edges b) h.edges_off k.edges_off)
    (dots_of (listed a ++ listed b) p hp (each_append (λ q. is_at p q ≡ false) (listed a) (listed b) h.listed_off k.listed_off))

off_from : (g : Geometry) (p : Point) → IsOff g p → Off g p
off_from g p o = record { edges_off = each_from_all (λ e. on e p ≡ false) (edges g) o.edges; listed_off = each_from_all (λ a. is_at p a ≡ false) (listed g) o.positions }

-- so around it there is a triangle of points that lie in both geometries where it does
pub off_has_triangle : (a b : Geometry) → HasClosedRings a → HasClosedRings b → (p : Point) → IsPoint p → IsOff a p → IsOff b p → HasTriangle (common a (locate a p) b (locate b p))
off_has_triangle a b ca cb p hp h k = triangle_of_off a b p (locate a p) (locate b p) (each_from_all IsClosed (rings a) ca) (each_from_all IsClosed (rings b) cb) hp
    (off_marks a b p hp (off_from a p h) (off_from b p k)) (sym (locate_off a p hp (off_from a p h))) (sym (locate_off b p hp (off_from b p k)))
