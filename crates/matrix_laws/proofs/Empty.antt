-- Geometries whose envelopes don't meet have no point of both, so these cells of their matrix are empty.
use Rattle.std.proofs.Common.{◌≡◌, ◌≢◌, true, false, refl, sym, ◌∙◌, arith}
use Rattle.geometry_model.specs.Points.{Point}
use Rattle.geometry_model.specs.Geometries.{Geometry}
use Rattle.geometry_model.specs.Dimensions.{HasPoint, HasSegment, HasTriangle, HasDimension, Matrix, cell, common, IsMatrix, weighted, weighted_three}
use Rattle.geometry_model.specs.Locations.{locate}
use Rattle.geometry_model.specs.Envelopes.{envelope, meets}
use Rattle.geometry_model.specs.declared.point_sets.Location.{Location}
use Rattle.geometry_model.specs.declared.point_sets.Location.TheVariants.{Exterior}
use Rattle.geometry_model.specs.declared.point_sets.Dimension.{Dimension}
use Rattle.geometry_model.specs.declared.point_sets.Dimension.TheVariants.{Empty, Zero, One, Two}
use Rattle.geometry_laws.specs.PieceLaws.{HasClosedRings}
use Rattle.geometry_laws.proofs.Lines.{weighted_is_point, weighted_three_is_point}
use Rattle.matrix_laws.proofs.Outside.{common_point_meets}

-- a set that holds a segment holds a point: the one at equal weights of the segment's ends
point_of_segment : (S : Point → Type 0) → HasSegment S → HasPoint S
point_of_segment S h = record { p = weighted 1 h.p 1 h.q; is_point = weighted_is_point 1 h.p 1 h.q h.p_is_point h.q_is_point (omega arith); within = h.within 1 1 (omega arith) }

-- a set that holds a triangle holds the point at equal weights of its corners
point_of_triangle : (S : Point → Type 0) → HasTriangle S → HasPoint S
point_of_triangle S h = record { p = weighted_three 1 h.p 1 h.q 1 h.r; is_point = weighted_three_is_point 1 h.p 1 h.q 1 h.r h.p_is_point h.q_is_point h.r_is_point (omega arith); within = h.within 1 1 1 (omega arith) }

-- a set without a point has the dimension Empty, since every other dimension shows a point
empty_dimension : (S : Point → Type 0) (d : Dimension) → HasDimension S d → (HasPoint S → ⊥) → d ≡ Empty
empty_dimension S Two h f = absurd (f (point_of_triangle S h))
empty_dimension S One h f = absurd (f (point_of_segment S h.0))
empty_dimension S Zero h f = absurd (f h.0)
empty_dimension S Empty h f = refl

not_exterior : (l k : Location) → l ≡ k → (k ≡ Exterior → ⊥) → l ≢ Exterior
not_exterior l k e f g = f (sym e ∙ g)

-- where the envelopes don't meet no point is of both, so each cell without an exterior is of the empty set
pub nothing_common : (a b : Geometry) → HasClosedRings a → HasClosedRings b → meets (envelope a) (envelope b) ≡ false → (m : Matrix) → IsMatrix a b m → (l k : Location) → l ≢ Exterior → k ≢ Exterior → cell m l k ≡ Empty
nothing_common a b ca cb e m h l k f g = empty_dimension (common a l b k) (cell m l k) (h l k) (λ p. apart p)
  where
    apart : HasPoint (common a l b k) → ⊥
    apart p = let z : true ≡ false = sym (common_point_meets a b ca cb p.p p.is_point (not_exterior (locate a p.p) l ((p.within).0) f) (not_exterior (locate b p.p) k ((p.within).1) g)) ∙ e in absurd (cc)
