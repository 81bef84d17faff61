-- Positions outside the envelope of the other geometry are in its exterior.
use Rattle.std.proofs.Common.{◌≡◌, ◌≢◌, true, false, refl, sym, ◌∙◌, subst, Option, Some, arith}
use Rattle.std.proofs.lemmas.List.Elements.{All-nil}
use Rattle.geometry_model.specs.Points.{Position, point_at}
use Rattle.geometry_model.specs.Geometries.{Geometry}
use Rattle.geometry_model.specs.Locations.{locate}
use Rattle.geometry_model.specs.Envelopes.{Envelope, envelope, envelope_at, overlap, meets}
use Rattle.geometry_model.specs.Validity.{IsValid}
use Rattle.geometry_model.specs.declared.point_sets.Location.{Location}
use Rattle.geometry_model.specs.declared.point_sets.Location.TheVariants.{Interior, Boundary, Exterior}
use Rattle.geometry_laws.specs.RingLaws.{IsClosed}
use Rattle.geometry_laws.proofs.RingParity.{position_is_point}
use Rattle.matrix_laws.proofs.Closing.{valid_rings_are_closed}
use Rattle.matrix_laws.proofs.Outside.{common_point_meets}
use Rattle.de9im.proofs.ListedPositions.{listed_is_interior}

-- the position as a geometry of its own would have a point in common with the other one, and their envelopes would meet (06-103r4, 6.1.4)
pub outside_is_exterior : (b : Geometry) → IsValid b → (around : Envelope) → envelope b ≡ Some around → (p : Position) → overlap (envelope_at p) around ≡ false → locate b (point_at p) ≡ Exterior
outside_is_exterior b vb around is p far = go (locate b (point_at p)) refl
  where
    alone : Geometry
    alone = Geometry.Point (Some p)

    there : locate alone (point_at p) ≡ Exterior → ⊥
    there e = let z : Interior ≡ Exterior = sym (listed_is_interior alone p (0, omega arith, refl)) ∙ e in cc

    common : locate b (point_at p) ≢ Exterior → ⊥
    common n =
        let met = common_point_meets alone b (All-nil IsClosed) (valid_rings_are_closed b vb) (point_at p) (position_is_point p) there n in
        let y : true ≡ false = sym (subst (λ (o : Option Envelope). meets (Some (envelope_at p)) o ≡ true) is met) ∙ far in
        cc

    go : (l : Location) → locate b (point_at p) ≡ l → locate b (point_at p) ≡ Exterior
    go Exterior k = k
    go Interior k = absurd (common (λ m. let z : Interior ≡ Exterior = sym k ∙ m in cc))
    go Boundary k = absurd (common (λ m. let z : Boundary ≡ Exterior = sym k ∙ m in cc))
