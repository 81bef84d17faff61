-- Which of the places that show a fault is the first: edges by their order in the first ring and then in the second, rings by their order in the first
-- polygon and then in the second, and of two holes the second inside the first before the other way round (this project's choice).
use Rattle.std.specs.Prelude.{◌≡◌, ℕ, ◌<◌, ◌⊎◌, false, List, [], ◌∷◌, Some, slice_get}
use Rattle.geometry_model.specs.Points.{Position}
use Rattle.geometry_model.specs.Geometries.{Geometry, rings, elements}
use Rattle.geometry_model.specs.Validity.{RingsShare, inside}
use Rattle.geometry_model.specs.declared.validity_faults.ValidityFault.{ValidityFault}
use Rattle.geometry_model.specs.declared.validity_faults.ValidityFault.TheVariants.{RingNotSimple, RingsMeet, HolesNested, ElementsMeet}
use Rattle.witnesses.specs.FaultPlaces.{IsInsideAt, IsPlaceOf, MeetsOne}
use Rattle.witnesses.specs.Places.{IsFirstClash, IsFirstMeeting}
use Rattle.witnesses.specs.declared.shared.SharedPlace.{SharedPlace}
use Rattle.witnesses.specs.declared.places.Place.{Place}
use Rattle.witnesses.specs.declared.places.Place.TheVariants.{Shared, Inside}

-- the place: where a ring meets the first of some rings that it meets
pub record IsFirstMeetingWithOne (r : List Position) (others : List (List Position)) (place : SharedPlace) : Type 0 where
  pub n : ℕ
  pub s : List Position
  pub second : slice_get others n ≡ Some s
  pub meeting : IsFirstMeeting r s place
  pub none_before : (k : ℕ) (q : List Position) → k < n → slice_get others k ≡ Some q → RingsShare r q → ⊥

-- the place: where the first ring of the one polygon that meets a ring of the other meets the first such ring
pub record IsFirstMeetingOfPolygons (d e : List (List Position)) (place : SharedPlace) : Type 0 where
  pub n : ℕ
  pub r : List Position
  pub first : slice_get d n ≡ Some r
  pub with : IsFirstMeetingWithOne r e place
  pub none_before : (k : ℕ) (q : List Position) → k < n → slice_get d k ≡ Some q → MeetsOne q e → ⊥

-- the first position of the second hole inside the first, or else that of the first inside the second
abbrev pub IsFirstInside : List Position → List Position → Position → Type 0
IsFirstInside r s at = IsInsideAt (r ∷ []) s at ⊎ ((inside r s ≡ false) × IsInsideAt (s ∷ []) r at)

-- no place that shows that the geometry has the fault comes before this one
abbrev pub IsFirstPlaceOf : Geometry → ValidityFault → Place → Type 0
IsFirstPlaceOf g (RingNotSimple i) place =
    (ring : List Position) × (shared : SharedPlace) × (slice_get (rings g) i ≡ Some ring) × IsFirstClash ring shared × (place ≡ Shared shared)
IsFirstPlaceOf g (RingsMeet i j) place =
    (r s : List Position) × (shared : SharedPlace) × (slice_get (rings g) i ≡ Some r) × (slice_get (rings g) j ≡ Some s) × IsFirstMeeting r s shared
    × (place ≡ Shared shared)
IsFirstPlaceOf g (HolesNested i j) place =
    (r s : List Position) × (at : Position) × (slice_get (rings g) i ≡ Some r) × (slice_get (rings g) j ≡ Some s) × IsFirstInside r s at × (place ≡ Inside at)
IsFirstPlaceOf g (ElementsMeet i j) place =
    (d e : List (List Position)) × (shared : SharedPlace) × (slice_get (elements g) i ≡ Some d) × (slice_get (elements g) j ≡ Some e)
    × IsFirstMeetingOfPolygons d e shared × (place ≡ Shared shared)
-- any other fault has one place
IsFirstPlaceOf g fault place = IsPlaceOf g fault place
