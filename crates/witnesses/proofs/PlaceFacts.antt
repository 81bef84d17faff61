-- What a place shows, fault by fault.
use Rattle.std.proofs.Common.{◌≡◌, ◌⊎◌, inl, inr, refl, sym, subst, ◌∙◌, ℕ, ◌+◌, ◌-◌, ◌<◌, true, false, List, [], ◌∷◌, Option, Some, None, IfSome, IfNone, slice_get, arith}
use Rattle.std.proofs.lemmas.Option.{slice_get_within, same_Some}
use Rattle.basics.proofs.Lists.{contains_at}
use Rattle.basics.proofs.Bools.{not_both}
use Rattle.geometry_model.specs.Points.{Position, point_at}
use Rattle.geometry_model.specs.Geometries.{Geometry, rings}
use Rattle.geometry_model.specs.Crossings.{odd_above}
use Rattle.geometry_model.specs.Validity.{HasFault, IsNotSimple, RingsShare, inside}
use Rattle.geometry_model.specs.declared.validity_faults.ValidityFault.{ValidityFault}
use Rattle.geometry_model.specs.declared.validity_faults.ValidityFault.TheVariants.{TooFewPoints, RingNotClosed, RingNotSimple, RingsMeet, HoleOutside, HolesNested, ElementsMeet, ElementInside}
use Rattle.witnesses.specs.Places.{IsClashOf, IsMeetingOf}
use Rattle.witnesses.specs.declared.shared.SharedPlace.{SharedPlace}
use Rattle.witnesses.specs.declared.places.Place.{Place}
use Rattle.witnesses.specs.declared.places.Place.TheVariants.{Shared, Outside, Inside}
use Rattle.witnesses.specs.Numbers.{AreNumbersAround}
use Rattle.witnesses.specs.FaultPlaces.{IsPlaceOf, AreOfOne, IsInsideAt}
use Rattle.witnesses.proofs.RingNumbers.{ring_there, one_polygon, ring_of_it}
use Rattle.witnesses.proofs.PartFacts.{isnt_closed, inside_first, polygon_first}

pub if_none : {A : Type 0} (o : Option A) (P : Type 0) → P → IfNone o P
if_none None P h = h
if_none (Some x) P h = tt

-- ---- two rings of one polygon
pub two_of_one : (g : Geometry) (number first count : ℕ) → AreNumbersAround g number first count → (k l m n : ℕ) (r s : List Position) → m ≡ first + k → n ≡ first + l → k < l → l < count
    → slice_get (rings g) m ≡ Some r → slice_get (rings g) n ≡ Some s → AreOfOne g k l m n r s
two_of_one g number first count h k l m n r s km ln later within at_m at_n = record {
  element = record { first = first; rings = h.rings };
  numbered = contains_at _ h.place (record { first = first; rings = h.rings }) h.numbered;
  later = later;
  first = ring_of_it g number first count h k m r km (omega (arith, later, within)) at_m;
  second = ring_of_it g number first count h l n s ln within at_n;
}

same_ring : (g : Geometry) (n : ℕ) (r s : List Position) → slice_get (rings g) n ≡ Some r → slice_get (rings g) n ≡ Some s → r ≡ s
same_ring g n r s e f = same_Some r s (sym e ∙ f)

missing : (g : Geometry) (n : ℕ) (r : List Position) → slice_get (rings g) n ≡ None → slice_get (rings g) n ≡ Some r → ⊥
missing g n r none at = let h : Some r ≡ None = sym at ∙ none in absurd cc

-- ---- V4
pub meet_apart : (g : Geometry) (i j first count : ℕ) → AreNumbersAround g i first count → HasFault g (RingsMeet i j) → (i < j) × (j - first < count)
meet_apart g i j first count h f = let one = one_polygon g i first count h f.0 f.1 f.3 f.5 f.7 in (omega (arith, f.6, f.7.0, f.8.0), omega (arith, f.8.0, one.0, one.1, slice_get_within f.0.rings f.2 f.4 f.8.1))

pub meet_none : (g : Geometry) (i j : ℕ) (r s : List Position) → slice_get (rings g) i ≡ Some r → slice_get (rings g) j ≡ Some s → (RingsShare r s → ⊥) → HasFault g (RingsMeet i j) → ⊥
meet_none g i j r s at_i at_j none f = none (subst (λ (q : List Position). RingsShare r q) (same_ring g j f.4 s (ring_there g f.0 f.2 j f.4 f.5 f.8) at_j)
    (subst (λ (q : List Position). RingsShare q f.4) (same_ring g i f.3 r (ring_there g f.0 f.1 i f.3 f.5 f.7) at_i) f.9))

pub meet_no_first : (g : Geometry) (i j : ℕ) → slice_get (rings g) i ≡ None → HasFault g (RingsMeet i j) → ⊥
meet_no_first g i j none f = missing g i f.3 none (ring_there g f.0 f.1 i f.3 f.5 f.7)

pub meet_no_second : (g : Geometry) (i j : ℕ) → slice_get (rings g) j ≡ None → HasFault g (RingsMeet i j) → ⊥
meet_no_second g i j none f = missing g j f.4 none (ring_there g f.0 f.2 j f.4 f.5 f.8)

pub meet_place : (g : Geometry) (i j first count : ℕ) (r s : List Position) (shared : SharedPlace) → AreNumbersAround g i first count → i < j → j - first < count
    → slice_get (rings g) i ≡ Some r → slice_get (rings g) j ≡ Some s → IsMeetingOf r s shared → IsPlaceOf g (RingsMeet i j) (Shared shared)
meet_place g i j first count r s shared h later within at_i at_j meeting = let from = h.from in (
  i - first,
  j - first,
  r,
  s,
  shared,
  two_of_one g i first count h (i - first) (j - first) i j r s (omega (arith, from)) (omega (arith, from, later)) (omega (arith, from, later)) within at_i at_j,
  meeting,
  refl,
)

-- ---- V5
pub outside_first : (g : Geometry) (i first count : ℕ) → AreNumbersAround g i first count → first ≡ i → HasFault g (HoleOutside i) → ⊥
outside_first g i first count h same f = let one = one_polygon g i first count h f.0 f.1 f.3 f.4 f.7 in omega (arith, f.5, f.7.0, one.0, same)

pub outside_no_outer : (g : Geometry) (i first count : ℕ) → AreNumbersAround g i first count → slice_get (rings g) first ≡ None → HasFault g (HoleOutside i) → ⊥
outside_no_outer g i first count h none f = let one = one_polygon g i first count h f.0 f.1 f.3 f.4 f.7 in let from : first ≡ f.0.first + 0 = omega (arith, one.0) in missing g first f.2 none (ring_there g f.0 0 first f.2 f.4 (from, f.6))

pub outside_no_hole : (g : Geometry) (i : ℕ) → slice_get (rings g) i ≡ None → HasFault g (HoleOutside i) → ⊥
outside_no_hole g i none f = missing g i f.3 none (ring_there g f.0 f.1 i f.3 f.4 f.7)

pub outside_none : (g : Geometry) (i first count : ℕ) (outer hole : List Position) (at : Position) → AreNumbersAround g i first count → slice_get (rings g) first ≡ Some outer → slice_get (rings g) i ≡ Some hole
    → slice_get hole 0 ≡ Some at → odd_above (outer ∷ []) (point_at at) ≡ true → HasFault g (HoleOutside i) → ⊥
outside_none g i first count outer hole at h at_first at_i first_at odd f =
    let one = one_polygon g i first count h f.0 f.1 f.3 f.4 f.7 in
    let from : first ≡ f.0.first + 0 = omega (arith, one.0) in
    let same_outer = same_ring g first f.2 outer (ring_there g f.0 0 first f.2 f.4 (from, f.6)) at_first in
    let same_hole = same_ring g i f.3 hole (ring_there g f.0 f.1 i f.3 f.4 f.7) at_i in
    let even : inside outer hole ≡ false = subst (λ (q : List Position). inside outer q ≡ false) same_hole (subst (λ (q : List Position). inside q f.3 ≡ false) same_outer f.8) in
    let z : true ≡ false = sym odd ∙ (sym (inside_first outer hole at first_at) ∙ even) in absurd cc

pub outside_place : (g : Geometry) (i first count : ℕ) (outer hole : List Position) (at : Position) → AreNumbersAround g i first count → (first ≡ i → ⊥) → slice_get (rings g) first ≡ Some outer → slice_get (rings g) i ≡ Some hole
    → slice_get hole 0 ≡ Some at → odd_above (outer ∷ []) (point_at at) ≡ false → IsPlaceOf g (HoleOutside i) (Outside at)
outside_place g i first count outer hole at h other at_first at_i first_at even = let from = h.from in let before = h.before in (
  i - first,
  first,
  outer,
  hole,
  at,
  two_of_one g i first count h 0 (i - first) first i outer hole (omega arith) (omega (arith, from)) (omega (arith, from, other)) (omega (arith, from, before)) at_first at_i,
  (first_at, even),
  refl,
)

-- ---- V6
pub nested_apart : (g : Geometry) (i j first count : ℕ) → AreNumbersAround g i first count → HasFault g (HolesNested i j) → (i < j) × (j - first < count) × (first < i)
nested_apart g i j first count h f = let one = one_polygon g i first count h f.0 f.1 f.3 f.5 f.8 in
    (omega (arith, f.7, f.8.0, f.9.0), omega (arith, f.9.0, one.0, one.1, slice_get_within f.0.rings f.2 f.4 f.9.1), omega (arith, f.6, f.8.0, one.0))

pub nested_first : (g : Geometry) (i j first count : ℕ) → AreNumbersAround g i first count → first ≡ i → HasFault g (HolesNested i j) → ⊥
nested_first g i j first count h same f = let apart = nested_apart g i j first count h f in omega (arith, same, apart.2)

pub nested_no_first : (g : Geometry) (i j : ℕ) → slice_get (rings g) i ≡ None → HasFault g (HolesNested i j) → ⊥
nested_no_first g i j none f = missing g i f.3 none (ring_there g f.0 f.1 i f.3 f.5 f.8)

pub nested_no_second : (g : Geometry) (i j : ℕ) → slice_get (rings g) j ≡ None → HasFault g (HolesNested i j) → ⊥
nested_no_second g i j none f = missing g j f.4 none (ring_there g f.0 f.2 j f.4 f.5 f.9)

pub nested_none : (g : Geometry) (i j : ℕ) (r s : List Position) → slice_get (rings g) i ≡ Some r → slice_get (rings g) j ≡ Some s → inside r s ≡ false → inside s r ≡ false → HasFault g (HolesNested i j) → ⊥
nested_none g i j r s at_i at_j first second f = go (same_ring g i f.3 r (ring_there g f.0 f.1 i f.3 f.5 f.8) at_i) (same_ring g j f.4 s (ring_there g f.0 f.2 j f.4 f.5 f.9) at_j) f.10
  where
    go : f.3 ≡ r → f.4 ≡ s → (inside f.3 f.4 ≡ true) ⊎ (inside f.4 f.3 ≡ true) → ⊥
    go e g (inl odd) = not_both (inside r s) (subst (λ (q : List Position). inside r q ≡ true) g (subst (λ (q : List Position). inside q f.4 ≡ true) e odd)) first
    go e g (inr odd) = not_both (inside s r) (subst (λ (q : List Position). inside s q ≡ true) e (subst (λ (q : List Position). inside q f.3 ≡ true) g odd)) second

pub nested_place : (g : Geometry) (i j first count : ℕ) (r s : List Position) (at : Position) → AreNumbersAround g i first count → i < j → j - first < count → (first ≡ i → ⊥)
    → slice_get (rings g) i ≡ Some r → slice_get (rings g) j ≡ Some s → IsInsideAt (r ∷ []) s at ⊎ IsInsideAt (s ∷ []) r at → IsPlaceOf g (HolesNested i j) (Inside at)
nested_place g i j first count r s at h later within other at_i at_j odd = let from = h.from in (
  i - first,
  j - first,
  r,
  s,
  at,
  omega (arith, from, other),
  two_of_one g i first count h (i - first) (j - first) i j r s (omega (arith, from)) (omega (arith, from, later)) (omega (arith, from, later)) within at_i at_j,
  odd,
  refl,
)

-- ---- V7 and V8

-- ---- a place shows that the geometry has the fault
not_simple : (ring : List Position) (shared : SharedPlace) → IsClashOf ring shared → IsNotSimple ring
not_simple ring shared c = record { i = c.i; j = c.j; e = shared.first; f = shared.second; later = c.later; first = c.first; second = c.second; clash = c.clash }

rings_share : (r s : List Position) (shared : SharedPlace) → IsMeetingOf r s shared → RingsShare r s
rings_share r s shared m = record { i = m.i; j = m.j; e = shared.first; f = shared.second; first = m.first; second = m.second; share = m.share }

pub applies : (g : Geometry) (fault : ValidityFault) (place : Place) → IsPlaceOf g fault place → HasFault g fault
applies g (TooFewPoints i) place h = (h.0, h.2, h.3)
applies g (RingNotClosed i) place h = (h.0, h.3, isnt_closed h.0 h.1 h.2 h.4 h.5 h.6)
applies g (RingNotSimple i) place h = (h.0, h.2, not_simple h.0 h.1 h.3)
applies g (RingsMeet i j) place h = let one = h.5 in (one.element, h.0, h.1, h.2, h.3, one.numbered, one.later, one.first, one.second, rings_share h.2 h.3 h.4 h.6)
applies g (HoleOutside i) place h = let one = h.5 in (one.element, h.0, h.2, h.3, one.numbered, one.later, one.first.1, one.second, inside_first h.2 h.3 h.4 h.6.0 ∙ h.6.1)
applies g (HolesNested i j) place h = let one = h.6 in (one.element, h.0, h.1, h.2, h.3, one.numbered, h.5, one.later, one.first, one.second, either h.7)
  where
    either : IsInsideAt (h.2 ∷ []) h.3 h.4 ⊎ IsInsideAt (h.3 ∷ []) h.2 h.4 → (inside h.2 h.3 ≡ true) ⊎ (inside h.3 h.2 ≡ true)
    either (inl k) = inl (inside_first h.2 h.3 h.4 k.0 ∙ k.1)
    either (inr k) = inr (inside_first h.3 h.2 h.4 k.0 ∙ k.1)
applies g (ElementsMeet i j) place h = let m = h.6 in (h.0, h.1, h.3, h.4, h.5, record { r = m.r; s = m.s; first = m.first; second = m.second; share = rings_share m.r m.s h.2 m.meeting })
applies g (ElementInside i j) place h = let p = h.6 in (h.0, h.1, h.3, h.4, h.5, polygon_first h.1 h.0 p.outer h.2 p.first p.inside.0 ∙ p.inside.1)

-- where the result is a place, the geometry has the fault
pub shown : (g : Geometry) (fault variant : ValidityFault) (result : Option Place) → fault ≡ variant → IfSome result (IsPlaceOf g variant) → IfSome result (λ _. HasFault g fault)
shown g fault variant None e h = tt
shown g fault variant (Some place) e h = subst (HasFault g) (sym e) (applies g variant place h)
