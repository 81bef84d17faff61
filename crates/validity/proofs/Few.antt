-- Areas of at most one ring, or of at most one polygon: there is no fault of two.
use Rattle.std.proofs.Common.{◌≡◌, refl, ap, ap₂, ℕ, zero, suc, ◌+◌, ◌<◌, ◌≤◌, List, [], ◌∷◌, ◌++◌, map, length, length-append, None, arith}
use Rattle.std.specs.List.{find, flat_map}
use Rattle.geometry_model.specs.Points.{Position}
use Rattle.geometry_model.specs.Geometries.{Geometry, rings, elements, joined_rings}
use Rattle.geometry_model.specs.Validity.{Element, elements_from}
use Rattle.geometry_model.specs.FirstFaults.{has_fault, numbers, of_pairs, of_every_two, rings_end}
use Rattle.geometry_model.specs.declared.validity_faults.ValidityFault.{ValidityFault}
use Rattle.geometry_model.specs.declared.validity_faults.ValidityFault.TheVariants.{RingsMeet, HoleOutside, HolesNested, ElementsMeet, ElementInside}
use Rattle.validity.specs.FaultOrder.{rings_meeting, holes_outside, nested_holes, of_two_elements, of_other_elements}
use Rattle.validity.proofs.Finding.{numbers_end}

-- ---- polygons
-- with fewer than two polygons there are no pairs of them, so no fault of a pair
pub few_elements : (g : Geometry) → length (elements g) < 2 → find (has_fault g) (of_two_elements ElementsMeet g ++ of_other_elements ElementInside g) ≡ None
few_elements g h = go (length (elements g)) h
  where
    go : (n : ℕ) → n < 2 → find (has_fault g) (of_pairs ElementsMeet 0 n ++ of_every_two ElementInside n) ≡ None
    go zero h = refl
    go (suc zero) h = refl
    go (suc (suc n)) h = absurd (omega (arith, h))

-- ---- rings
-- with an end of 1 at most no number has a later one before it, so there are no pairs
none_later : (fault : ℕ → ℕ → ValidityFault) (end : ℕ) (is : List ℕ) → end ≤ 1 → flat_map (λ i. map (fault i) (numbers (i + 1) end)) is ≡ []
none_later fault end [] h = refl
none_later fault end (i ∷ is) h = ap₂ (λ (l m : List ValidityFault). l ++ m) (ap (map (fault i)) (numbers_end (i + 1) end (omega (arith, h)))) (none_later fault end is h)

-- no faults of any polygon
none_of_elements : (faults : Element → List ValidityFault) (start : ℕ) (es : List (List (List Position))) → start + length (joined_rings es) ≤ 1 → ((e : Element) → rings_end e ≤ 1 → faults e ≡ [])
    → flat_map faults (elements_from start es) ≡ []
none_of_elements faults start [] h none = refl
none_of_elements faults start (x ∷ xs) h none =
    let both = length-append x (joined_rings xs) in
    ap₂ (λ (l m : List ValidityFault). l ++ m) (none (record { first = start; rings = x }) (omega (arith, h, both))) (none_of_elements faults (start + length x) xs (omega (arith, h, both)) none)

-- the polygons of an area of one ring at most have one ring at most between them
within_rings : (g : Geometry) → length (rings g) ≤ 1 → 0 + length (joined_rings (elements g)) ≤ 1
within_rings (Geometry.Point p) h = omega arith
within_rings (Geometry.MultiPoint ps) h = omega arith
within_rings (Geometry.LineString ps) h = omega arith
within_rings (Geometry.MultiLineString ls) h = omega arith
within_rings (Geometry.Polygon rs) h = omega (arith, h, length-append rs [])
within_rings (Geometry.MultiPolygon es) h = omega (arith, h)

-- with fewer than two rings no rings meet and there are no holes, so there's nothing to be found of either
pub few_rings : (g : Geometry) → length (rings g) < 2 → find (has_fault g) (rings_meeting g ++ holes_outside g ++ nested_holes g) ≡ None
few_rings g h =
    let within = within_rings g (omega (arith, h)) in
    ap (find (has_fault g))
    (ap₂ (λ (l m : List ValidityFault). l ++ m)
    (ap₂ (λ (l m : List ValidityFault). l ++ m)
    (none_of_elements (λ e. of_pairs RingsMeet e.first (rings_end e)) 0 (elements g) within (λ e k. none_later RingsMeet (rings_end e) (numbers e.first (rings_end e)) k))
    (none_of_elements (λ e. map HoleOutside (numbers (e.first + 1) (rings_end e))) 0 (elements g) within (λ e k. ap (map HoleOutside) (numbers_end (e.first + 1) (rings_end e) (omega (arith, k))))))
    (none_of_elements (λ e. of_pairs HolesNested (e.first + 1) (rings_end e)) 0 (elements g) within (λ e k. none_later HolesNested (rings_end e) (numbers (e.first + 1) (rings_end e)) k)))
