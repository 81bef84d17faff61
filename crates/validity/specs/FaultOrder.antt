-- The order in which faults are tested, kind by kind.
use Rattle.std.specs.Prelude.{ℕ, ◌+◌, Bool, List, length, map, find, Option, slice_get}
use Rattle.geometry_model.specs.Points.{Position}
use Rattle.geometry_model.specs.Geometries.{Geometry, lines, rings, elements}
use Rattle.geometry_model.specs.FirstFaults.{has_fault, numbers, of_pairs, of_every_two, of_elements, rings_end, test_of_both}
use Rattle.geometry_model.specs.declared.validity_faults.ValidityFault.{ValidityFault}
use Rattle.geometry_model.specs.declared.validity_faults.ValidityFault.TheVariants.{RingsMeet, HoleOutside, HolesNested}
use Rattle.validity.specs.declared.first_faults.RingTest.{RingTest}
use Rattle.validity.specs.declared.first_faults.RingTest.TheVariants.{Meeting, Outside, Nested}

-- the first of some faults that applies to a geometry
abbrev pub first_of : Geometry → List ValidityFault → Option ValidityFault
first_of g faults = find (has_fault g) faults

-- the faults of a geometry's lines or rings, one each (06-103r4, 6.1.7 to 6.1.14)
abbrev pub of_lines : (ℕ → ValidityFault) → Geometry → List ValidityFault
of_lines fault g = map fault (numbers 0 (length (lines g)))

-- the faults of a geometry's rings, one each (06-103r4, 6.1.11.1)
abbrev pub of_rings : (ℕ → ValidityFault) → Geometry → List ValidityFault
of_rings fault g = map fault (numbers 0 (length (rings g)))

-- the faults of a number and of each later one before the end
abbrev pub with_later : (ℕ → ℕ → ValidityFault) → ℕ → ℕ → List ValidityFault
with_later fault number end = map (fault number) (numbers (number + 1) end)

-- the faults of a polygon and of each later one (06-103r4, 6.1.14)
abbrev pub with_later_elements : (ℕ → ℕ → ValidityFault) → ℕ → Geometry → List ValidityFault
with_later_elements fault element g = with_later fault element (length (elements g))

-- what a test looks for among the rings of one polygon, by their numbers (06-103r4, 6.1.11.1)
abbrev pub of_polygon : RingTest → ℕ → ℕ → List ValidityFault
of_polygon Meeting first end = of_pairs RingsMeet first end
of_polygon Outside first end = map HoleOutside (numbers (first + 1) end)
of_polygon Nested first end = of_pairs HolesNested (first + 1) end

-- the same, polygon by polygon
abbrev pub of_polygons : RingTest → Geometry → List ValidityFault
of_polygons test g = of_elements (λ e. of_polygon test e.first (rings_end e)) g

-- that two rings of one polygon meet
abbrev pub rings_meeting : Geometry → List ValidityFault
rings_meeting g = of_polygons Meeting g

-- that a hole isn't inside the outer ring
abbrev pub holes_outside : Geometry → List ValidityFault
holes_outside g = of_polygons Outside g

-- that of two holes one is inside the other
abbrev pub nested_holes : Geometry → List ValidityFault
nested_holes g = of_polygons Nested g

-- the faults of two of a geometry's polygons, the first one before the second (06-103r4, 6.1.14)
abbrev pub of_two_elements : (ℕ → ℕ → ValidityFault) → Geometry → List ValidityFault
of_two_elements fault g = of_pairs fault 0 (length (elements g))

-- the faults of one polygon of a geometry with each of them (06-103r4, 6.1.14)
abbrev pub of_elements_and : (ℕ → ℕ → ValidityFault) → ℕ → Geometry → List ValidityFault
of_elements_and fault element g = map (fault element) (numbers 0 (length (elements g)))

-- the faults of every two polygons of a geometry (06-103r4, 6.1.14)
abbrev pub of_other_elements : (ℕ → ℕ → ValidityFault) → Geometry → List ValidityFault
of_other_elements fault g = of_every_two fault (length (elements g))

-- the lines or rings with these two numbers pass a test
abbrev pub two_lines : (List Position → List Position → Bool) → Geometry → ℕ → ℕ → Bool
two_lines test g i j = test_of_both test (slice_get (lines g) i) (slice_get (lines g) j)

-- the polygons with these two numbers pass a test
abbrev pub two_elements : (List (List Position) → List (List Position) → Bool) → Geometry → ℕ → ℕ → Bool
two_elements test g i j = test_of_both test (slice_get (elements g) i) (slice_get (elements g) j)
