-- The first fault that applies, polygon by polygon.
use Rattle.std.proofs.Common.{◌≡◌, sym, ap₂, ◌∙◌, ℕ, ◌+◌, ◌≤◌, Bool, true, false, List, drop, length, Option, None, arith}
use Rattle.std.specs.List.{find, flat_map}
use Rattle.std.specs.Option.{is_some}
use Rattle.geometry_model.specs.Geometries.{Geometry, elements}
use Rattle.geometry_model.specs.Validity.{Element, numbered_elements}
use Rattle.geometry_model.specs.FirstFaults.{rings_end}
use Rattle.geometry_model.specs.declared.validity_faults.ValidityFault.{ValidityFault}
use Rattle.validity.specs.Outlines.{AreRingsOf}
use Rattle.validity.proofs.Finding.{first_in_part, further_in_parts, none_in_parts}
use Rattle.validity.proofs.OutlineFacts.{numbered_count}

-- what is found first among a polygon's faults is the first of those of it and the later ones
pub found_in_polygon : (applies : ValidityFault → Bool) (faults : ℕ → ℕ → List ValidityFault) (g : Geometry) (m first end : ℕ) (o : Option ValidityFault) → AreRingsOf g m first end
    → o ≡ find applies (faults first end) → is_some o ≡ true → find applies (flat_map (λ e. faults e.first (rings_end e)) (drop m (numbered_elements g))) ≡ o
found_in_polygon applies faults g m first end o are e some = first_in_part applies (λ (d : Element). faults d.first (rings_end d)) (numbered_elements g) m are.0 o are.1
    (e ∙ ap₂ (λ a b. find applies (faults a b)) (sym are.2) (sym are.3)) some

-- where a polygon has none, the search goes on with the next
pub passed_in_polygon : (applies : ValidityFault → Bool) (faults : ℕ → ℕ → List ValidityFault) (g : Geometry) (m first end : ℕ) (o : Option ValidityFault) → AreRingsOf g m first end
    → o ≡ find applies (faults first end) → is_some o ≡ false
    → find applies (flat_map (λ e. faults e.first (rings_end e)) (drop m (numbered_elements g))) ≡ find applies (flat_map (λ e. faults e.first (rings_end e)) (drop (m + 1) (numbered_elements g)))
passed_in_polygon applies faults g m first end o are e none = further_in_parts applies (λ (d : Element). faults d.first (rings_end d)) (numbered_elements g) m are.0 o are.1
    (e ∙ ap₂ (λ a b. find applies (faults a b)) (sym are.2) (sym are.3)) none

-- where all polygons are passed, none is found
pub none_in_polygons : (applies : ValidityFault → Bool) (faults : ℕ → ℕ → List ValidityFault) (g : Geometry) (m : ℕ) → length (elements g) ≤ m
    → find applies (flat_map (λ e. faults e.first (rings_end e)) (drop m (numbered_elements g))) ≡ None
none_in_polygons applies faults g m h = none_in_parts applies (λ (d : Element). faults d.first (rings_end d)) (numbered_elements g) m (omega (arith, numbered_count 0 (elements g), h))
