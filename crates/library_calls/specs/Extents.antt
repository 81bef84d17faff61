-- Extents of the doubles in well-known binary, as they cross to C.
use Rattle.std.specs.Prelude.{ℕ, Bool, true, false, List, [], Result, Ok, Err, Option, Some, None}
use Rattle.std.specs.Option.{option_map_or}
use Rattle.geometry_model.specs.declared.shapes.GeometryType.{GeometryType}
use Rattle.wkb.specs.BinaryPieces.{Pieces, pieces_in}
use Rattle.wkb.specs.Extents.{Reach, reach_in, reach_with}
use Rattle.wkb.specs.declared.binary_fault.Refusal.{Refusal}
use Rattle.wkb.specs.declared.extents.Extent.{Extent}
use Rattle.wkb.specs.declared.pairs.Pair.{Pair}
use Rattle.library_calls.specs.Rounding.{first_infinite}

-- positions of which each double is a number; else none
abbrev pub if_finite : List Pair → List Pair
if_finite ps = option_map_or (λ _. []) (first_infinite 0 ps) ps

-- the positions of what can be taken apart; else none
abbrev pub positions_in : Result (GeometryType × Pieces) Refusal → List Pair
positions_in (Ok found) = if_finite found.1.positions
positions_in (Err refusal) = []

-- the extent that crosses to C, if there is one
abbrev pub reach_there : Bool → Extent → Option Reach
reach_there true extent = Some (reach_in extent)
reach_there false extent = None

-- the extent has the positions of bytes more; those of bytes that can't be taken apart, or in which a double is infinite or no number, are left out
abbrev pub reach_after : List ℕ → Option Reach → Option Reach
reach_after bytes before = reach_with before (positions_in (pieces_in bytes))
