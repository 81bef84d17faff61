-- What was found of all bytes, and why they are refused.
use Rattle.std.proofs.Common.{◌≡◌, ap, ℕ, List, Ok, Err}
use Rattle.std.specs.Prelude.{IfSome}
use Rattle.geometry_model.specs.Geometries.{Geometry}
use Rattle.geometry_model.specs.declared.shapes.GeometryType.{GeometryType}
use Rattle.wkb.specs.BinaryPieces.{Pieces, found_in, pieces_in, whole_pieces}
use Rattle.wkb.specs.BinaryReading.{State, whole, start, outcome, rounding_of, read_binary}
use Rattle.wkb.specs.ReadingSteps.{FailsAs, refusal_in}
use Rattle.wkb.specs.declared.binary_fault.BinaryFault.{BinaryFault}
use Rattle.wkb.specs.declared.binary_fault.BinaryFault.TheVariants as faults
use Rattle.wkb.specs.declared.grids.Grid.{Grid}

pub found_is : (grid : Grid) (text : List ℕ) (g : Geometry) (system : ℕ) (j : State)
    → whole grid (start text) ≡ Ok ((g, system), j)
    → read_binary grid text ≡ Ok (record { geometry = g; system = system; rounding = rounding_of j })
unfolding read_binary
found_is grid text g system j found = ap outcome found

pub refused_is : (grid : Grid) (text : List ℕ) (fault : BinaryFault) → FailsAs (whole grid (start text)) fault
    → IfSome (refusal_in fault) (λ refusal. read_binary grid text ≡ Err refusal)
unfolding read_binary
refused_is grid text (faults.Refused refusal) failed = ap outcome failed
refused_is grid text faults.OutOfMemory failed = tt

-- the same of what is taken apart
pub apart_is : (text : List ℕ) (found : GeometryType × Pieces) (j : State) → whole_pieces (start text) ≡ Ok (found, j)
    → pieces_in text ≡ Ok found
unfolding pieces_in
apart_is text found j is = ap found_in is

pub apart_refused : (text : List ℕ) (fault : BinaryFault) → FailsAs (whole_pieces (start text)) fault
    → IfSome (refusal_in fault) (λ refusal. pieces_in text ≡ Err refusal)
unfolding pieces_in
apart_refused text (faults.Refused refusal) failed = ap found_in failed
apart_refused text faults.OutOfMemory failed = tt
