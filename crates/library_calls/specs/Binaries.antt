-- Valid geometries of well-known binary.
use Rattle.std.specs.Prelude.{◌≡◌, ℕ, ℤ, pos, ◌/◌, ◌%◌, ◌^◌, List, Option, Some, None, Result, Ok, Err}
use Rattle.geometry_model.specs.FirstFaults.{validity_fault}
use Rattle.geometry_model.specs.Geometries.{Geometry}
use Rattle.geometry_model.specs.Validity.{IsValid}
use Rattle.geometry_model.specs.declared.validity_faults.ValidityFault.{ValidityFault}
use Rattle.wkb.specs.BinaryReading.{read_binary}
use Rattle.wkb.specs.Grids.{IsAxis}
use Rattle.wkb.specs.declared.binary_fault.BinaryFault.{BinaryFault}
use Rattle.wkb.specs.declared.binary_fault.BinaryFault.TheVariants as binary_faults
use Rattle.wkb.specs.declared.binary_fault.Refusal.TheVariants as wkb
use Rattle.wkb.specs.declared.binary_fault.Refusal.{Refusal}
use Rattle.wkb.specs.declared.grids.Grid.{Grid}
use Rattle.wkb.specs.declared.reading.Binary.{Binary}
use Rattle.wkb.specs.declared.rounding.Rounding.{Rounding}
use Rattle.library_calls.specs.Refusals.{first_refused, numbers, ok, out_of_memory, unknown, validity_fault_in_numbers}
use Rattle.library_calls.specs.declared.binaries.GridNumbers.{GridNumbers}
use Rattle.library_calls.specs.declared.binaries.Notes.{Notes}
use Rattle.library_calls.specs.declared.binaries.Unread.{Unread}
use Rattle.library_calls.specs.declared.binaries.Unread.TheVariants as unread
use Rattle.library_calls.specs.declared.faults.Fault.{Fault}

-- the grid of these numbers
abbrev pub grid_in : GridNumbers → Grid
grid_in n = record {
  x = record { step = n.step; origin = n.origin_x; parts = n.parts };
  y = record { step = n.step; origin = n.origin_y; parts = n.parts };
  moves = n.moves;
}

-- the numbers are those of a grid: its step and its unit have parts, and not too many
abbrev pub IsGrid : GridNumbers → Type 0
IsGrid n = IsAxis (record { step = n.step; origin = n.origin_x; parts = n.parts }) × IsAxis (record { step = n.step; origin = n.origin_y; parts = n.parts })

-- W1 with the byte, W2 and W3 with the number of the position, W4; no fault has a name where a type or a part is none of the library's
abbrev pub unread_of : Refusal → Unread
unread_of (wkb.Syntax at) = unread.Refused (numbers 87 1 at 0)
unread_of (wkb.OffGrid at) = unread.Refused (numbers 87 2 at 0)
unread_of (wkb.OutOfRange at) = unread.Refused (numbers 87 3 at 0)
unread_of wkb.TooLong = unread.Refused (numbers 87 4 0 0)
unread_of (wkb.UnknownType at) = unread.Unknown
unread_of (wkb.EmptyPart at) = unread.Unknown

abbrev pub unread_of_fault : BinaryFault → Unread
unread_of_fault (binary_faults.Refused refusal) = unread_of refusal
unread_of_fault binary_faults.OutOfMemory = unread.OutOfMemory

-- what was read, if it has no fault, else V1 to V8
abbrev pub faultless_or : Binary → Option ValidityFault → Result Binary Unread
faultless_or found None = Ok found
faultless_or found (Some f) = Err (unread.Refused (validity_fault_in_numbers f))

abbrev pub faultless : Result Binary Refusal → Result Binary Unread
faultless (Ok found) = faultless_or found (validity_fault found.geometry)
faultless (Err refusal) = Err (unread_of refusal)

-- the valid geometry that bytes are on a grid, or why they are none: first a refusal of the bytes, then a fault of the geometry (06-103r4, 8.2 and 6.1; the order: this project's choice)
unfoldable pub valid_binary : Grid → List ℕ → Result Binary Unread
valid_binary grid bytes = faultless (read_binary grid bytes)

-- a call gives nothing for this reason, or because memory ran out
abbrev pub IsUnread : Result Binary Unread → Unread → Type 0
IsUnread outcome (unread.Refused fault) = outcome ≡ Err (unread.Refused fault)
IsUnread outcome unread.Unknown = outcome ≡ Err unread.Unknown
IsUnread outcome unread.OutOfMemory = Unit {0}

-- what was read from bytes on a grid: the geometry is valid, and it is what the definition of reading gives
pub record IsReadAs (grid : Grid) (bytes : List ℕ) (found : Binary) : Type 0 where
  pub read : read_binary grid bytes ≡ Ok found
  pub checked : valid_binary grid bytes ≡ Ok found
  pub valid : IsValid found.geometry

-- the number of a reference system and what rounding did, as they cross to C: the ticks in two numbers
abbrev pub notes_of : ℕ → Rounding → Notes
notes_of system rounding = record {
  system = system;
  positions = rounding.positions;
  moved = rounding.moved;
  merged = rounding.merged;
  greatest_high = rounding.greatest / 2 ^ 64;
  greatest_low = rounding.greatest % 2 ^ 64;
}

-- a geometry was read from bytes on a grid, with these notes
pub record IsReadFrom (grid : Grid) (bytes : List ℕ) (g : Geometry) (notes : Notes) : Type 0 where
  pub found : Binary
  pub is_read : IsReadAs grid bytes found
  pub geometry : g ≡ found.geometry
  pub notes_are : notes ≡ notes_of found.system found.rounding

-- the status of a reason
abbrev pub status_of_unread : Unread → ℕ
status_of_unread (unread.Refused fault) = first_refused
status_of_unread unread.Unknown = unknown
status_of_unread unread.OutOfMemory = out_of_memory

-- the status of reading where memory is enough
abbrev pub status_of_binary : Result Binary Unread → ℕ
status_of_binary (Ok found) = ok
status_of_binary (Err reason) = status_of_unread reason

-- what the caller's fault is after a reason: only a refusal writes it
abbrev pub fault_after_unread : Unread → Fault → Fault
fault_after_unread (unread.Refused fault) old = fault
fault_after_unread unread.Unknown old = old
fault_after_unread unread.OutOfMemory old = old

-- bytes are refused on a grid, or their geometry isn't valid, and this is the first fault in numbers (06-103r4, 8.2 and 6.1; the order and the numbers: this project's choice)
abbrev pub IsRefusedBinary : Grid → List ℕ → Fault → Type 0
IsRefusedBinary grid bytes fault = valid_binary grid bytes ≡ Err (unread.Refused fault)
