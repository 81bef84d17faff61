-- Why a call gives nothing: faults in numbers, and the status that a call returns.
use Rattle.std.specs.Prelude.{◌≡◌, ℕ, Result, Ok, Err}
use Rattle.geometry_model.specs.Geometries.{Geometry}
use Rattle.geometry_model.specs.declared.geometry_faults.GeometryFault.{GeometryFault}
use Rattle.geometry_model.specs.declared.geometry_faults.GeometryFault.TheVariants as either
use Rattle.geometry_model.specs.declared.text_faults.TextFault.{TextFault}
use Rattle.geometry_model.specs.declared.text_faults.TextFault.TheVariants as text
use Rattle.geometry_model.specs.declared.validity_faults.ValidityFault.{ValidityFault}
use Rattle.geometry_model.specs.declared.validity_faults.ValidityFault.TheVariants as validity
use Rattle.library_calls.specs.declared.faults.Fault.{Fault}
use Rattle.library_calls.specs.declared.faults.Refusal.{Refusal}
use Rattle.library_calls.specs.declared.faults.Refusal.TheVariants as refusal

-- a letter, a number and two places
abbrev pub numbers : ℕ → ℕ → ℕ → ℕ → Fault
numbers letter number first second = record { letter = letter; number = number; first = first; second = second }

-- W1 to W4, with the byte where they have one
abbrev pub text_fault_in_numbers : TextFault → Fault
text_fault_in_numbers (text.Syntax at) = numbers 87 1 at 0
text_fault_in_numbers (text.OffGrid at) = numbers 87 2 at 0
text_fault_in_numbers (text.OutOfRange at) = numbers 87 3 at 0
text_fault_in_numbers text.TooLong = numbers 87 4 0 0

-- V1 to V8, with the numbers of lines, rings or elements
abbrev pub validity_fault_in_numbers : ValidityFault → Fault
validity_fault_in_numbers (validity.TooFewPoints part) = numbers 86 1 part 0
validity_fault_in_numbers (validity.RingNotClosed ring) = numbers 86 2 ring 0
validity_fault_in_numbers (validity.RingNotSimple ring) = numbers 86 3 ring 0
validity_fault_in_numbers (validity.RingsMeet i j) = numbers 86 4 i j
validity_fault_in_numbers (validity.HoleOutside ring) = numbers 86 5 ring 0
validity_fault_in_numbers (validity.HolesNested i j) = numbers 86 6 i j
validity_fault_in_numbers (validity.ElementsMeet i j) = numbers 86 7 i j
validity_fault_in_numbers (validity.ElementInside i j) = numbers 86 8 i j

-- the fault of a text in numbers
abbrev pub fault_in_numbers : GeometryFault → Fault
fault_in_numbers (either.Text fault) = text_fault_in_numbers fault
fault_in_numbers (either.Invalid fault) = validity_fault_in_numbers fault

-- the status of a call that did what it promises
abbrev pub ok : ℕ
ok = 0

-- the status where the only text, or the first of two, isn't a valid geometry's
abbrev pub first_refused : ℕ
first_refused = 1

-- the status where the second text isn't a valid geometry's
abbrev pub second_refused : ℕ
second_refused = 2

-- the status where memory ran out
abbrev pub out_of_memory : ℕ
out_of_memory = 3

-- the status where a number or a text names nothing, sizes fit no type, or a position is off the grid
abbrev pub unknown : ℕ
unknown = 4

-- the status where the caller's room is too small
abbrev pub too_small : ℕ
too_small = 5

-- the status where there is nothing to write: an empty geometry has no bounds
abbrev pub none_there : ℕ
none_there = 6

-- the status of a refusal
abbrev pub status_of : Refusal → ℕ
status_of (refusal.First fault) = first_refused
status_of (refusal.Second fault) = second_refused
status_of refusal.OutOfMemory = out_of_memory

-- what the caller's fault is after a refusal: running out of memory leaves it
abbrev pub fault_after : Refusal → Fault → Fault
fault_after (refusal.First fault) old = fault_in_numbers fault
fault_after (refusal.Second fault) old = fault_in_numbers fault
fault_after refusal.OutOfMemory old = old

-- the refusal is that of reading the one text, or of memory
abbrev pub IsRefusalOf : Result Geometry GeometryFault → Refusal → Type 0
IsRefusalOf read (refusal.First fault) = read ≡ Err fault
IsRefusalOf read (refusal.Second fault) = ⊥
IsRefusalOf read refusal.OutOfMemory = Unit {0}

-- the refusal is that of reading the first text, else of reading the second, or of memory
abbrev pub IsRefusalOfTwo : Result Geometry GeometryFault → Result Geometry GeometryFault → Refusal → Type 0
IsRefusalOfTwo one other (refusal.First fault) = one ≡ Err fault
IsRefusalOfTwo one other (refusal.Second fault) = ((g : Geometry) × (one ≡ Ok g)) × (other ≡ Err fault)
IsRefusalOfTwo one other refusal.OutOfMemory = Unit {0}

-- the status of reading one text where memory is enough
abbrev pub status_of_text : Result Geometry GeometryFault → ℕ
status_of_text (Ok g) = ok
status_of_text (Err fault) = first_refused

-- the same of the second of two texts
abbrev pub status_of_second : Result Geometry GeometryFault → ℕ
status_of_second (Ok g) = ok
status_of_second (Err fault) = second_refused

-- the status of reading two texts, the first before the second, where memory is enough
abbrev pub status_of_texts : Result Geometry GeometryFault → Result Geometry GeometryFault → ℕ
status_of_texts (Ok g) other = status_of_second other
status_of_texts (Err fault) other = first_refused
