-- What the functions return that read well-known binary with a cursor.
use Rattle.std.specs.Prelude.{◌≡◌, ◌≢◌, ℕ, ◌*◌, ◌+◌, ◌≤◌, ◌<◌, List, length, Option, Some, None, Result, Ok, Err, All}
use Rattle.std.specs.List.{flat_map}
use Rattle.geometry_model.specs.Geometries.{Geometry, edges}
use Rattle.geometry_model.specs.WellKnownText.{written_positions, written_parts}
use Rattle.geometry_model.specs.Points.{Position}
use Rattle.wkt.specs.KeptGeometries.{IsKeptLine}
use Rattle.wkb.specs.BinaryReading.{State}
use Rattle.wkb.specs.declared.binary_fault.Refusal.{Refusal}
use Rattle.wkb.specs.declared.binary_fault.BinaryFault.{BinaryFault}
use Rattle.wkb.specs.declared.binary_fault.BinaryFault.TheVariants as faults

-- the function returns what the reader does: its value, seen through `view`, and what is left, or the refusal
abbrev pub ReadsAs : {X A : Type 0} → (X → A) → Result (A × State) Refusal → Result X Refusal → State → Type 0
ReadsAs view outcome (Ok x) after = outcome ≡ Ok (view x, after)
ReadsAs view outcome (Err refusal) after = outcome ≡ Err refusal

-- a function fails with the reader's refusal, or because memory ran out
abbrev pub FailsAs : {A : Type 0} → Result (A × State) Refusal → BinaryFault → Type 0
FailsAs outcome (faults.Refused refusal) = outcome ≡ Err refusal
FailsAs outcome faults.OutOfMemory = Unit {0}

-- what a function returns that may run out of memory
abbrev pub ReadsInMemory : {X A : Type 0} → (X → A) → Result (A × State) Refusal → Result X BinaryFault → State → Type 0
ReadsInMemory view outcome (Ok x) after = outcome ≡ Ok (view x, after)
ReadsInMemory view outcome (Err fault) after = FailsAs outcome fault

-- there is room for the count of one position more: each takes 16 bytes
abbrev pub HasRoom : State → Type 0
HasRoom i = i.tally.positions * 16 + 16 ≤ i.at

-- a line or ring with positions, as it is kept
pub record IsPart (line : List Position) : Type 0 where
  pub kept : IsKeptLine line
  pub some : 0 < length line

-- so many positions, and so many rings or lines, are there more
abbrev pub Adds : State → ℕ → ℕ → State → Type 0
Adds old kept parts new = (new.kept ≡ old.kept + kept) × (new.parts ≡ old.parts + parts)

-- lines or rings with positions, as they are kept
abbrev pub AreParts : List (List Position) → Type 0
AreParts lines = All IsPart lines

-- these rings or lines, with their positions, are there more
pub record AddsParts (old : State) (lines : List (List Position)) (new : State) : Type 0 where
  pub positions : new.kept ≡ old.kept + length (flat_map (λ line. line) lines)
  pub parts : new.parts ≡ old.parts + length lines
  pub are_parts : AreParts lines

-- the counts of this geometry are there more, and it is kept but for the limits
pub record IsRead (old : State) (g : Geometry) (new : State) : Type 0 where
  pub positions : new.kept ≡ old.kept + length (written_positions g)
  pub parts : new.parts ≡ old.parts + length (written_parts g)
  pub ends_differ : All (λ edge. edge.start ≢ edge.end) (edges g)
  pub parts_have_positions : All (λ part. 0 < length part) (written_parts g)

-- the refusal of a fault; none where memory ran out
abbrev pub refusal_in : BinaryFault → Option Refusal
refusal_in (faults.Refused refusal) = Some refusal
refusal_in faults.OutOfMemory = None
