-- What well-known binary has, as it crosses to C.
use Rattle.std.specs.Prelude.{◌≡◌, ◌⊎◌, ℕ, min, ◌&&◌, ◌++◌, Bool, List, drop, length, Result, Ok, Err, nat_le, cond}
use Rattle.geometry_model.specs.declared.shapes.GeometryType.{GeometryType}
use Rattle.wkb.specs.BinaryPieces.{Pieces, code_in, pieces_in}
use Rattle.wkb.specs.BinaryPrinting.{code_of}
use Rattle.wkb.specs.declared.binary_fault.Refusal.{Refusal}
use Rattle.wkb.specs.declared.binary_fault.Refusal.TheVariants as wkb
use Rattle.wkb.specs.declared.pairs.Pair.{Pair}
use Rattle.library_calls.specs.Binaries.{status_of_unread, unread_of}
use Rattle.library_calls.specs.Refusals.{ok, too_small}
use Rattle.library_calls.specs.declared.apart.Counts.{Counts}
use Rattle.library_calls.specs.declared.binaries.Unread.TheVariants as unread
use Rattle.library_calls.specs.declared.faults.Fault.{Fault}

-- the number of the type, and how much the pieces have
abbrev pub counts_of : GeometryType → Pieces → Counts
counts_of shape p = record { code = code_of shape; positions = length p.positions; lines = length p.lines; elements = length p.elements }

-- items at the front of a room, and what was behind them
abbrev pub front : {A : Type 0} → List A → List A → List A
front items room = items ++ drop (length items) room

-- whether three rooms are large enough for pieces
abbrev pub fit : Pieces → List Pair → List ℕ → List ℕ → Bool
fit p positions lines elements =
    nat_le (length p.positions) (length positions) && nat_le (length p.lines) (length lines) && nat_le (length p.elements) (length elements)

-- three rooms and counts, as they were and as they are, have the pieces of bytes
pub record IsApart (bytes : List ℕ) (old_positions positions : List Pair) (old_lines lines old_elements elements : List ℕ) (counts : Counts) : Type 0 where
  pub shape : GeometryType
  pub pieces : Pieces
  pub read : pieces_in bytes ≡ Ok (shape, pieces)
  pub positions_are : positions ≡ front pieces.positions old_positions
  pub lines_are : lines ≡ front pieces.lines old_lines
  pub elements_are : elements ≡ front pieces.elements old_elements
  pub counts_are : counts ≡ counts_of shape pieces

-- the counts are those of the pieces of bytes
pub record AreCounts (bytes : List ℕ) (counts : Counts) : Type 0 where
  pub shape : GeometryType
  pub pieces : Pieces
  pub read : pieces_in bytes ≡ Ok (shape, pieces)
  pub counts_are : counts ≡ counts_of shape pieces

-- the status of taking apart where memory is enough
abbrev pub status_of_apart : Result (GeometryType × Pieces) Refusal → List Pair → List ℕ → List ℕ → ℕ
status_of_apart (Ok found) positions lines elements = cond (fit found.1 positions lines elements) ok too_small
status_of_apart (Err refusal) positions lines elements = status_of_unread (unread_of refusal)

-- the number of the type that bytes have at a place
abbrev pub unknown_at : List ℕ → ℕ → Counts
unknown_at bytes at = record { code = code_in (drop (min at (length bytes)) bytes); positions = 0; lines = 0; elements = 0 }

-- bytes are refused, and this is the first fault in numbers (06-103r4, 8.2; the order and the numbers: this project's choice)
abbrev pub IsRefusedApart : List ℕ → Fault → Type 0
IsRefusedApart bytes fault = (refusal : Refusal) × (pieces_in bytes ≡ Err refusal) × (unread_of refusal ≡ unread.Refused fault)

-- a type of bytes isn't one of the library's, and the counts have its number
abbrev pub IsUnknownApart : List ℕ → Counts → Type 0
IsUnknownApart bytes counts = (at : ℕ) × ((pieces_in bytes ≡ Err (wkb.UnknownType at)) ⊎ (pieces_in bytes ≡ Err (wkb.EmptyPart at))) × (counts ≡ unknown_at bytes at)
