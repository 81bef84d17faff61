-- The lines that are written of a table.
use Rattle.std.specs.Prelude.{◌≡◌, ◌≢◌, if◌then◌else◌, ℕ, ℤ, pos, List, [], ◌∷◌, ◌++◌, map, codes, Option, None, option_and_then, option_map, slice_get, unwrap_or}
use Rattle.std.specs.List.{slice_index_or}
use Rattle.std.specs.Ordering.{int_eq}
use Rattle.std.specs.Result.{result_ok}
use Rattle.csv.specs.Writing.{default_writer, row_text}
use Rattle.geometry_model.specs.Envelopes.{Envelope, envelope, meets}
use Rattle.geometry_model.specs.Geometries.{Geometry}
use Rattle.geometry_model.specs.TextReading.{read_text}
use Rattle.table_model.specs.Loading.{Record, place_in}
use Rattle.table_model.specs.declared.definitions.ColumnDef.{ColumnDef}
use Rattle.table_laws.specs.Cells.{Cell, cells_of, is_copied, south_mark, west_mark}

-- the line of some fields (RFC 4180, 2)
unfoldable pub line_of : Record → List ℕ
line_of fields = row_text default_writer fields

-- where the columns of a table are in a header
abbrev pub places_in : {T : Type 0} → Record → List (ColumnDef T) → List ℕ
places_in header columns = map (λ c. place_in header c.name) columns

-- the name of the column at a place; empty if there is none
abbrev pub name_at : {T : Type 0} → List (ColumnDef T) → ℕ → List ℕ
name_at columns column = unwrap_or (option_map (λ c. c.name) (slice_get columns column)) []

-- the names of the columns that are copied (RFC 4180, 2)
abbrev pub names_of : {T : Type 0} → List (ColumnDef T) → List ℕ → Record
names_of columns copied = map (name_at columns) copied

-- the field of a record in the column at a place, where the columns of the table are at these places of the header; empty if there is none
abbrev pub field_in : List ℕ → Record → ℕ → List ℕ
field_in places fields column = unwrap_or (option_map (λ place. slice_index_or fields place []) (slice_get places column)) []

-- the geometry that a field spells; an empty field is null (06-104r4, feature tables)
unfoldable pub geometry_in_field : List ℕ → Option Geometry
geometry_in_field [] = None
geometry_in_field (byte ∷ bytes) = result_ok (read_text (byte ∷ bytes))

-- a field isn't empty, and spells no geometry
abbrev pub SpellsNoGeometry : List ℕ → Type 0
SpellsNoGeometry field = (field ≢ []) × (geometry_in_field field ≡ None)

-- the digit of a mark (this project's choice)
abbrev pub mark_text : ℤ → List ℕ
mark_text n = if int_eq n (pos 0) then codes "0" else codes "1"

-- the marks of an envelope in a cell, as two fields: w, then s (this project's choice)
abbrev pub mark_fields : Cell → Option Envelope → Record
mark_fields cell e = mark_text (west_mark cell e) ∷ mark_text (south_mark cell e) ∷ []

-- what a cell gets of a record: the line of its copied fields with its marks, if it is copied to the cell (this project's choice)
abbrev pub row_in : Cell → Option Geometry → Record → List ℕ
row_in cell geometry copied = if is_copied cell geometry then line_of (copied ++ mark_fields cell (option_and_then envelope geometry)) else []

-- what the cell of a number gets of a record; there is no cell behind those of the boxes
abbrev pub cell_row : List Envelope → Option Geometry → Record → ℕ → List ℕ
cell_row boxes geometry copied number = unwrap_or (option_map (λ cell. row_in cell geometry copied) (slice_get (cells_of boxes) number)) []

-- the line of some fields with the marks that they get in the cell of a number
abbrev pub marked_line : List Envelope → Option Envelope → Record → ℕ → List ℕ
marked_line boxes e copied number = line_of (copied ++ mark_fields (unwrap_or (slice_get (cells_of boxes) number) None) e)

-- what the cell of a number gets of a record whose geometry has this envelope
abbrev pub envelope_row : List Envelope → Option Envelope → Record → ℕ → List ℕ
envelope_row boxes e copied number = unwrap_or (option_map (λ cell. if meets cell e then line_of (copied ++ mark_fields cell e) else []) (slice_get (cells_of boxes) number)) []
