-- Tiles: the rows of a table that are copied to a cell, with their marks behind their fields, and what a query over tiles asks besides.
use Rattle.std.specs.Prelude.{ℕ, ◌+◌, ◌-◌, [], ◌∷◌, ◌++◌, map, length, take, filter, slice_get, unwrap_or, Option, option_and_then, pos}
use Rattle.geometry_model.specs.Envelopes.{Envelope, envelope}
use Rattle.geometry_model.specs.Geometries.{Geometry}
use Rattle.table_model.specs.Arguments.{geometry_in}
use Rattle.table_model.specs.Meanings.{Row, Table}
use Rattle.table_model.specs.TruthLaws.{Argument}
use Rattle.table_model.specs.declared.conditions.Comparison.TheVariants as signs
use Rattle.table_model.specs.declared.conditions.Cond.{Cond}
use Rattle.table_model.specs.declared.conditions.Cond.TheVariants as conds
use Rattle.table_model.specs.declared.conditions.Operand.TheVariants as operands
use Rattle.table_model.specs.declared.values.Value.TheVariants as values
use Rattle.table_laws.specs.Cells.{Cell, is_copied, west_mark, south_mark}

-- ---- tiles

-- the geometry in a column of a row, if there is one (06-104r4, feature tables)
abbrev pub geometry_at : ℕ → Row Geometry → Option Geometry
geometry_at column row = geometry_in (unwrap_or (slice_get row column) values.Null)

-- the marks of an envelope in a cell, as two fields: w, then s (this project's choice)
abbrev pub marks : Cell → Option Envelope → Row Geometry
marks cell e = values.Integer (west_mark cell e) ∷ values.Integer (south_mark cell e) ∷ []

-- a row in a tile: its fields, then its marks (this project's choice)
abbrev pub marked : Cell → ℕ → Row Geometry → Row Geometry
marked cell column row = row ++ marks cell (option_and_then envelope (geometry_at column row))

-- a tile of a table: its rows whose geometry in a column is copied to the cell, in their order, each with its marks (this project's choice)
abbrev pub tile_of : Cell → ℕ → Table Geometry → Table Geometry
tile_of cell column table = map (marked cell column) (filter (λ row. is_copied cell (geometry_at column row)) table)

-- a row of a tile without its marks
abbrev pub without_marks : Row Geometry → Row Geometry
without_marks row = take (length row - 2) row

-- ---- the owner conjunct

-- the column at this place of a reference is 0 (SQL, comparison)
abbrev pub is_zero : ℕ → ℕ → Cond Argument
is_zero reference column = conds.Compare signs.Equal (operands.Column (record { reference = reference; column = column })) (operands.Integer (pos 0))

-- the owner conjunct of two tiles whose marks begin in these columns: (a.w = 0 OR b.w = 0) AND (a.s = 0 OR b.s = 0) (SQL, the search condition)
abbrev pub owner_conjunct : ℕ → ℕ → Cond Argument
owner_conjunct first second =
    conds.And (conds.Or (is_zero 0 first ∷ is_zero 1 second ∷ []) ∷ conds.Or (is_zero 0 (first + 1) ∷ is_zero 1 (second + 1) ∷ []) ∷ [])
