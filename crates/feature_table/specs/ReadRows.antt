-- The rows that were read.
use Rattle.std.specs.Prelude.{ℕ}
use Rattle.feature_table.specs.FlatRows.{first_rows}
use Rattle.feature_table.specs.GeometryFields.{GeometryValue}
use Rattle.feature_table.specs.declared.flat_rows.ReadRows.{ReadRows}
use Rattle.table_model.specs.Meanings.{Table}

-- the rows of this width that were read
abbrev pub rows_read : ℕ → ReadRows → Table GeometryValue
rows_read width read = first_rows width read.values read.count
