-- Where the columns of a table are in a header.
use Rattle.std.specs.Prelude.{◌≡◌, List, length, map}
use Rattle.feature_table.specs.declared.headers.Layout.{Layout}
use Rattle.table_model.specs.Loading.{Record, place_in}
use Rattle.table_model.specs.declared.definitions.ColumnDef.{ColumnDef}

-- a layout has the place of each column's name in the header, and the header's length
pub record IsLayout {T : Type 0} (columns : List (ColumnDef T)) (header : Record) (layout : Layout) : Type 0 where
  pub places : layout.places.items ≡ map (λ c. place_in header c.name) columns
  pub width : layout.width ≡ length header
