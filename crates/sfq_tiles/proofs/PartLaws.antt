-- The table of a part of tiles is that of the laws.
use Rattle.std.proofs.Common.{◌≡◌, ℕ, true, length, refl, subst, Some}
use Rattle.std.specs.Prelude.{string_bytes}
use Rattle.feature_table.specs.GeometryFields.{ShapeValue}
use Rattle.sfq_tiles.specs.MadeTables.{AreCopied, HasColumns, HasMarks as HasMarkColumns, IsCopied, IsMade, mark_column}
use Rattle.sfq_tiles.specs.declared.parts.NamedPart.{NamedPart}
use Rattle.table_laws.specs.ColumnLaws.{IsNarrow}
use Rattle.table_laws.specs.TileLaws.{HasMarks}
use Rattle.table_model.specs.Definitions.{column_names, names_differ}
use Rattle.table_model.specs.declared.definitions.TableDef.{TableDef}
use Rattle.tiles.proofs.MadeTiles.{made_tiles_are_marked}

-- the definition of what is copied of a part, and that its table is that with the marks behind
pub record IsTileTable (part : NamedPart) (made : TableDef ShapeValue) : Type 0 where
  pub narrow : TableDef ShapeValue
  pub is_narrow : IsNarrow part.table.now narrow part.columns.items
  pub has_marks : HasMarks narrow made (mark_column (string_bytes part.west)) (mark_column (string_bytes part.south))

pub made_parts_are_tiles : (part : NamedPart) (made : TableDef ShapeValue) (column : ℕ) → IsMade part made
    → part.column ≡ Some column → names_differ (column_names made.columns) ≡ true → IsTileTable part made
unfolding IsMade HasColumns AreCopied IsCopied HasMarkColumns
made_parts_are_tiles part made column is tiled differ =
    let marks = subst (λ o. HasMarkColumns o (string_bytes part.west) (string_bytes part.south) made.columns (length
    part.columns.items))
    tiled is.1.1 in
    let found = made_tiles_are_marked part.table.now made part.columns.items (mark_column (string_bytes part.west))
    (mark_column (string_bytes part.south))
    (record {
      copies = is.1.0;
      count = marks.0;
      west_there = marks.1;
      south_there = marks.2;
      west_type = refl;
      south_type = refl;
      key_within = is.2.0;
      key = is.2.1;
      differ = differ;
    }) in
    record { narrow = found.0; is_narrow = found.1; has_marks = found.2 }
