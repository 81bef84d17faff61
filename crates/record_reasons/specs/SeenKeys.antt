-- The keys of records that were read from the beginning of a CSV text.
use Rattle.std.specs.Prelude.{◌≡◌, ℕ, ℤ, List, ◌∷◌, Option, length, map}
use Rattle.record_reasons.specs.Reasons.{key_under}
use Rattle.record_reasons.specs.SeenRecords.{BeginWith}
use Rattle.table_model.specs.GeometryColumns.{ColumnShape}
use Rattle.table_model.specs.Loading.{Record}
use Rattle.table_model.specs.declared.definitions.TableDef.{TableDef}

-- some bytes, if they are known, begin with a header and as many records, which have these keys
pub record AreKeys (known : Option (List ℕ)) (table : TableDef ColumnShape) (number : ℕ) (keys : List (Option ℤ)) : Type 0 where
  pub header : Record
  pub rest : List Record
  pub begins : BeginWith known (header ∷ rest)
  pub size : length rest ≡ number
  pub are : keys ≡ map (key_under table header) rest
