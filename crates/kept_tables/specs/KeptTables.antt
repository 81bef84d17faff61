-- Kept databases: the definitions of a schema, and for each a table, which has no rows until it is loaded.
use Rattle.std.specs.Prelude.{◌≡◌, ℕ, Bool, true, false, not, List, [], length, replicate, slice_index_or, slice_set}
use Rattle.std.specs.Option.{option_map_or}
use Rattle.table_model.specs.Binding.{table_place}
use Rattle.table_model.specs.FeatureTables.{IsDatabase, TakesValid}
use Rattle.table_model.specs.SpatialTables.{SpatialDatabase, SpatialSchema, SpatialTable}
use Rattle.table_model.specs.declared.queries.WrittenReference.{WrittenReference}

-- the definitions, and for each the rows of its table and whether it is loaded (06-104r4, feature tables)
pub record KeptTables : Type 0 where
  pub definitions : SpatialSchema
  pub tables : List SpatialTable
  pub loaded : List Bool

-- the database that is lent (06-104r4)
abbrev pub lent : KeptTables → SpatialDatabase
lent kept = record { definitions = kept.definitions; tables = kept.tables }

-- the rows of the table at a place
abbrev pub table_at : KeptTables → ℕ → SpatialTable
table_at kept place = slice_index_or kept.tables place []

-- whether the table at a place is loaded; where there is no table, it isn't
abbrev pub is_loaded : KeptTables → ℕ → Bool
is_loaded kept place = slice_index_or kept.loaded place false

-- what is true of each: its tables are a database, and those that aren't loaded have no rows
pub record IsKept (kept : KeptTables) : Type 0 where
  pub database : IsDatabase TakesValid (lent kept)
  pub count : length kept.loaded ≡ length kept.definitions
  pub empty : (place : ℕ) → is_loaded kept place ≡ false → table_at kept place ≡ []

-- that of a schema, of which no table is loaded
abbrev pub opened : SpatialSchema → KeptTables
opened definitions = record { definitions = definitions; tables = replicate (length definitions) []; loaded = replicate (length definitions) false }

-- the same with these rows as the loaded table at a place
abbrev pub with_table : ℕ → SpatialTable → KeptTables → KeptTables
with_table place rows kept = record { definitions = kept.definitions; tables = slice_set kept.tables place rows; loaded = slice_set kept.loaded place true }

-- whether a reference of a query names a table of the schema that isn't loaded (SQL, FROM)
abbrev pub names_unloaded : KeptTables → WrittenReference → Bool
names_unloaded kept written = option_map_or (λ place. not (is_loaded kept place)) (table_place kept.definitions written.table.text) false
