-- What loading a table of a kept database gives.
use Rattle.std.proofs.Common.{◌≡◌, ◌∙◌, ◌<◌, ap, ℕ, List, [], Some, Result, Ok, get_or, length}
use Rattle.std.specs.Option.{option_map, option_map_or}
use Rattle.std.proofs.lemmas.Option.{slice_get-get_or}
use Rattle.feature_table.specs.GeometryFields.{reading}
use Rattle.feature_table.specs.Tables.{table_in}
use Rattle.kept_tables.specs.KeptTables.{KeptTables, table_at, with_table}
use Rattle.library_calls.specs.Refusals.{unknown}
use Rattle.sfq_tables.specs.Connections.{HasLoaded, IsUnloadedFor, status_of_table, table_of}
use Rattle.sfq_tables.specs.TableFaults.{IsRefusedWith, load_fault_in_numbers, status_of_reading}
use Rattle.sfq_tables.specs.declared.table_faults.TablesFault.{TablesFault}
use Rattle.table_model.specs.GeometryColumns.{ColumnShape}
use Rattle.table_model.specs.SpatialTables.{SpatialTable}
use Rattle.table_model.specs.declared.definitions.TableDef.{TableDef}
use Rattle.table_model.specs.declared.faults.LoadFault.{LoadFault}

-- a definition without columns, for places that the schema lacks
abbrev pub no_definition : TableDef ColumnShape
no_definition = record { name = []; columns = []; key = 0 }

-- what the text is for the table at a place of the schema
abbrev pub read_at : KeptTables → ℕ → List ℕ → Result SpatialTable LoadFault
read_at kept place text = table_in reading (get_or kept.definitions place no_definition) text

-- a place within the schema has that table
pub table_of_within : (kept : KeptTables) (place : ℕ) (text : List ℕ) → place < length kept.definitions
    → table_of kept place text ≡ Some (read_at kept place text)
table_of_within kept place text there =
    ap (option_map (λ (d : TableDef ColumnShape). table_in reading d text))
    (slice_get-get_or kept.definitions place no_definition there)

-- so that is what the status of loading is of
pub status_within : (kept : KeptTables) (place : ℕ) (text : List ℕ) → place < length kept.definitions
    → status_of_table kept place text ≡ status_of_reading (read_at kept place text)
status_within kept place text there =
    ap (λ r. option_map_or status_of_reading r unknown) (table_of_within kept place text there)

-- the table that was put is that of the text
pub has_loaded : (before : KeptTables) (place : ℕ) (text : List ℕ) (after : KeptTables) → place < length before.definitions
    → read_at before place text ≡ Ok (table_at after place)
    → after ≡ with_table place (table_at after place) before → HasLoaded before place text after
has_loaded before place text after there loads put = record {
  table = table_at after place;
  read = table_of_within before place text there ∙ ap Some loads;
  put = put;
}

-- the fault that was found is that of the text
pub unloaded : (kept : KeptTables) (place : ℕ) (text : List ℕ) (new : TablesFault)
    → place < length kept.definitions
    → IsRefusedWith load_fault_in_numbers (read_at kept place text) new → IsUnloadedFor kept place text new
unloaded kept place text new there refused = record {
  reading = read_at kept place text;
  is_reading = table_of_within kept place text there;
  refused = refused;
}
