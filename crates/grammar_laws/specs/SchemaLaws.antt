-- The laws of schemas: reading and the grammar agree, on tables and on refusals at a token, whatever names a type of
-- geometry.
use Rattle.std.specs.Prelude.{◌≡◌, ℕ, List, Option, Ok, IfErr}
use Rattle.table_model.specs.SchemaGrammar.{IsSchema}
use Rattle.table_model.specs.SchemaReading.{schema_of}
use Rattle.table_model.specs.SchemaRefusals.{AppliesInSchema, ReturnsFirst}
use Rattle.table_model.specs.declared.definitions.TableDef.{TableDef}

-- the tables that a text is read as are those of its schema by the grammar
abbrev pub ReadIsSchema : Type 0 → Type 0
ReadIsSchema T = (geometry : List ℕ → Option T) (text : List ℕ) (tables : List (TableDef T)) → schema_of geometry text ≡ Ok tables → IsSchema geometry text tables

-- a text that is a schema by the grammar is read as the tables of that schema
abbrev pub SchemaIsRead : Type 0 → Type 0
SchemaIsRead T = (geometry : List ℕ → Option T) (text : List ℕ) (tables : List (TableDef T)) → IsSchema geometry text tables → schema_of geometry text ≡ Ok tables

-- a text is at most one schema
abbrev pub OneSchema : Type 0 → Type 0
OneSchema T = (geometry : List ℕ → Option T) (text : List ℕ) (a b : List (TableDef T)) → IsSchema geometry text a → IsSchema geometry text b → a ≡ b

-- if a text is refused for a fault at a token, the fault applies there
abbrev pub SchemaRefusalApplies : Type 0 → Type 0
SchemaRefusalApplies T = (geometry : List ℕ → Option T) (text : List ℕ) → IfErr (schema_of geometry text) (AppliesInSchema geometry text)

-- where faults apply at tokens of a text, it is refused for the first of them
abbrev pub FirstSchemaFaultIsRead : Type 0 → Type 0
FirstSchemaFaultIsRead T = (geometry : List ℕ → Option T) (text : List ℕ) → ReturnsFirst geometry text (schema_of geometry text)
