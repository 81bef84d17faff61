-- The grammar of schemas: a relation for each rule, between a tree and the tokens that are written for it (after SQL's CREATE TABLE). Generic in what names a type of geometry.
use Rattle.std.specs.Prelude.{◌≡◌, ◌≤◌, ◌⊎◌, ◌+◌, ℕ, Bool, true, false, if◌then◌else◌, List, [], ◌∷◌, map, codes, length, Option, Some, Result, Ok}
use Rattle.table_model.specs.Definitions.{lawful}
use Rattle.table_model.specs.Outcomes.{Gives}
use Rattle.table_model.specs.SchemaReading.{type_named}
use Rattle.table_model.specs.Tokens.{tokens, most_bytes}
use Rattle.table_model.specs.declared.definitions.ColumnType.{ColumnType}
use Rattle.table_model.specs.declared.definitions.ColumnDef.{ColumnDef}
use Rattle.table_model.specs.declared.definitions.TableDef.{TableDef}
use Rattle.table_model.specs.declared.faults.SchemaFault.{SchemaFault}
use Rattle.table_model.specs.declared.faults.SchemaFault.TheVariants as fault
use Rattle.table_model.specs.declared.tokens.TokenKind.TheVariants as k
use Rattle.table_model.specs.Phrases.{Phrase, IsOne, IsToken, ◌▸◌, IsOptional, IsParts, IsWord}

-- a name: a word that isn't reserved
abbrev pub IsNamed : List ℕ → Phrase
IsNamed name = IsOne (λ t. (t.kind ≡ k.Word) × (name ≡ t.text))

-- type = 'INTEGER' | 'INT' | 'BIGINT' | 'TEXT', or the name of a type of geometry
abbrev pub IsType : {T : Type 0} → (List ℕ → Option T) → ColumnType T → Phrase
IsType geometry type = IsOne (λ t. (t.kind ≡ k.Word) × (type_named geometry t.text ≡ Some type))

-- 'NOT' 'NULL'
abbrev pub IsNotNull : Phrase
IsNotNull = IsToken k.Not ▸ IsToken k.Null

-- 'PRIMARY' 'KEY'
abbrev pub IsPrimaryKey : Phrase
IsPrimaryKey = IsWord (codes "PRIMARY") ▸ IsWord (codes "KEY")

-- the phrase where the Bool says so, else nothing
abbrev pub IsMark : Bool → Phrase → Phrase
IsMark true P = P
IsMark false P = λ ts. ts ≡ []

-- mark*, in either order, each at most once: whether NOT NULL is there, and whether PRIMARY KEY is
abbrev pub AreMarks : Bool → Bool → Phrase
AreMarks not_null is_key ts =
    (IsMark not_null IsNotNull ▸ IsMark is_key IsPrimaryKey) ts ⊎ (IsMark is_key IsPrimaryKey ▸ IsMark not_null IsNotNull) ts

-- a column, and whether PRIMARY KEY is on it
abbrev pub Marked : Type 0 → Type 0
Marked T = ColumnDef T × Bool

-- column = name type mark*
abbrev pub IsMarked : {T : Type 0} → (List ℕ → Option T) → Marked T → Phrase
IsMarked geometry column = IsNamed column.0.name ▸ IsType geometry column.0.column_type ▸ AreMarks column.0.not_null column.1

-- the places of the columns with PRIMARY KEY, where the first column has this place
abbrev pub key_places : {T : Type 0} → ℕ → List (Marked T) → List ℕ
key_places place [] = []
key_places place (column ∷ more) = if column.1 then place ∷ key_places (place + 1) more else key_places (place + 1) more

-- table = 'CREATE' 'TABLE' name '(' column (',' column)* ')', where exactly one column has PRIMARY KEY
abbrev pub IsTable : {T : Type 0} → (List ℕ → Option T) → TableDef T → Phrase
IsTable {T} geometry table ts =
    (first : Marked T) × (more : List (Marked T))
    × (table.columns ≡ map (λ c. c.0) (first ∷ more)) × (key_places 0 (first ∷ more) ≡ table.key ∷ [])
    × (IsWord (codes "CREATE") ▸ IsWord (codes "TABLE") ▸ IsNamed table.name ▸ IsToken k.LeftParenthesis
    ▸ IsParts k.Comma (IsMarked geometry) first more ▸ IsToken k.RightParenthesis) ts

-- schema = (table (';' table)* ';'?)?, and then the text ends
abbrev pub AreTables : {T : Type 0} → (List ℕ → Option T) → List (TableDef T) → Phrase
AreTables {T} geometry tables ts =
    ((tables ≡ []) × IsToken k.End ts)
    ⊎ ((first : TableDef T) × (more : List (TableDef T)) × (tables ≡ first ∷ more)
    × (IsParts k.Semicolon (IsTable geometry) first more ▸ IsOptional k.Semicolon ▸ IsToken k.End) ts)

-- A text is a schema: it isn't too long, its tokens are written for the tables, and these are lawful.
unfoldable pub IsSchema : {T : Type 0} → (List ℕ → Option T) → List ℕ → List (TableDef T) → Type 0
IsSchema geometry text tables = (length text ≤ most_bytes) × (lawful tables ≡ true) × AreTables geometry tables (tokens false text)

-- if the text is the schema of some tables, a reader returns these tables, or memory ran out
abbrev pub ReturnsSchema : {T : Type 0} → (List ℕ → Option T) → List ℕ → Result (List (TableDef T)) SchemaFault → Type 0
ReturnsSchema {T} geometry text result = (tables : List (TableDef T)) → IsSchema geometry text tables → Gives fault.OutOfMemory (λ t. t) result (Ok tables)
