-- Reading of a schema: the table definitions of a text, or the first fault from left to right (after SQL's
-- CREATE TABLE). Generic in what names a type of geometry.
use Rattle.std.specs.Prelude.{ℕ, zero, suc, Bool, true, false, not, ◌&&◌, ◌||◌, if◌then◌else◌, nat_le, nat_lt, List, [], ◌∷◌, ◌++◌, length, codes, Option, Some, None, Result, Ok, Err}
use Rattle.std.specs.List.{list_all, list_any}
use Rattle.std.specs.Option.{option_map}
use Rattle.table_model.specs.Definitions.{most_tables, most_columns, is_integer}
use Rattle.table_model.specs.Parsers.{Outcome, Parser, place, spelling, next, sees, ◌>>=◌, ◌>>◌, ◌<$>◌, pure, refuse, eat, expect, value_of}
use Rattle.table_model.specs.Texts.{same_name}
use Rattle.table_model.specs.Tokens.{tokens, most_bytes}
use Rattle.table_model.specs.declared.definitions.ColumnType.{ColumnType}
use Rattle.table_model.specs.declared.definitions.ColumnType.TheVariants as types
use Rattle.table_model.specs.declared.definitions.ColumnDef.{ColumnDef}
use Rattle.table_model.specs.declared.definitions.TableDef.{TableDef}
use Rattle.table_model.specs.declared.faults.SchemaFault.{SchemaFault}
use Rattle.table_model.specs.declared.faults.SchemaFault.TheVariants as fault
use Rattle.table_model.specs.declared.tokens.Token.{Token}
use Rattle.table_model.specs.declared.tokens.TokenKind.TheVariants as k

-- a reader of a schema
abbrev pub Reader : Type 0 → Type 0
Reader = Parser SchemaFault

-- ---- words and names

-- whether the next token is this word, in any ASCII case
abbrev pub sees_word : List ℕ → List Token → Bool
sees_word word ts = sees k.Word ts && same_name (spelling ts) word

-- reads this word
unfoldable pub expect_word : List ℕ → Reader (Unit {0})
expect_word word ts = if sees_word word ts then Ok (tt, next ts) else Err (fault.Syntax (place ts))

-- whether all bytes are ASCII, as those of a word are
abbrev pub is_ascii : List ℕ → Bool
is_ascii bytes = list_all (λ b. nat_lt b 128) bytes

-- whether the next token may be a name: a word that isn't reserved
abbrev pub sees_name : List Token → Bool
sees_name ts = sees k.Word ts && is_ascii (spelling ts)

-- a new name: S1 if no name comes next, else S5 if there is no room for one more, else S2 if it is taken
unfoldable pub new_name : Bool → Bool → Reader (List ℕ)
new_name full taken ts =
    if not (sees_name ts) then Err (fault.Syntax (place ts))
    else (if full then Err (fault.TooMany (place ts))
    else (if taken then Err (fault.DoubleName (place ts))
    else Ok (spelling ts, next ts)))

-- ---- columns

-- type = 'INTEGER' | 'INT' | 'BIGINT' | 'TEXT', or the name of a type of geometry
unfoldable pub type_named : {T : Type 0} → (List ℕ → Option T) → List ℕ → Option (ColumnType T)
type_named geometry word =
    if same_name word (codes "INTEGER") || (same_name word (codes "INT") || same_name word (codes "BIGINT")) then Some types.Integer
    else (if same_name word (codes "TEXT") then Some types.Text
    else option_map types.Geometry (geometry word))

-- the type, or S1 if the word names none
abbrev pub type_or : {T : Type 0} → Option (ColumnType T) → ℕ → List Token → Outcome SchemaFault (ColumnType T)
type_or (Some t) at rest = Ok (t, rest)
type_or None at rest = Err (fault.Syntax at)

-- type, as a word
unfoldable pub column_type : {T : Type 0} → (List ℕ → Option T) → Reader (ColumnType T)
column_type geometry ts =
    if sees k.Word ts then type_or (type_named geometry (spelling ts)) (place ts) (next ts) else Err (fault.Syntax (place ts))

-- ('NOT' 'NULL')?
unfoldable pub null_mark : Reader Bool
null_mark = do
  marked ← eat k.Not
  if marked then (λ read. true) <$> expect fault.Syntax k.Null else pure false

-- ('PRIMARY' 'KEY')?, on an INTEGER column of a table that has no key yet
unfoldable pub key_mark : {T : Type 0} → Bool → ColumnType T → Reader Bool
key_mark has_key type ts =
    if not (sees_word (codes "PRIMARY") ts) then Ok (false, ts)
    else (if not (is_integer type) then Err (fault.Syntax (place ts))
    else (if has_key then Err (fault.TwoKeys (place ts))
    else ((λ read. true) <$> expect_word (codes "KEY")) (next ts)))

-- mark*, each mark once: whether NOT NULL is there, and whether PRIMARY KEY is
unfoldable pub marks : {T : Type 0} → Bool → ColumnType T → Reader (Bool × Bool)
marks has_key type = do
  before ← null_mark
  is_key ← key_mark has_key type
  behind ← if before then pure false else null_mark
  pure (before || behind, is_key)

-- whether one of these columns has a name
abbrev pub has_column : {T : Type 0} → List (ColumnDef T) → List ℕ → Bool
has_column columns name = list_any (λ c. same_name c.name name) columns

-- column = name type mark*, after those that were read: the column, and whether it is the key
unfoldable pub column : {T : Type 0} → (List ℕ → Option T) → List (ColumnDef T) → Bool → Reader (ColumnDef T × Bool)
column geometry columns has_key = λ ts. (do
  name ← new_name (nat_le most_columns (length columns)) (has_column columns (spelling ts))
  type ← column_type geometry
  marked ← marks has_key type
  pure (record { name = name; column_type = type; not_null = marked.0 }, marked.1)) ts

-- whether there is a key
abbrev pub is_there : Option ℕ → Bool
is_there (Some place) = true
is_there None = false

-- the place of the key after one more column
abbrev pub key_after : Option ℕ → ℕ → Bool → Option ℕ
key_after key place true = Some place
key_after key place false = key

-- column (',' column)*, after those that were read, and the place of the key where there is one; the number bounds the columns
unfoldable pub columns_from : {T : Type 0} → (List ℕ → Option T) → ℕ → List (ColumnDef T) → Option ℕ → Reader (List (ColumnDef T) × Option ℕ)
columns_from geometry zero found key = refuse fault.Syntax
columns_from geometry (suc n) found key = do
  read ← column geometry found (is_there key)
  more ← eat k.Comma
  if more
      then columns_from geometry n (found ++ read.0 ∷ []) (key_after key (length found) read.1)
      else pure (found ++ read.0 ∷ [], key_after key (length found) read.1)

-- all columns of a table; there are no more of them than tokens
abbrev pub columns : {T : Type 0} → (List ℕ → Option T) → Reader (List (ColumnDef T) × Option ℕ)
columns geometry = λ ts. columns_from geometry (length ts) [] None ts

-- ---- tables

-- the table that a parenthesis closes, or S3 if it has no key
abbrev pub closed : {T : Type 0} → List ℕ → List (ColumnDef T) → Option ℕ → ℕ → Reader (TableDef T)
closed name columns (Some key) at = pure (record { name = name; columns = columns; key = key })
closed name columns None at = λ ts. Err (fault.NoKey at)

-- the table, by its parenthesis after the columns and the place of the key
abbrev pub close : {T : Type 0} → List ℕ → List (ColumnDef T) × Option ℕ → Reader (TableDef T)
close name read = λ ts. (do
  expect fault.Syntax k.RightParenthesis
  closed name read.0 read.1 (place ts)) ts

-- whether one of these tables has a name
abbrev pub has_table : {T : Type 0} → List (TableDef T) → List ℕ → Bool
has_table tables name = list_any (λ t. same_name t.name name) tables

-- the name of a table, after those that were read
unfoldable pub table_name : {T : Type 0} → List (TableDef T) → Reader (List ℕ)
table_name tables = λ ts. new_name (nat_le most_tables (length tables)) (has_table tables (spelling ts)) ts

-- table = 'CREATE' 'TABLE' name '(' column (',' column)* ')', after those that were read
unfoldable pub table : {T : Type 0} → (List ℕ → Option T) → List (TableDef T) → Reader (TableDef T)
table geometry tables = do
  expect_word (codes "CREATE")
  expect_word (codes "TABLE")
  name ← table_name tables
  expect fault.Syntax k.LeftParenthesis
  read ← columns geometry
  close name read

-- reads a semicolon, if one comes next, and returns whether a table follows it
unfoldable pub goes_on : Reader Bool
goes_on = do
  separated ← eat k.Semicolon
  λ ts. Ok (separated && not (sees k.End ts), ts)

-- table (';' table)* ';'?, after those that were read; the number bounds the tables
unfoldable pub tables_from : {T : Type 0} → (List ℕ → Option T) → ℕ → List (TableDef T) → Reader (List (TableDef T))
tables_from geometry zero found = refuse fault.Syntax
tables_from geometry (suc n) found = do
  read ← table geometry found
  more ← goes_on
  if more then tables_from geometry n (found ++ read ∷ []) else pure (found ++ read ∷ [])

-- all tables of a schema, perhaps none; there are no more of them than tokens
abbrev pub all_tables : {T : Type 0} → (List ℕ → Option T) → Reader (List (TableDef T))
all_tables geometry = λ ts. if sees k.End ts then Ok ([], ts) else tables_from geometry (length ts) [] ts

-- schema = (table (';' table)* ';'?)?
unfoldable pub schema : {T : Type 0} → (List ℕ → Option T) → Reader (List (TableDef T))
schema geometry = do
  tables ← all_tables geometry
  expect fault.Syntax k.End
  pure tables

-- The schema that a text is, or its fault: its length first, then its grammar
unfoldable pub schema_of : {T : Type 0} → (List ℕ → Option T) → List ℕ → Result (List (TableDef T)) SchemaFault
schema_of geometry text = if nat_lt most_bytes (length text) then Err fault.TooLong else value_of (schema geometry (tokens false text))
