-- At which tokens a schema is refused, said without a reader. Four rules are left out of the grammar: not too many tables or
-- columns, no two equal names, no second key, no table without a key. A token is refused if the tokens up to it begin a text
-- of this grammar and the token breaks one of the four rules (after SQL's CREATE TABLE). Generic in what names a type of geometry.
use Rattle.std.specs.Prelude.{◌≡◌, ◌≤◌, ◌<◌, ◌⊎◌, ℕ, Bool, true, false, List, [], ◌∷◌, ◌++◌, codes, length, map, Option, Result, Err}
use Rattle.std.specs.List.{list_any}
use Rattle.table_model.specs.Definitions.{most_tables, most_columns, is_integer}
use Rattle.table_model.specs.Outcomes.{Gives}
use Rattle.table_model.specs.SchemaGrammar.{IsNamed, IsType, IsNotNull, IsMark, Marked, IsMarked}
use Rattle.table_model.specs.Texts.{same_name}
use Rattle.table_model.specs.Tokens.{tokens, most_bytes}
use Rattle.table_model.specs.declared.definitions.ColumnType.{ColumnType}
use Rattle.table_model.specs.declared.definitions.TableDef.{TableDef}
use Rattle.table_model.specs.declared.faults.SchemaFault.{SchemaFault}
use Rattle.table_model.specs.declared.faults.SchemaFault.TheVariants as fault
use Rattle.table_model.specs.declared.tokens.Token.{Token}
use Rattle.table_model.specs.declared.tokens.TokenKind.TheVariants as k
use Rattle.table_model.specs.Phrases.{Phrase, IsToken, ◌▸◌, IsParts, AreEnded, IsWord}

-- ---- the grammar without those rules

-- a table as it is written: its name, and its columns with whether PRIMARY KEY is on each
abbrev pub Written : Type 0 → Type 0
Written T = List ℕ × List (Marked T)

-- column = name type mark*, where only an INTEGER column has PRIMARY KEY
abbrev pub IsColumn : {T : Type 0} → (List ℕ → Option T) → Marked T → Phrase
IsColumn geometry column ts = (column.1 ≡ true → is_integer column.0.column_type ≡ true) × IsMarked geometry column ts

-- 'CREATE' 'TABLE', before the name
abbrev pub IsCreateTable : Phrase
IsCreateTable = IsWord (codes "CREATE") ▸ IsWord (codes "TABLE")

-- table = 'CREATE' 'TABLE' name '(' column (',' column)* ')'
abbrev pub IsWritten : {T : Type 0} → (List ℕ → Option T) → Written T → Phrase
IsWritten {T} geometry table ts =
    (first : Marked T) × (more : List (Marked T)) × (table.1 ≡ first ∷ more)
    × (IsCreateTable ▸ IsNamed table.0 ▸ IsToken k.LeftParenthesis ▸ IsParts k.Comma (IsColumn geometry) first more ▸ IsToken k.RightParenthesis) ts

-- ---- what can come before a token

-- what comes before the name of a table, after these tables
abbrev pub BeforeTable : {T : Type 0} → (List ℕ → Option T) → List (Written T) → Phrase
BeforeTable geometry tables = AreEnded (IsToken k.Semicolon) (IsWritten geometry) tables ▸ IsCreateTable

-- what comes before the first column of a table of this name
abbrev pub BeforeColumns : {T : Type 0} → (List ℕ → Option T) → List (Written T) → List ℕ → Phrase
BeforeColumns geometry tables name = BeforeTable geometry tables ▸ IsNamed name ▸ IsToken k.LeftParenthesis

-- what comes before the name of a column, after these columns of the table
abbrev pub BeforeColumn : {T : Type 0} → (List ℕ → Option T) → List (Written T) → List ℕ → List (Marked T) → Phrase
BeforeColumn geometry tables name columns = BeforeColumns geometry tables name ▸ AreEnded (IsToken k.Comma) (IsColumn geometry) columns

-- what comes before the marks of a column, or between NOT NULL and PRIMARY
abbrev pub BeforeKey : {T : Type 0} → (List ℕ → Option T) → List (Written T) → List ℕ → List (Marked T) → List ℕ → ColumnType T → Bool → Phrase
BeforeKey geometry tables name columns column type not_null =
    BeforeColumn geometry tables name columns ▸ IsNamed column ▸ IsType geometry type ▸ IsMark not_null IsNotNull

-- what comes before the parenthesis that closes a table
abbrev pub BeforeClose : {T : Type 0} → (List ℕ → Option T) → List (Written T) → List ℕ → Marked T → List (Marked T) → Phrase
BeforeClose geometry tables name first more = BeforeColumns geometry tables name ▸ IsParts k.Comma (IsColumn geometry) first more

-- ---- the refusals

-- a token is a name: a word that isn't reserved
abbrev pub IsName : Token → Type 0
IsName t = t.kind ≡ k.Word

-- whether one of these names is that of a token, in any ASCII case
abbrev pub is_among : Token → List (List ℕ) → Bool
is_among t names = list_any (λ name. same_name name t.text) names

-- whether PRIMARY KEY is on one of these columns
abbrev pub has_key : {T : Type 0} → List (Marked T) → Bool
has_key columns = list_any (λ c. c.1) columns

-- the names of columns as they are written
abbrev pub names_of : {T : Type 0} → List (Marked T) → List (List ℕ)
names_of columns = map (λ c. c.0.name) columns

-- too many: the name of the 17th table, or of the 33rd column of a table
abbrev pub IsTooMany : {T : Type 0} → (List ℕ → Option T) → List Token → Token → Type 0
IsTooMany {T} geometry before t =
    IsName t × (tables : List (Written T))
    × (((length tables ≡ most_tables) × BeforeTable geometry tables before)
    ⊎ ((name : List ℕ) × (columns : List (Marked T)) × (length columns ≡ most_columns) × BeforeColumn geometry tables name columns before))

-- a double name: the second of two equal names of tables, or of columns of a table, where there is room for one more
abbrev pub IsDoubleName : {T : Type 0} → (List ℕ → Option T) → List Token → Token → Type 0
IsDoubleName {T} geometry before t =
    IsName t × (tables : List (Written T))
    × (((length tables < most_tables) × (is_among t (map (λ w. w.0) tables) ≡ true) × BeforeTable geometry tables before)
    ⊎ ((name : List ℕ) × (columns : List (Marked T)) × (length columns < most_columns) × (is_among t (names_of columns) ≡ true)
    × BeforeColumn geometry tables name columns before))

-- two keys: PRIMARY on an INTEGER column of a table of which an earlier column is the key
abbrev pub IsSecondKey : {T : Type 0} → (List ℕ → Option T) → List Token → Token → Type 0
IsSecondKey {T} geometry before t =
    (t.kind ≡ k.Word) × (same_name t.text (codes "PRIMARY") ≡ true)
    × (tables : List (Written T)) × (name : List ℕ) × (columns : List (Marked T)) × (has_key columns ≡ true)
    × (column : List ℕ) × (type : ColumnType T) × (not_null : Bool) × (is_integer type ≡ true)
    × BeforeKey geometry tables name columns column type not_null before

-- no key: the parenthesis that closes a table without PRIMARY KEY
abbrev pub IsCloseWithoutKey : {T : Type 0} → (List ℕ → Option T) → List Token → Token → Type 0
IsCloseWithoutKey {T} geometry before t =
    (t.kind ≡ k.RightParenthesis)
    × (tables : List (Written T)) × (name : List ℕ) × (first : Marked T) × (more : List (Marked T)) × (has_key (first ∷ more) ≡ false)
    × BeforeClose geometry tables name first more before

-- a fault applies at a token, which comes after these tokens; faults of syntax, length and memory aren't of this sort
abbrev pub AppliesAt : {T : Type 0} → (List ℕ → Option T) → List Token → Token → SchemaFault → Type 0
AppliesAt geometry before t (fault.TooMany at) = (at ≡ t.at) × IsTooMany geometry before t
AppliesAt geometry before t (fault.DoubleName at) = (at ≡ t.at) × IsDoubleName geometry before t
AppliesAt geometry before t (fault.TwoKeys at) = (at ≡ t.at) × IsSecondKey geometry before t
AppliesAt geometry before t (fault.NoKey at) = (at ≡ t.at) × IsCloseWithoutKey geometry before t
AppliesAt geometry before t (fault.Syntax at) = ⊥
AppliesAt geometry before t fault.TooLong = ⊥
AppliesAt geometry before t fault.OutOfMemory = ⊥

-- a fault applies at one of these tokens
abbrev pub AppliesIn : {T : Type 0} → (List ℕ → Option T) → List Token → SchemaFault → Type 0
AppliesIn geometry ts f = (before after : List Token) × (t : Token) × (ts ≡ before ++ t ∷ after) × AppliesAt geometry before t f

-- whether a fault is one of those at a token: too many, a double name, two keys, no key
abbrev pub is_at_token : SchemaFault → Bool
is_at_token (fault.TooMany at) = true
is_at_token (fault.DoubleName at) = true
is_at_token (fault.TwoKeys at) = true
is_at_token (fault.NoKey at) = true
is_at_token (fault.Syntax at) = false
is_at_token fault.TooLong = false
is_at_token fault.OutOfMemory = false

-- if the fault is of the sort that applies at a token, it does so in the text
abbrev pub AppliesInSchema : {T : Type 0} → (List ℕ → Option T) → List ℕ → SchemaFault → Type 0
AppliesInSchema geometry text f = is_at_token f ≡ true → AppliesIn geometry (tokens false text) f

-- Where such faults apply at tokens of a text that isn't too long, a reader returns one at the first of these tokens, or
-- memory ran out.
abbrev pub ReturnsFirst : {T : Type 0} → (List ℕ → Option T) → List ℕ → Result (List (TableDef T)) SchemaFault → Type 0
ReturnsFirst geometry text result = (before after : List Token) (t : Token) (g : SchemaFault)
    → length text ≤ most_bytes → tokens false text ≡ before ++ t ∷ after → AppliesAt geometry before t g
    → (f : SchemaFault) × (is_at_token f ≡ true) × AppliesIn geometry (before ++ t ∷ []) f × Gives fault.OutOfMemory (λ t. t) result (Err f)
