-- A schema that is read is lawful.
use Rattle.std.proofs.Common.{◌≡◌, ◌<◌, ◌≤◌, ◌||◌, not, ℕ, zero, suc, Bool, true, false, cond, List, [], ◌∷◌, ◌++◌, length, map, Option, Some, None, Ok, Err, refl, sym, ap, ◌∙◌, arith, subst}
use Rattle.std.specs.List.{list_all, list_any, slice_get}
use Rattle.std.specs.Prelude.{nat_le, codes, if◌then◌else◌}
use Rattle.std.proofs.lemmas.Bool.{and_parts, or_parts, leb-false, le-leb, false≢true, not-true, not_from_false, or_from, and_from}
use Rattle.std.proofs.lemmas.List.{map-append, length-append}
use Rattle.std.proofs.lemmas.List.Folds.{list_any-append, list_all-append}
use Rattle.table_model.proofs.ListFacts.{list_any-map}
use Rattle.table_model.specs.Definitions.{names_differ, is_integer, may_be_key, column_names, lawful_table, lawful}
use Rattle.table_model.specs.Parsers.{Outcome, Parser, place, spelling, next, sees, and_then, ◌>>=◌, ◌>>◌, pure, eat, expect}
use Rattle.table_model.specs.Texts.{same_name}
use Rattle.table_model.specs.declared.definitions.ColumnType.{ColumnType}
use Rattle.table_model.specs.declared.definitions.ColumnDef.{ColumnDef}
use Rattle.table_model.specs.declared.definitions.TableDef.{TableDef}
use Rattle.table_model.specs.declared.faults.SchemaFault.{SchemaFault}
use Rattle.table_model.specs.declared.faults.SchemaFault.TheVariants as fault
use Rattle.table_model.specs.declared.tokens.Token.{Token}
use Rattle.table_model.specs.declared.tokens.TokenKind.TheVariants as k
use Rattle.table_model.specs.SchemaReading.{Reader, expect_word, new_name, column_type, null_mark, key_mark, marks, has_column, column, is_there, key_after, columns_from, columns, closed, close, has_table, table_name, table, goes_on, tables_from, all_tables, schema}

-- ---- lists of names

-- one more name, which none of the others is
names_differ-snoc : (names : List (List ℕ)) (name : List ℕ) → names_differ names ≡ true → list_any (λ n. same_name n name) names ≡ false → names_differ (names ++ name ∷ []) ≡ true
names_differ-snoc [] name differ fresh = refl
names_differ-snoc (n ∷ names) name differ fresh =
    let parts = and_parts _ _ differ in
    let others = or_parts _ _ fresh in
    let one : (same_name n name || false) ≡ false = or_from _ _ others.0 refl in
    let taken : list_any (same_name n) (names ++ name ∷ []) ≡ false = list_any-append (same_name n) names (name ∷ []) ∙ or_from _ _ (not-true _ parts.0) one in
    and_from _ _ (not_from_false _ taken) (names_differ-snoc names name parts.1 others.1)

-- ---- outcomes of readers

abbrev pub IfRead : {A : Type 0} → Outcome SchemaFault A → (A → Type 0) → Type 0
IfRead (Ok p) Q = Q p.0
IfRead (Err e) Q = Unit {0}

-- what two readers in a row read, from what is known of the first's answer; a fault has nothing to show
then_read : {A B : Type 0} (r : Outcome SchemaFault A) (f : A → Parser SchemaFault B) (Q : A → Type 0) (R : B → Type 0)
    → ((x : A) (ts : List Token) → Q x → IfRead (f x ts) R) → IfRead r Q → IfRead (and_then r f) R
then_read (Ok p) f Q R step h = step p.0 p.1 h
then_read (Err e) f Q R step h = tt

abbrev Anything : {A : Type 0} → A → Type 0
Anything x = Unit {0}

any_read : {A : Type 0} (r : Outcome SchemaFault A) → IfRead r Anything
any_read (Ok p) = tt
any_read (Err e) = tt

-- ---- columns

-- a name that was read had room, wasn't taken and is what is spelled
new_name-read : (full taken : Bool) (ts : List Token) → IfRead (new_name full taken ts) (λ name. (full ≡ false) × (taken ≡ false) × (name ≡ spelling ts))
unfolding new_name
new_name-read full taken ts = go _ full taken
  where
    go : (absent full taken : Bool) → IfRead (cond absent (Err (fault.Syntax (place ts))) (cond full (Err (fault.TooMany (place ts))) (cond taken (Err (fault.DoubleName (place ts))) (Ok (spelling ts, next ts))))) (λ name. (full ≡ false) × (taken ≡ false) × (name ≡ spelling ts))
    go true full taken = tt
    go false true taken = tt
    go false false true = tt
    go false false false = (refl, refl, refl)

-- a key is an INTEGER column
abbrev IsKeyType : {T : Type 0} → ColumnType T → Bool → Type 0
IsKeyType type is_key = is_key ≡ true → is_integer type ≡ true

-- PRIMARY KEY is read on INTEGER columns alone: on another it is refused
key_mark-read : {T : Type 0} (has_key : Bool) (type : ColumnType T) (ts : List Token) → IfRead (key_mark has_key type ts) (IsKeyType type)
unfolding key_mark
key_mark-read has_key type ts = go _ (is_integer type) has_key refl
  where
    go : (absent whole has_key : Bool) → whole ≡ is_integer type
        → IfRead (cond absent (Ok (false, ts)) (cond (not whole) (Err (fault.Syntax (place ts))) (cond has_key (Err (fault.TwoKeys (place ts))) (and_then (expect_word (codes "KEY") (next ts)) (λ x rest. Ok (true, rest)))))) (IsKeyType type)
    go true whole has_key e = λ is. absurd (false≢true is)
    go false false has_key e = tt
    go false true true e = tt
    go false true false e =
        then_read (expect_word (codes "KEY") (next ts)) (λ x. pure true) Anything (IsKeyType type) (λ x rest _. λ is. sym e) (any_read _)

-- the rest of the marks, after the first and after the key's
abbrev marks_behind : Bool → Bool → Reader (Bool × Bool)
marks_behind before is_key = do
  behind ← if before then pure false else null_mark
  pure (before || behind, is_key)

abbrev marks_from_key : {T : Type 0} → Bool → ColumnType T → Bool → Reader (Bool × Bool)
marks_from_key has_key type before = do
  is_key ← key_mark has_key type
  marks_behind before is_key

abbrev AreMarks : {T : Type 0} → ColumnType T → Bool × Bool → Type 0
AreMarks type m = IsKeyType type m.1

-- whatever marks are read, with PRIMARY KEY among them the column is INTEGER
marks-read : {T : Type 0} (has_key : Bool) (type : ColumnType T) (ts : List Token) → IfRead (marks has_key type ts) (AreMarks type)
unfolding marks
marks-read has_key type ts =
    then_read (null_mark ts) (marks_from_key has_key type) Anything (AreMarks type)
    (λ before rest _. then_read (key_mark has_key type rest) (marks_behind before) (IsKeyType type) (AreMarks type)
    (λ is_key rest' is.
    then_read (cond before (pure false) null_mark rest') (λ behind. pure (before || behind, is_key)) Anything (AreMarks type) (λ behind rest'' _. is) (any_read _))
    (key_mark-read has_key type rest))
    (any_read _)

-- what is known of a column that was read after some
pub record IsNext {T : Type 0} (found : List (ColumnDef T)) (read : ColumnDef T × Bool) : Type 0 where
  pub room : length found < 32
  pub fresh : has_column found read.0.name ≡ false
  pub key : IsKeyType read.0.column_type read.1

-- a column, after its name, and after its type
abbrev column_marked : {T : Type 0} → Bool → List ℕ → ColumnType T → Reader (ColumnDef T × Bool)
column_marked has_key name type = do
  marked ← marks has_key type
  pure (record { name = name; column_type = type; not_null = marked.0 }, marked.1)

abbrev column_typed : {T : Type 0} → (List ℕ → Option T) → Bool → List ℕ → Reader (ColumnDef T × Bool)
column_typed geometry has_key name = do
  type ← column_type geometry
  column_marked has_key name type

abbrev IsNewName : {T : Type 0} → List (ColumnDef T) → List Token → List ℕ → Type 0
IsNewName found ts name = (nat_le 32 (length found) ≡ false) × (has_column found (spelling ts) ≡ false) × (name ≡ spelling ts)

-- a column that is read is one of at most 32, has a name that none before it has, and is INTEGER where it is the key
column-read : {T : Type 0} (geometry : List ℕ → Option T) (found : List (ColumnDef T)) (has_key : Bool) (ts : List Token) → IfRead (column geometry found has_key ts) (IsNext found)
unfolding column
column-read geometry found has_key ts =
    then_read (new_name (nat_le 32 (length found)) (has_column found (spelling ts)) ts) (column_typed geometry has_key) (IsNewName found ts) (IsNext found)
    (λ name rest named. then_read (column_type geometry rest) (column_marked has_key name) Anything (IsNext found)
    (λ type rest' _. then_read (marks has_key type rest') (λ marked. pure (record { name = name; column_type = type; not_null = marked.0 }, marked.1)) (AreMarks type) (IsNext found)
    (λ m rest'' key. record { room = leb-false _ _ named.0; fresh = ap (has_column found) named.2 ∙ named.1; key = key })
    (marks-read has_key type rest'))
    (any_read _))
    (new_name-read (nat_le 32 (length found)) (has_column found (spelling ts)) ts)

-- what is known of the columns that were read so far, and of the place of the key
abbrev IsKey : {T : Type 0} → List (ColumnDef T) → Option ℕ → Type 0
IsKey found (Some place) = may_be_key (slice_get found place) ≡ true
IsKey found None = Unit {0}

pub record AreColumns {T : Type 0} (found : List (ColumnDef T)) (key : Option ℕ) : Type 0 where
  pub few : length found ≤ 32
  pub differ : names_differ (column_names found) ≡ true
  pub keyed : IsKey found key

-- what is at a place is there with more behind it
may_be_key-append : {T : Type 0} (found more : List (ColumnDef T)) (place : ℕ) → may_be_key (slice_get found place) ≡ true → may_be_key (slice_get (found ++ more) place) ≡ true
may_be_key-append [] more place h = absurd (false≢true h)
may_be_key-append (c ∷ found) more zero h = h
may_be_key-append (c ∷ found) more (suc place) h = may_be_key-append found more place h

-- an INTEGER column put behind others may be the key, at the place behind theirs
may_be_key-last : {T : Type 0} (found : List (ColumnDef T)) (c : ColumnDef T) → is_integer c.column_type ≡ true → may_be_key (slice_get (found ++ c ∷ []) (length found)) ≡ true
may_be_key-last [] c h = h
may_be_key-last (x ∷ found) c h = may_be_key-last found c h

-- after one more column the key is that of before, or this column, which is INTEGER then
IsKey-after : {T : Type 0} (found : List (ColumnDef T)) (key : Option ℕ) (c : ColumnDef T) (is_key : Bool) → IsKey found key → IsKeyType c.column_type is_key → IsKey (found ++ c ∷ []) (key_after key (length found) is_key)
IsKey-after found key c true keyed is = may_be_key-last found c (is refl)
IsKey-after found None c false keyed is = tt
IsKey-after found (Some place) c false keyed is = may_be_key-append found (c ∷ []) place keyed

-- whether a column has a name is whether the name is among theirs
has_column-names : {T : Type 0} (found : List (ColumnDef T)) (name : List ℕ) → list_any (λ n. same_name n name) (column_names found) ≡ has_column found name
has_column-names found name = list_any-map (λ n. same_name n name) (λ c. c.name) found

-- one more column that was read leaves at most 32, with names that differ and a key that may be one
AreColumns-more : {T : Type 0} (found : List (ColumnDef T)) (key : Option ℕ) (read : ColumnDef T × Bool) → AreColumns found key → IsNext found read → AreColumns (found ++ read.0 ∷ []) (key_after key (length found) read.1)
AreColumns-more found key read are is = record {
  few = omega (arith, length-append found (read.0 ∷ []), is.room);
  differ =
      ap names_differ (map-append (λ c. c.name) found (read.0 ∷ []))
      ∙ names_differ-snoc (column_names found) read.0.name are.differ (has_column-names found read.0.name ∙ is.fresh);
  keyed = IsKey-after found key read.0 read.1 are.keyed is.key;
}

abbrev Columns : {T : Type 0} → List (ColumnDef T) × Option ℕ → Type 0
Columns read = AreColumns read.0 read.1

-- the columns after one that was read
abbrev more_columns : {T : Type 0} → (List ℕ → Option T) → ℕ → List (ColumnDef T) → Option ℕ → ColumnDef T × Bool → Bool → Reader (List (ColumnDef T) × Option ℕ)
more_columns geometry n found key read more =
    if more
    then columns_from geometry n (found ++ read.0 ∷ []) (key_after key (length found) read.1)
    else pure (found ++ read.0 ∷ [], key_after key (length found) read.1)

abbrev columns_behind : {T : Type 0} → (List ℕ → Option T) → ℕ → List (ColumnDef T) → Option ℕ → ColumnDef T × Bool → Reader (List (ColumnDef T) × Option ℕ)
columns_behind geometry n found key read = do
  more ← eat k.Comma
  more_columns geometry n found key read more

-- behind a comma further columns are read; without one, these are all
more_columns-read : {T : Type 0} (geometry : List ℕ → Option T) (n : ℕ) (found : List (ColumnDef T)) (key : Option ℕ) (read : ColumnDef T × Bool) (more : Bool) (ts : List Token)
    → AreColumns (found ++ read.0 ∷ []) (key_after key (length found) read.1)
    → IfRead (columns_from geometry n (found ++ read.0 ∷ []) (key_after key (length found) read.1) ts) Columns
    → IfRead (more_columns geometry n found key read more ts) Columns
more_columns-read geometry n found key read true ts are rest = rest
more_columns-read geometry n found key read false ts are rest = are

-- column by column, what was read so far stays within the limits, and so does the whole list
columns_from-read : {T : Type 0} (geometry : List ℕ → Option T) (n : ℕ) (found : List (ColumnDef T)) (key : Option ℕ) (ts : List Token) → AreColumns found key → IfRead (columns_from geometry n found key ts) Columns
unfolding columns_from
columns_from-read geometry zero found key ts are = tt
columns_from-read geometry (suc n) found key ts are =
    then_read (column geometry found (is_there key) ts) (columns_behind geometry n found key) (IsNext found) Columns
    (λ read rest is. then_read (eat k.Comma rest) (more_columns geometry n found key read) Anything Columns
    (λ more rest' _.
    let all : AreColumns (found ++ read.0 ∷ []) (key_after key (length found) read.1) = AreColumns-more found key read are is in
    more_columns-read geometry n found key read more rest' all (columns_from-read geometry n (found ++ read.0 ∷ []) (key_after key (length found) read.1) rest' all))
    tt)
    (column-read geometry found (is_there key) ts)

-- ---- tables

-- a parenthesis closes a table with a key alone, so a table that is closed is lawful
closed-read : {T : Type 0} (name : List ℕ) (columns : List (ColumnDef T)) (key : Option ℕ) (at : ℕ) (ts : List Token) → AreColumns columns key
    → IfRead (closed name columns key at ts) (λ t. (t.name ≡ name) × (lawful_table t ≡ true))
closed-read name columns None at ts are = tt
closed-read name columns (Some key) at ts are = (refl, and_from _ _ (le-leb _ _ are.few) (and_from _ _ are.differ are.keyed))

-- what is known of a table that was read after some
pub record IsNextTable {T : Type 0} (found : List (TableDef T)) (read : TableDef T) : Type 0 where
  pub room : length found < 16
  pub fresh : has_table found read.name ≡ false
  pub lawful : lawful_table read ≡ true

abbrev IsNewTableName : {T : Type 0} → List (TableDef T) → List ℕ → Type 0
IsNewTableName found name = (nat_le 16 (length found) ≡ false) × (has_table found name ≡ false)

-- a table's name that is read is one of at most 16, and no table before it has the name
table_name-read : {T : Type 0} (found : List (TableDef T)) (ts : List Token) → IfRead (table_name found ts) (IsNewTableName found)
unfolding table_name
table_name-read found ts = weaker (new_name _ _ ts) (new_name-read (nat_le 16 (length found)) (has_table found (spelling ts)) ts)
  where
    weaker : (r : Outcome SchemaFault (List ℕ)) → IfRead r (λ name. (nat_le 16 (length found) ≡ false) × (has_table found (spelling ts) ≡ false) × (name ≡ spelling ts)) → IfRead r (IsNewTableName found)
    weaker (Ok p) h = (h.0, ap (has_table found) h.2 ∙ h.1)
    weaker (Err e) h = tt

-- a table after its words
abbrev table_columns : {T : Type 0} → (List ℕ → Option T) → List ℕ → Reader (TableDef T)
table_columns geometry name = do
  read ← columns geometry
  close name read

abbrev table_opened : {T : Type 0} → (List ℕ → Option T) → List ℕ → Reader (TableDef T)
table_opened geometry name = do
  expect fault.Syntax k.LeftParenthesis
  table_columns geometry name

abbrev table_named : {T : Type 0} → (List ℕ → Option T) → List (TableDef T) → Reader (TableDef T)
table_named geometry tables = do
  name ← table_name tables
  table_opened geometry name

abbrev table_after_create : {T : Type 0} → (List ℕ → Option T) → List (TableDef T) → Reader (TableDef T)
table_after_create geometry tables = do
  expect_word (codes "TABLE")
  table_named geometry tables

-- the name, which is new, and the columns, which keep to the limits, make a lawful table
close-read : {T : Type 0} (found : List (TableDef T)) (name : List ℕ) (read : List (ColumnDef T) × Option ℕ) (ts : List Token) → IsNewTableName found name → Columns read
    → IfRead (close name read ts) (IsNextTable found)
close-read {T = T} found name read ts new are =
    then_read (expect fault.Syntax k.RightParenthesis ts) (λ x. closed name read.0 read.1 (place ts)) Anything (IsNextTable found)
    (λ x rest _. weaker (closed name read.0 read.1 (place ts) rest) (closed-read name read.0 read.1 (place ts) rest are))
    (any_read _)
  where
    weaker : (r : Outcome SchemaFault (TableDef T)) → IfRead r (λ t. (t.name ≡ name) × (lawful_table t ≡ true)) → IfRead r (IsNextTable found)
    weaker (Ok p) h = record { room = leb-false _ _ new.0; fresh = ap (has_table found) h.0 ∙ new.1; lawful = h.1 }
    weaker (Err e) h = tt

-- a table that is read is one of at most 16, has a name that none before it has, and is lawful
table-read : {T : Type 0} (geometry : List ℕ → Option T) (found : List (TableDef T)) (ts : List Token) → IfRead (table geometry found ts) (IsNextTable found)
unfolding table
table-read geometry found ts =
    then_read (expect_word (codes "CREATE") ts) (λ x. table_after_create geometry found) Anything (IsNextTable found)
    (λ x ts1 _. then_read (expect_word (codes "TABLE") ts1) (λ y. table_named geometry found) Anything (IsNextTable found)
    (λ y ts2 _. then_read (table_name found ts2) (table_opened geometry) (IsNewTableName found) (IsNextTable found)
    (λ name ts3 new. then_read (expect fault.Syntax k.LeftParenthesis ts3) (λ z. table_columns geometry name) Anything (IsNextTable found)
    (λ z ts4 _. then_read (columns geometry ts4) (close name) Columns (IsNextTable found)
    (λ read ts5 are. close-read found name read ts5 new are)
    (columns_from-read geometry (length ts4) [] None ts4 (record { few = omega arith; differ = refl; keyed = tt })))
    (any_read _))
    (table_name-read found ts2))
    (any_read _))
    (any_read _)

-- what is known of the tables that were read so far
pub record AreTables {T : Type 0} (found : List (TableDef T)) : Type 0 where
  pub few : length found ≤ 16
  pub differ : names_differ (map (λ t. t.name) found) ≡ true
  pub lawful : list_all lawful_table found ≡ true

-- one more table that was read leaves at most 16, with names that differ, each of them lawful
AreTables-more : {T : Type 0} (found : List (TableDef T)) (read : TableDef T) → AreTables found → IsNextTable found read → AreTables (found ++ read ∷ [])
AreTables-more found read are is = record {
  few = omega (arith, length-append found (read ∷ []), is.room);
  differ =
      ap names_differ (map-append (λ t. t.name) found (read ∷ []))
      ∙ names_differ-snoc (map (λ t. t.name) found) read.name are.differ (list_any-map (λ n. same_name n read.name) (λ t. t.name) found ∙ is.fresh);
  lawful = list_all-append lawful_table found (read ∷ []) ∙ and_from _ _ are.lawful (and_from _ _ is.lawful refl);
}

-- the tables after one that was read
abbrev more_tables : {T : Type 0} → (List ℕ → Option T) → ℕ → List (TableDef T) → TableDef T → Bool → Reader (List (TableDef T))
more_tables geometry n found read more = if more then tables_from geometry n (found ++ read ∷ []) else pure (found ++ read ∷ [])

abbrev tables_behind : {T : Type 0} → (List ℕ → Option T) → ℕ → List (TableDef T) → TableDef T → Reader (List (TableDef T))
tables_behind geometry n found read = do
  more ← goes_on
  more_tables geometry n found read more

-- behind a semicolon further tables are read; without one, these are all
more_tables-read : {T : Type 0} (geometry : List ℕ → Option T) (n : ℕ) (found : List (TableDef T)) (read : TableDef T) (more : Bool) (ts : List Token)
    → AreTables (found ++ read ∷ []) → IfRead (tables_from geometry n (found ++ read ∷ []) ts) AreTables → IfRead (more_tables geometry n found read more ts) AreTables
more_tables-read geometry n found read true ts are rest = rest
more_tables-read geometry n found read false ts are rest = are

-- table by table, what was read so far stays within the limits, and so does the whole list
tables_from-read : {T : Type 0} (geometry : List ℕ → Option T) (n : ℕ) (found : List (TableDef T)) (ts : List Token) → AreTables found → IfRead (tables_from geometry n found ts) AreTables
unfolding tables_from
tables_from-read geometry zero found ts are = tt
tables_from-read geometry (suc n) found ts are =
    then_read (table geometry found ts) (tables_behind geometry n found) (IsNextTable found) AreTables
    (λ read rest is. then_read (goes_on rest) (more_tables geometry n found read) Anything AreTables
    (λ more rest' _.
    let all : AreTables (found ++ read ∷ []) = AreTables-more found read are is in
    more_tables-read geometry n found read more rest' all (tables_from-read geometry n (found ++ read ∷ []) rest' all))
    (any_read _))
    (table-read geometry found ts)

-- a schema without tables keeps to all limits
no_tables : {T : Type 0} → AreTables {T = T} []
no_tables = record { few = omega arith; differ = refl; lawful = refl }

-- whichever tables a text has, they keep to the limits
all_tables-read : {T : Type 0} (geometry : List ℕ → Option T) (ts : List Token) → IfRead (all_tables geometry ts) AreTables
all_tables-read {T = T} geometry ts = go (sees k.End ts)
  where
    go : (ended : Bool) → IfRead (cond ended (Ok ([], ts)) (tables_from geometry (length ts) [] ts)) AreTables
    go true = no_tables
    go false = tables_from-read geometry (length ts) [] ts no_tables

-- tables are lawful by these limits: their number, their names, and each of them
lawful-from : {T : Type 0} (found : List (TableDef T)) → AreTables found → lawful found ≡ true
unfolding lawful
lawful-from found are = and_from _ _ (le-leb _ _ are.few) (and_from _ _ are.differ are.lawful)

abbrev end_of_tables : {T : Type 0} → List (TableDef T) → Reader (List (TableDef T))
end_of_tables tables = do
  expect fault.Syntax k.End
  pure tables

-- the tables are all that a schema is read as, so it is lawful
schema-read : {T : Type 0} (geometry : List ℕ → Option T) (ts : List Token) → IfRead (schema geometry ts) (λ tables. lawful tables ≡ true)
unfolding schema
schema-read geometry ts =
    then_read (all_tables geometry ts) end_of_tables AreTables (λ tables. lawful tables ≡ true)
    (λ tables rest are. then_read (expect fault.Syntax k.End rest) (λ x. pure tables) Anything (λ tables. lawful tables ≡ true)
    (λ x rest' _. lawful-from tables are)
    (any_read _))
    (all_tables-read geometry ts)

-- the tables of a schema that is read are lawful
pub lawful-from_schema : {T : Type 0} (geometry : List ℕ → Option T) (ts : List Token) (tables : List (TableDef T)) (rest : List Token) → schema geometry ts ≡ Ok (tables, rest) → lawful tables ≡ true
lawful-from_schema geometry ts tables rest e = subst (λ r. IfRead r (λ tables. lawful tables ≡ true)) e (schema-read geometry ts)
