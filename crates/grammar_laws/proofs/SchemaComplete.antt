-- What is in the grammar of a schema is read, as those tables.
use Rattle.std.proofs.Common.{◌≡◌, ◌≤◌, ◌<◌, ◌+◌, ℕ, zero, suc, Bool, true, false, ◌&&◌, List, [], ◌∷◌, ◌++◌, length, map, Option, Some, None, Ok, inl, inr, refl, sym, ap, subst, ◌∙◌, append_assoc, length-append, arith}
use Rattle.std.specs.List.{list_all, list_any, slice_get}
use Rattle.std.specs.Prelude.{nat_le, codes}
use Rattle.std.proofs.lemmas.Bool.{and_parts, or_parts, leb-true, lt-leb, false≢true, or_from, not-true}
use Rattle.grammar_laws.proofs.AsciiWords.{AsciiWords, words_before, words_behind}
use Rattle.grammar_laws.proofs.QuerySound.{Begins, one_begins, seq_begins}
use Rattle.table_model.specs.Definitions.{names_differ, is_integer, may_be_key, column_names, lawful_table, lawful}
use Rattle.table_model.specs.Parsers.{kind, place, spelling, next, sees, after, expect}
use Rattle.table_model.specs.SchemaGrammar.{IsType, AreMarks, Marked, IsMarked, key_places, IsTable, AreTables}
use Rattle.table_model.specs.SchemaReading.{expect_word, is_ascii, new_name, type_named, column_type, null_mark, key_mark, marks, has_column, column, is_there, key_after, columns_from, columns, has_table, table_name, table, goes_on, tables_from, all_tables, schema}
use Rattle.table_model.specs.Texts.{same_name}
use Rattle.table_model.specs.Tokens.{same_kind}
use Rattle.table_model.specs.declared.definitions.ColumnType.{ColumnType}
use Rattle.table_model.specs.declared.definitions.ColumnDef.{ColumnDef}
use Rattle.table_model.specs.declared.definitions.TableDef.{TableDef}
use Rattle.table_model.specs.declared.faults.SchemaFault.TheVariants as fault
use Rattle.table_model.specs.declared.tokens.Token.{Token}
use Rattle.table_model.specs.declared.tokens.TokenKind.{TokenKind}
use Rattle.table_model.specs.declared.tokens.TokenKind.TheVariants as k
use Rattle.table_model.specs.Phrases.{Phrase, IsOne, IsToken, ◌▸◌, IsOptional, IsParts, IsWord}

-- ---- kinds and first tokens

same_itself : (known : TokenKind) → same_kind known known ≡ true
unfolding same_kind
same_itself k.Word = refl
same_itself _ = refl

pub is_kind : (kind known : TokenKind) → kind ≡ known → same_kind kind known ≡ true
is_kind kind known e = rw e (same_itself known)

-- how tokens of phrases are made of single ones: a first one, an only one, a last one, two
pub one_first : (P : Token → Type 0) (Q : Phrase) (ts : List Token) → (IsOne P ▸ Q) ts → (m : Token) × (d : List Token) × (ts ≡ m ∷ d) × P m × Q d
one_first P Q ts ([], d, e, p, q) = absurd p
one_first P Q ts (m ∷ [], d, e, p, q) = (m, d, e, p, q)
one_first P Q ts (m ∷ n ∷ more, d, e, p, q) = absurd p

pub one_only : (P : Token → Type 0) (ts : List Token) → IsOne P ts → (n : Token) × (ts ≡ n ∷ []) × P n
one_only P [] p = absurd p
one_only P (n ∷ []) p = (n, refl, p)
one_only P (n ∷ v ∷ more) p = absurd p

pub one_last : (P : Phrase) (Q : Token → Type 0) (ts : List Token) → (P ▸ IsOne Q) ts → (a : List Token) × (m : Token) × (ts ≡ a ++ m ∷ []) × P a × Q m
one_last P Q ts (a, [], e, p, q) = absurd q
one_last P Q ts (a, m ∷ [], e, p, q) = (a, m, e, p, q)
one_last P Q ts (a, m ∷ n ∷ more, e, p, q) = absurd q

pub two_only : (P Q : Token → Type 0) (ts : List Token) → (IsOne P ▸ IsOne Q) ts → (m n : Token) × (ts ≡ m ∷ n ∷ []) × P m × Q n
two_only P Q ts p = go (one_first P (IsOne Q) ts p)
  where
    last : (m : Token) (d : List Token) → ts ≡ m ∷ d → P m → ((n : Token) × (d ≡ n ∷ []) × Q n) → (m n : Token) × (ts ≡ m ∷ n ∷ []) × P m × Q n
    last m d e h (n, e2, g) = (m, n, e ∙ ap (λ l. m ∷ l) e2, h, g)

    go : ((m : Token) × (d : List Token) × (ts ≡ m ∷ d) × P m × IsOne Q d) → (m n : Token) × (ts ≡ m ∷ n ∷ []) × P m × Q n
    go (m, d, e, h, q) = last m d e h (one_only Q d q)

pub split : (used a b d tail : List Token) (m : Token) → used ≡ a ++ b → b ≡ m ∷ d → used ++ tail ≡ a ++ m ∷ (d ++ tail)
split used a b d tail m e f = ap (λ l. l ++ tail) e ∙ append_assoc a b tail ∙ ap (λ l. a ++ (l ++ tail)) f

-- ---- names, types and marks

-- each small reader reads the token or two of its rule: a name, where there is room for it and it isn't taken
pub name_read : (full taken : Bool) (u : Token) (ts : List Token) → u.kind ≡ k.Word → is_ascii u.text ≡ true → full ≡ false → taken ≡ false
    → new_name full taken (u ∷ ts) ≡ Ok (u.text, ts)
unfolding new_name sees kind next spelling
name_read full taken u ts word ascii e f = rw (is_kind u.kind k.Word word, ascii, e, f) refl

-- a word that names a type
pub type_read : {T : Type 0} (geometry : List ℕ → Option T) (type : ColumnType T) (u : Token) (ts : List Token) → u.kind ≡ k.Word → type_named geometry u.text ≡ Some type
    → column_type geometry (u ∷ ts) ≡ Ok (type, ts)
unfolding column_type sees kind next spelling
type_read geometry type u ts word e = rw (is_kind u.kind k.Word word, e) refl

-- a word that is asked for, in any ASCII case
pub word_read : (word : List ℕ) (u : Token) (ts : List Token) → u.kind ≡ k.Word → same_name u.text word ≡ true → expect_word word (u ∷ ts) ≡ Ok (tt, ts)
unfolding expect_word sees kind next spelling
word_read word u ts e f = rw (is_kind u.kind k.Word e, f) refl

-- a token of the kind that is asked for
pub expect_read : (wanted : TokenKind) (m : Token) (ts : List Token) → m.kind ≡ wanted → expect fault.Syntax wanted (m ∷ ts) ≡ Ok (tt, ts)
unfolding expect sees kind next
expect_read wanted m ts e = rw (is_kind m.kind wanted e) refl

-- NOT NULL
pub null_read : (m n : Token) (ts : List Token) → m.kind ≡ k.Not → n.kind ≡ k.Null → null_mark (m ∷ n ∷ ts) ≡ Ok (true, ts)
unfolding null_mark after sees kind next
null_read m n ts e f = rw (is_kind m.kind k.Not e, expect_read k.Null n ts f) refl

-- where NOT isn't there, nothing is read
pub null_absent : (t : Token) (ts : List Token) → same_kind t.kind k.Not ≡ false → null_mark (t ∷ ts) ≡ Ok (false, t ∷ ts)
unfolding null_mark after sees kind next
null_absent t ts e = rw e refl

-- PRIMARY KEY, on an INTEGER column of a table without a key
pub key_read : {T : Type 0} (has_key : Bool) (type : ColumnType T) (m n : Token) (ts : List Token)
    → m.kind ≡ k.Word → same_name m.text (codes "PRIMARY") ≡ true → n.kind ≡ k.Word → same_name n.text (codes "KEY") ≡ true → has_key ≡ false → is_integer type ≡ true
    → key_mark has_key type (m ∷ n ∷ ts) ≡ Ok (true, ts)
unfolding key_mark sees kind next spelling
key_read has_key type m n ts e primary f key none whole =
    rw (is_kind m.kind k.Word e, primary, whole, none, word_read (codes "KEY") n ts f key) refl

-- where no word is there, nothing is read
key_absent : {T : Type 0} (has_key : Bool) (type : ColumnType T) (t : Token) (ts : List Token) → same_kind t.kind k.Word ≡ false → key_mark has_key type (t ∷ ts) ≡ Ok (false, t ∷ ts)
unfolding key_mark sees kind spelling
key_absent has_key type t ts e = rw e refl

-- the marks where NOT NULL is first: PRIMARY KEY or nothing is behind it
marks_by : {T : Type 0} (has_key : Bool) (type : ColumnType T) (is_key : Bool) (ts ts1 ts2 : List Token) → null_mark ts ≡ Ok (true, ts1) → key_mark has_key type ts1 ≡ Ok (is_key, ts2)
    → marks has_key type ts ≡ Ok ((true, is_key), ts2)
unfolding marks
marks_by has_key type is_key ts ts1 ts2 e f = rw (e, f) refl

-- the marks where NOT NULL isn't first: it may follow PRIMARY KEY
marks_late : {T : Type 0} (has_key : Bool) (type : ColumnType T) (is_key not_null : Bool) (ts ts1 ts2 ts3 : List Token)
    → null_mark ts ≡ Ok (false, ts1) → key_mark has_key type ts1 ≡ Ok (is_key, ts2) → null_mark ts2 ≡ Ok (not_null, ts3)
    → marks has_key type ts ≡ Ok ((not_null, is_key), ts3)
unfolding marks
marks_late has_key type is_key not_null ts ts1 ts2 ts3 e f g = rw (e, f, g) refl

-- what follows a column begins no mark
abbrev pub EndsColumn : TokenKind → Type 0
EndsColumn kind = (same_kind kind k.Not ≡ false) × (same_kind kind k.Word ≡ false)

-- a word isn't NOT, and NOT isn't a word: so the next token says which mark is there
pub word_not : (kind : TokenKind) → kind ≡ k.Word → same_kind kind k.Not ≡ false
unfolding same_kind
word_not kind e = rw e refl

-- PRIMARY KEY may be there
abbrev MayBeKey : {T : Type 0} → Bool → ColumnType T → Bool → Type 0
MayBeKey has_key type is_key = is_key ≡ true → (has_key ≡ false) × (is_integer type ≡ true)

abbrev pub IsWordOf : List ℕ → Token → Type 0
IsWordOf word t = (t.kind ≡ k.Word) × (same_name t.text word ≡ true)

-- the marks of the grammar are read in either order, as what comes after them begins none
pub marks_complete : {T : Type 0} (has_key : Bool) (type : ColumnType T) (not_null is_key : Bool) (used : List Token) (t : Token) (rest : List Token)
    → AreMarks not_null is_key used → EndsColumn t.kind → MayBeKey has_key type is_key → marks has_key type (used ++ t ∷ rest) ≡ Ok ((not_null, is_key), t ∷ rest)
marks_complete has_key type true true used t rest (inl (a, b, e, p, q)) f may =
    let (m, n, ea, isnt, null) = two_only (λ t. t.kind ≡ k.Not) (λ t. t.kind ≡ k.Null) a p in
    let (u, v, eb, primary, key) = two_only (IsWordOf (codes "PRIMARY")) (IsWordOf (codes "KEY")) b q in
    ap (λ l. marks has_key type (l ++ t ∷ rest)) (e ∙ ap (λ l. l ++ b) ea ∙ ap (λ l. m ∷ n ∷ l) eb)
    ∙ marks_by has_key type true (m ∷ n ∷ u ∷ v ∷ t ∷ rest) (u ∷ v ∷ t ∷ rest) (t ∷ rest) (null_read m n (u ∷ v ∷ t ∷ rest) isnt null)
    (key_read has_key type u v (t ∷ rest) primary.0 primary.1 key.0 key.1 (may refl).0 (may refl).1)
marks_complete has_key type true true used t rest (inr (b, a, e, q, p)) f may =
    let (m, n, ea, isnt, null) = two_only (λ t. t.kind ≡ k.Not) (λ t. t.kind ≡ k.Null) a p in
    let (u, v, eb, primary, key) = two_only (IsWordOf (codes "PRIMARY")) (IsWordOf (codes "KEY")) b q in
    ap (λ l. marks has_key type (l ++ t ∷ rest)) (e ∙ ap (λ l. l ++ a) eb ∙ ap (λ l. u ∷ v ∷ l) ea)
    ∙ marks_late has_key type true true (u ∷ v ∷ m ∷ n ∷ t ∷ rest) (u ∷ v ∷ m ∷ n ∷ t ∷ rest) (m ∷ n ∷ t ∷ rest) (t ∷ rest)
    (null_absent u (v ∷ m ∷ n ∷ t ∷ rest) (word_not u.kind primary.0))
    (key_read has_key type u v (m ∷ n ∷ t ∷ rest) primary.0 primary.1 key.0 key.1 (may refl).0 (may refl).1)
    (null_read m n (t ∷ rest) isnt null)
marks_complete has_key type true false used t rest (inl (a, b, e, p, none)) f may =
    let (m, n, ea, isnt, null) = two_only (λ t. t.kind ≡ k.Not) (λ t. t.kind ≡ k.Null) a p in
    ap (λ l. marks has_key type (l ++ t ∷ rest)) (e ∙ ap (λ l. l ++ b) ea ∙ ap (λ l. m ∷ n ∷ l) none)
    ∙ marks_by has_key type false (m ∷ n ∷ t ∷ rest) (t ∷ rest) (t ∷ rest) (null_read m n (t ∷ rest) isnt null) (key_absent has_key type t rest f.1)
marks_complete has_key type true false used t rest (inr (b, a, e, none, p)) f may =
    let (m, n, ea, isnt, null) = two_only (λ t. t.kind ≡ k.Not) (λ t. t.kind ≡ k.Null) a p in
    ap (λ l. marks has_key type (l ++ t ∷ rest)) (e ∙ ap (λ l. l ++ a) none ∙ ea)
    ∙ marks_by has_key type false (m ∷ n ∷ t ∷ rest) (t ∷ rest) (t ∷ rest) (null_read m n (t ∷ rest) isnt null) (key_absent has_key type t rest f.1)
marks_complete has_key type false true used t rest (inl (a, b, e, none, q)) f may =
    let (u, v, eb, primary, key) = two_only (IsWordOf (codes "PRIMARY")) (IsWordOf (codes "KEY")) b q in
    ap (λ l. marks has_key type (l ++ t ∷ rest)) (e ∙ ap (λ l. l ++ b) none ∙ eb)
    ∙ marks_late has_key type true false (u ∷ v ∷ t ∷ rest) (u ∷ v ∷ t ∷ rest) (t ∷ rest) (t ∷ rest)
    (null_absent u (v ∷ t ∷ rest) (word_not u.kind primary.0))
    (key_read has_key type u v (t ∷ rest) primary.0 primary.1 key.0 key.1 (may refl).0 (may refl).1)
    (null_absent t rest f.0)
marks_complete has_key type false true used t rest (inr (b, a, e, q, none)) f may =
    let (u, v, eb, primary, key) = two_only (IsWordOf (codes "PRIMARY")) (IsWordOf (codes "KEY")) b q in
    ap (λ l. marks has_key type (l ++ t ∷ rest)) (e ∙ ap (λ l. l ++ a) eb ∙ ap (λ l. u ∷ v ∷ l) none)
    ∙ marks_late has_key type true false (u ∷ v ∷ t ∷ rest) (u ∷ v ∷ t ∷ rest) (t ∷ rest) (t ∷ rest)
    (null_absent u (v ∷ t ∷ rest) (word_not u.kind primary.0))
    (key_read has_key type u v (t ∷ rest) primary.0 primary.1 key.0 key.1 (may refl).0 (may refl).1)
    (null_absent t rest f.0)
marks_complete has_key type false false used t rest (inl (a, b, e, none, empty)) f may =
    ap (λ l. marks has_key type (l ++ t ∷ rest)) (e ∙ ap (λ l. l ++ b) none ∙ empty)
    ∙ marks_late has_key type false false (t ∷ rest) (t ∷ rest) (t ∷ rest) (t ∷ rest) (null_absent t rest f.0) (key_absent has_key type t rest f.1) (null_absent t rest f.0)
marks_complete has_key type false false used t rest (inr (b, a, e, none, empty)) f may =
    ap (λ l. marks has_key type (l ++ t ∷ rest)) (e ∙ ap (λ l. l ++ a) none ∙ empty)
    ∙ marks_late has_key type false false (t ∷ rest) (t ∷ rest) (t ∷ rest) (t ∷ rest) (null_absent t rest f.0) (key_absent has_key type t rest f.1) (null_absent t rest f.0)

-- ---- columns

-- a name, a type and marks that are each read are read as a column
pub column_read : {T : Type 0} (geometry : List ℕ → Option T) (found : List (ColumnDef T)) (has_key : Bool) (type : ColumnType T) (not_null is_key : Bool) (u v : Token) (ts tail : List Token)
    → u.kind ≡ k.Word → is_ascii u.text ≡ true → nat_le 32 (length found) ≡ false → has_column found u.text ≡ false
    → v.kind ≡ k.Word → type_named geometry v.text ≡ Some type → marks has_key type ts ≡ Ok ((not_null, is_key), tail)
    → column geometry found has_key (u ∷ v ∷ ts) ≡ Ok ((record { name = u.text; column_type = type; not_null = not_null }, is_key), tail)
unfolding column spelling
column_read geometry found has_key type not_null is_key u v ts tail word ascii room fresh word2 named e =
    rw (
      name_read (nat_le 32 (length found)) (has_column found u.text) u (v ∷ ts) word ascii room fresh,
      type_read geometry type v ts word2 named,
      e,
    ) refl

-- a column of the grammar is read as itself, where its name is new, there is room for it and it may be the key
column_complete : {T : Type 0} (geometry : List ℕ → Option T) (found : List (ColumnDef T)) (has_key : Bool) (x : Marked T) (used : List Token) (t : Token) (rest : List Token)
    → IsMarked geometry x used → AsciiWords used → EndsColumn t.kind → length found < 32 → has_column found x.0.name ≡ false → MayBeKey has_key x.0.column_type x.1
    → column geometry found has_key (used ++ t ∷ rest) ≡ Ok (x, t ∷ rest)
column_complete {T} geometry found has_key x used t rest p words f room fresh may =
    let (u, d, e, named, q) = one_first (λ t. (t.kind ≡ k.Word) × (x.0.name ≡ t.text)) (IsType geometry x.0.column_type ▸ AreMarks x.0.not_null x.1) used p in
    let (v, m, e2, typed, marked) = one_first (λ t. (t.kind ≡ k.Word) × (type_named geometry t.text ≡ Some x.0.column_type)) (AreMarks x.0.not_null x.1) d q in
    let ascii : AsciiWords (u ∷ d) = subst AsciiWords e words in
    ap (λ l. column geometry found has_key (l ++ t ∷ rest)) (e ∙ ap (λ l. u ∷ l) e2)
    ∙ column_read geometry found has_key x.0.column_type x.0.not_null x.1 u v (m ++ t ∷ rest) (t ∷ rest) named.0 (ascii.0 named.0)
    (lt-leb 32 (length found) room) (ap (has_column found) (sym named.1) ∙ fresh) typed.0 typed.1
    (marks_complete has_key x.0.column_type x.0.not_null x.1 m t rest marked f may)
    ∙ ap (λ name. Ok ((record { name = name; column_type = x.0.column_type; not_null = x.0.not_null }, x.1), t ∷ rest)) (sym named.1)

-- ---- names that differ

-- a test that none of some names passes isn't passed by one of them
none_at : {A : Type 0} (test : List ℕ → Bool) (name : A → List ℕ) (found : List A) (x : A) (more : List A) → list_any test (map name (found ++ x ∷ more)) ≡ false → test (name x) ≡ false
none_at test name [] x more h = (or_parts _ _ h).0
none_at test name (y ∷ found) x more h = none_at test name found x more (or_parts _ _ h).1

-- where names differ, each is new behind those before it
fresh_name : {A : Type 0} (name : A → List ℕ) (found : List A) (x : A) (more : List A) → names_differ (map name (found ++ x ∷ more)) ≡ true
    → list_any (λ y. same_name (name y) (name x)) found ≡ false
fresh_name name [] x more h = refl
fresh_name name (y ∷ found) x more h =
    let parts = and_parts _ _ h in
    or_from _ _ (none_at (same_name (name y)) name found x more (not-true _ parts.0)) (fresh_name name found x more parts.1)

-- ---- the place of the key

-- the key's place is known, or it is among the columns to come
abbrev KeyLeft : {T : Type 0} → Option ℕ → ℕ → ℕ → List (Marked T) → Type 0
KeyLeft None place at to_come = key_places at to_come ≡ place ∷ []
KeyLeft (Some key) place at to_come = (key ≡ place) × (key_places at to_come ≡ [])

not_empty : (x : ℕ) (xs : List ℕ) → x ∷ xs ≡ [] → ⊥
not_empty x xs = λ e. cc

first_of_one : (x y : ℕ) (xs : List ℕ) → x ∷ xs ≡ y ∷ [] → x ≡ y
first_of_one x y xs e = cc

others_of_one : (x y : ℕ) (xs : List ℕ) → x ∷ xs ≡ y ∷ [] → xs ≡ []
others_of_one x y xs e = cc

-- a column with PRIMARY KEY is the only one, so no key was known before it
key_alone : {T : Type 0} (key : Option ℕ) (place at : ℕ) (c : ColumnDef T) (is_key : Bool) (more : List (Marked T)) → KeyLeft key place at ((c, is_key) ∷ more) → is_key ≡ true → is_there key ≡ false
key_alone None place at c is_key more h e = refl
key_alone (Some key) place at c true more h e = absurd (not_empty _ _ h.1)
key_alone (Some key) place at c false more h e = absurd (false≢true e)

-- behind one more column the key is known, or still to come
key_next : {T : Type 0} (key : Option ℕ) (place at : ℕ) (c : ColumnDef T) (is_key : Bool) (more : List (Marked T)) → KeyLeft key place at ((c, is_key) ∷ more)
    → KeyLeft (key_after key at is_key) place (at + 1) more
key_next None place at c true more h = (first_of_one _ _ _ h, others_of_one _ _ _ h)
key_next None place at c false more h = h
key_next (Some key) place at c true more h = absurd (not_empty _ _ h.1)
key_next (Some key) place at c false more h = h

-- where no column is to come, the key is known
key_known : (T : Type 0) (key : Option ℕ) (place at : ℕ) → KeyLeft {T = T} key place at [] → key ≡ Some place
key_known T None place at h = absurd (not_empty _ _ (sym h))
key_known T (Some key) place at h = ap Some h.0

-- behind some columns, at the place of their number, is the next one
at_length : {T : Type 0} (found : List (ColumnDef T)) (c : ColumnDef T) (more : List (ColumnDef T)) → slice_get (found ++ c ∷ more) (length found) ≡ Some c
at_length [] c more = refl
at_length (x ∷ found) c more = at_length found c more

-- the key of a lawful table is INTEGER, and the column with PRIMARY KEY is the key
key_whole : {T : Type 0} (key : Option ℕ) (place : ℕ) (found : List (ColumnDef T)) (c : ColumnDef T) (is_key : Bool) (more : List (Marked T))
    → KeyLeft key place (length found) ((c, is_key) ∷ more) → may_be_key (slice_get (found ++ c ∷ map (λ m. m.0) more) place) ≡ true → is_key ≡ true → is_integer c.column_type ≡ true
key_whole None place found c true more h may e =
    sym (ap may_be_key (ap (slice_get (found ++ c ∷ map (λ m. m.0) more)) (sym (first_of_one _ _ _ h)) ∙ at_length found c (map (λ m. m.0) more))) ∙ may
key_whole None place found c false more h may e = absurd (false≢true e)
key_whole (Some key) place found c true more h may e = absurd (not_empty _ _ h.1)
key_whole (Some key) place found c false more h may e = absurd (false≢true e)

-- ---- lists of columns

-- behind a column and a comma the reader goes on with the other columns
pub column_then : {T : Type 0} (geometry : List ℕ → Option T) (n : ℕ) (found : List (ColumnDef T)) (key : Option ℕ) (x : Marked T) (ts : List Token) (m : Token) (rest : List Token)
    → column geometry found (is_there key) ts ≡ Ok (x, m ∷ rest) → m.kind ≡ k.Comma
    → columns_from geometry (suc n) found key ts ≡ columns_from geometry n (found ++ x.0 ∷ []) (key_after key (length found) x.1) rest
unfolding columns_from after sees kind next
column_then geometry n found key x ts m rest e g = rw (e, is_kind m.kind k.Comma g) refl

-- behind a column and no comma it stops
pub column_last : {T : Type 0} (geometry : List ℕ → Option T) (n : ℕ) (found : List (ColumnDef T)) (key : Option ℕ) (x : Marked T) (ts : List Token) (t : Token) (rest : List Token)
    → column geometry found (is_there key) ts ≡ Ok (x, t ∷ rest) → same_kind t.kind k.Comma ≡ false
    → columns_from geometry (suc n) found key ts ≡ Ok ((found ++ x.0 ∷ [], key_after key (length found) x.1), t ∷ rest)
unfolding columns_from after sees kind next
column_last geometry n found key x ts t rest e g = rw (e, g) refl

-- neither a comma nor the closing parenthesis begins a mark, and the parenthesis is no comma
pub comma_ends : (kind : TokenKind) → kind ≡ k.Comma → EndsColumn kind
unfolding same_kind
comma_ends kind e = rw e (refl, refl)

pub parenthesis_ends : (kind : TokenKind) → kind ≡ k.RightParenthesis → EndsColumn kind × (same_kind kind k.Comma ≡ false)
unfolding same_kind
parenthesis_ends kind e = rw e ((refl, refl), refl)

abbrev firsts : {T : Type 0} → List (Marked T) → List (ColumnDef T)
firsts more = map (λ m. m.0) more

length-firsts : {T : Type 0} (more : List (Marked T)) → length (firsts more) ≡ length more
length-firsts [] = refl
length-firsts (x ∷ more) = ap suc (length-firsts more)

-- what is known of the columns, of which some were found
record AreLawful {T : Type 0} (found : List (ColumnDef T)) (key : Option ℕ) (place : ℕ) (x : Marked T) (more : List (Marked T)) : Type 0 where
  few : length found + suc (length more) ≤ 32
  differ : names_differ (column_names (found ++ x.0 ∷ firsts more)) ≡ true
  whole : may_be_key (slice_get (found ++ x.0 ∷ firsts more) place) ≡ true
  left : KeyLeft key place (length found) (x ∷ more)

-- one column further, what is known of the columns still holds
lawful_next : {T : Type 0} (found : List (ColumnDef T)) (key : Option ℕ) (place : ℕ) (x y : Marked T) (more : List (Marked T)) → AreLawful found key place x (y ∷ more)
    → AreLawful (found ++ x.0 ∷ []) (key_after key (length found) x.1) place y more
lawful_next found key place x y more are =
    let same : (found ++ x.0 ∷ []) ++ y.0 ∷ firsts more ≡ found ++ x.0 ∷ y.0 ∷ firsts more = append_assoc found (x.0 ∷ []) (y.0 ∷ firsts more) in
    let count : length found + 1 ≡ length (found ++ x.0 ∷ []) = sym (length-append found (x.0 ∷ [])) in record {
      few = omega (arith, count, are.few);
      differ = ap (λ l. names_differ (column_names l)) same ∙ are.differ;
      whole = ap (λ l. may_be_key (slice_get l place)) same ∙ are.whole;
      left = subst (λ at. KeyLeft (key_after key (length found) x.1) place at (y ∷ more)) count (key_next key place (length found) x.0 x.1 (y ∷ more) are.left);
    }

-- so the next column has room, a new name, and an INTEGER type where it is the key: it is read
one_column : {T : Type 0} (geometry : List ℕ → Option T) (place : ℕ) (more : List (Marked T)) (x : Marked T) (found : List (ColumnDef T)) (key : Option ℕ) (used : List Token) (t : Token) (rest : List Token)
    → IsMarked geometry x used → AsciiWords used → EndsColumn t.kind → AreLawful found key place x more
    → column geometry found (is_there key) (used ++ t ∷ rest) ≡ Ok (x, t ∷ rest)
one_column geometry place more x found key used t rest p words f are =
    column_complete geometry found (is_there key) x used t rest p words f (omega (arith, are.few)) (fresh_name (λ c. c.name) found x.0 (firsts more) are.differ)
    (λ e. (key_alone key place (length found) x.0 x.1 more are.left e, key_whole key place found x.0 x.1 more are.left are.whole e))

-- column by column, all columns of a lawful table are read, up to the parenthesis
columns_complete : {T : Type 0} (geometry : List ℕ → Option T) (place : ℕ) (more : List (Marked T)) (x : Marked T) (n : ℕ) (found : List (ColumnDef T)) (key : Option ℕ)
    (used : List Token) (t : Token) (rest : List Token)
    → IsParts k.Comma (IsMarked geometry) x more used → AsciiWords used → t.kind ≡ k.RightParenthesis → length more < n → AreLawful found key place x more
    → columns_from geometry n found key (used ++ t ∷ rest) ≡ Ok ((found ++ x.0 ∷ firsts more, Some place), t ∷ rest)
columns_complete geometry place more x zero found key used t rest p words right turns are = absurd (omega arith)
columns_complete {T} geometry place [] x (suc n) found key used t rest p words right turns are =
    let ends = parenthesis_ends t.kind right in
    column_last geometry n found key x (used ++ t ∷ rest) t rest (one_column geometry place [] x found key used t rest p words ends.0 are) ends.1
    ∙ ap (λ key. Ok ((found ++ x.0 ∷ [], key), t ∷ rest)) (key_known T (key_after key (length found) x.1) place (length found + 1) (key_next key place (length found) x.0 x.1 [] are.left))
columns_complete {T} geometry place (y ∷ more) x (suc n) found key used t rest (a, b, e, p, q) words right turns are =
    go (λ d h ascii. columns_complete geometry place more y n (found ++ x.0 ∷ []) (key_after key (length found) x.1) d t rest h ascii right (omega arith) (lawful_next found key place x y more are))
    (one_first _ (IsParts k.Comma (IsMarked geometry) y more) b q)
  where
    go : ((d : List Token) → IsParts k.Comma (IsMarked geometry) y more d → AsciiWords d
        → columns_from geometry n (found ++ x.0 ∷ []) (key_after key (length found) x.1) (d ++ t ∷ rest) ≡ Ok (((found ++ x.0 ∷ []) ++ y.0 ∷ firsts more, Some place), t ∷ rest))
        → ((m : Token) × (d : List Token) × (b ≡ m ∷ d) × (m.kind ≡ k.Comma) × IsParts k.Comma (IsMarked geometry) y more d)
        → columns_from geometry (suc n) found key (used ++ t ∷ rest) ≡ Ok ((found ++ x.0 ∷ y.0 ∷ firsts more, Some place), t ∷ rest)
    go others (m, d, g, is, h) =
        let ascii : AsciiWords (a ++ b) = subst AsciiWords e words in
        let behind : AsciiWords (m ∷ d) = subst AsciiWords g (words_behind a b ascii) in
        ap (columns_from geometry (suc n) found key) (split used a b d (t ∷ rest) m e g)
        ∙ column_then geometry n found key x (a ++ m ∷ (d ++ t ∷ rest)) m (d ++ t ∷ rest)
        (one_column geometry place (y ∷ more) x found key a m (d ++ t ∷ rest) p (words_before a b ascii) (comma_ends m.kind is) are) is
        ∙ others d h behind.1
        ∙ ap (λ l. Ok ((l, Some place), t ∷ rest)) (append_assoc found (x.0 ∷ []) (y.0 ∷ firsts more))

-- there are no more parts than tokens
pub turns_suffice : {A : Type 0} (between : TokenKind) (P : A → Phrase) (more : List A) (x : A) (used : List Token) (t : Token) (rest : List Token)
    → IsParts between P x more used → length more < length (used ++ t ∷ rest)
turns_suffice between P [] x used t rest p = omega (arith, length-append used (t ∷ rest))
turns_suffice {A} between P (y ∷ more) x used t rest (a, b, e, p, q) = go (λ d h. turns_suffice between P more y d t rest h) (one_first _ (IsParts between P y more) b q)
  where
    go : ((d : List Token) → IsParts between P y more d → length more < length (d ++ t ∷ rest)) → ((m : Token) × (d : List Token) × (b ≡ m ∷ d) × (m.kind ≡ between) × IsParts between P y more d) → length (y ∷ more) < length (used ++ t ∷ rest)
    go others (m, d, g, is, h) =
        omega (arith, others d h, ap length (split used a b d (t ∷ rest) m e g), length-append a (m ∷ (d ++ t ∷ rest)))

-- ---- tables

-- the words, the name, the parentheses and the columns with a key, each read, are read as a table
pub table_read : {T : Type 0} (geometry : List ℕ → Option T) (found : List (TableDef T)) (cols : List (ColumnDef T)) (key : ℕ) (u1 u2 u3 u4 : Token) (ts : List Token) (m : Token) (tail : List Token)
    → IsWordOf (codes "CREATE") u1 → IsWordOf (codes "TABLE") u2 → u3.kind ≡ k.Word → is_ascii u3.text ≡ true → nat_le 16 (length found) ≡ false → has_table found u3.text ≡ false
    → u4.kind ≡ k.LeftParenthesis → columns geometry ts ≡ Ok ((cols, Some key), m ∷ tail) → m.kind ≡ k.RightParenthesis
    → table geometry found (u1 ∷ u2 ∷ u3 ∷ u4 ∷ ts) ≡ Ok (record { name = u3.text; columns = cols; key = key }, tail)
unfolding table table_name spelling
table_read geometry found cols key u1 u2 u3 u4 ts m tail create tables word ascii room fresh left e right =
    rw (
      word_read (codes "CREATE") u1 (u2 ∷ u3 ∷ u4 ∷ ts) create.0 create.1,
      word_read (codes "TABLE") u2 (u3 ∷ u4 ∷ ts) tables.0 tables.1,
      name_read (nat_le 16 (length found)) (has_table found u3.text) u3 (u4 ∷ ts) word ascii room fresh,
      expect_read k.LeftParenthesis u4 ts left,
      e,
      expect_read k.RightParenthesis m tail right,
    ) refl

few_columns : (listed more : ℕ) → suc listed ≤ 32 → listed ≡ more → 0 + suc more ≤ 32
few_columns listed more few count = omega arith

-- the columns of a lawful table are read with their key, as many turns being allowed as there are tokens
body_read : {T : Type 0} (geometry : List ℕ → Option T) (x : TableDef T) (first : Marked T) (more : List (Marked T)) (a : List Token) (m : Token) (tail : List Token)
    → x.columns ≡ first.0 ∷ firsts more → key_places 0 (first ∷ more) ≡ x.key ∷ [] → lawful_table x ≡ true
    → IsParts k.Comma (IsMarked geometry) first more a → AsciiWords a → m.kind ≡ k.RightParenthesis
    → columns geometry (a ++ m ∷ tail) ≡ Ok ((first.0 ∷ firsts more, Some x.key), m ∷ tail)
body_read {T} geometry x first more a m tail same keys lawful p words right =
    let cols : List (ColumnDef T) = first.0 ∷ firsts more in
    let parts = and_parts _ _ (subst (λ cols. (nat_le (length cols) 32 && (names_differ (column_names cols) && may_be_key (slice_get cols x.key))) ≡ true) same lawful) in
    let others = and_parts _ _ parts.1 in
    let few : length cols ≤ 32 = leb-true (length cols) 32 parts.0 in
    let count : length (firsts more) ≡ length more = length-firsts more in
    columns_complete geometry x.key more first (length (a ++ m ∷ tail)) [] None a m tail p words right (turns_suffice k.Comma (IsMarked geometry) more first a m tail p)
    (record { few = few_columns (length (firsts more)) (length more) few count; differ = others.0; whole = others.1; left = keys })

-- a lawful table of the grammar is read as itself, where its name is new and there is room for it
table_complete : {T : Type 0} (geometry : List ℕ → Option T) (found : List (TableDef T)) (x : TableDef T) (used tail : List Token)
    → IsTable geometry x used → AsciiWords used → length found < 16 → has_table found x.name ≡ false → lawful_table x ≡ true
    → table geometry found (used ++ tail) ≡ Ok (x, tail)
table_complete {T} geometry found x used tail (first, more, same, keys, p) words room fresh lawful =
    let (u1, d1, e1, create, p1) = one_first (IsWordOf (codes "CREATE")) _ used p in
    let (u2, d2, e2, tables, p2) = one_first (IsWordOf (codes "TABLE")) _ d1 p1 in
    let (u3, d3, e3, named, p3) = one_first (λ t. (t.kind ≡ k.Word) × (x.name ≡ t.text)) _ d2 p2 in
    let (u4, d4, e4, left, p4) = one_first (λ t. t.kind ≡ k.LeftParenthesis) _ d3 p3 in
    let (a, m, e5, parts, right) = one_last (IsParts k.Comma (IsMarked geometry) first more) (λ t. t.kind ≡ k.RightParenthesis) d4 p4 in
    let cut : used ≡ u1 ∷ u2 ∷ u3 ∷ u4 ∷ (a ++ m ∷ []) =
    e1 ∙ ap (λ l. u1 ∷ l) (e2 ∙ ap (λ l. u2 ∷ l) (e3 ∙ ap (λ l. u3 ∷ l) (e4 ∙ ap (λ l. u4 ∷ l) e5))) in
    let ascii : AsciiWords (u1 ∷ u2 ∷ u3 ∷ u4 ∷ (a ++ m ∷ [])) = subst AsciiWords cut words in
    ap (λ l. table geometry found (l ++ tail)) cut ∙ ap (λ l. table geometry found (u1 ∷ u2 ∷ u3 ∷ u4 ∷ l)) (append_assoc a (m ∷ []) tail)
    ∙ table_read geometry found (first.0 ∷ firsts more) x.key u1 u2 u3 u4 (a ++ m ∷ tail) m tail create tables named.0 (ascii.1.1.0 named.0)
    (lt-leb 16 (length found) room) (ap (has_table found) (sym named.1) ∙ fresh) left
    (body_read geometry x first more a m tail same keys lawful parts (words_before a (m ∷ []) ascii.1.1.1.1) right) right
    ∙ ap (λ name. Ok (record { name = name; columns = first.0 ∷ firsts more; key = x.key }, tail)) (sym named.1)
    ∙ ap (λ cols. Ok (record { name = x.name; columns = cols; key = x.key }, tail)) (sym same)

-- ---- what is between and behind tables

-- at the end, also behind a semicolon, no further table is read
end_read : (n : Token) → n.kind ≡ k.End → goes_on (n ∷ []) ≡ Ok (false, n ∷ [])
unfolding goes_on after sees kind next same_kind
end_read n e = rw e refl

semicolon_read : (m n : Token) → m.kind ≡ k.Semicolon → n.kind ≡ k.End → goes_on (m ∷ n ∷ []) ≡ Ok (false, n ∷ [])
unfolding goes_on after sees kind next same_kind
semicolon_read m n e g = rw (e, g) refl

-- behind a semicolon, where the end isn't there, tables go on
pub separator_read : (m : Token) (rest : List Token) → m.kind ≡ k.Semicolon → sees k.End rest ≡ false → goes_on (m ∷ rest) ≡ Ok (true, rest)
unfolding goes_on after sees kind next
separator_read m rest e h = rw (is_kind m.kind k.Semicolon e, h) refl

-- the end of the tokens, behind a semicolon or none
abbrev IsTail : Phrase
IsTail = IsOptional k.Semicolon ▸ IsToken k.End

abbrev Ended : List Token → Type 0
Ended ts = (n : Token) × (n.kind ≡ k.End) × (goes_on ts ≡ Ok (false, n ∷ []))

-- so with a semicolon or none the tables stop before the end
tail_read : (ts : List Token) → IsTail ts → Ended ts
tail_read ts (semi, last, e, inl none, p) =
    let (n, f, end) = one_only (λ t. t.kind ≡ k.End) last p in
    (n, end, ap goes_on (e ∙ ap (λ l. l ++ last) none ∙ f) ∙ end_read n end)
tail_read ts (semi, last, e, inr s, p) =
    let (n, f, end) = one_only (λ t. t.kind ≡ k.End) last p in
    let (m, g, between) = one_only (λ t. t.kind ≡ k.Semicolon) semi s in
    (n, end, ap goes_on (e ∙ ap (λ l. l ++ last) g ∙ ap (λ l. m ∷ l) f) ∙ semicolon_read m n between end)

-- some token is there
abbrev IsThere : List Token → Type 0
IsThere ts = (t : Token) × (rest : List Token) × (ts ≡ t ∷ rest)

-- at least the end is there
tail_there : (ts : List Token) → IsTail ts → IsThere ts
tail_there ts ([], last, e, inl none, p) = let (n, f, end) = one_only (λ t. t.kind ≡ k.End) last p in (n, [], e ∙ f)
tail_there ts (s ∷ semi, last, e, q, p) = (s, semi ++ last, e)
tail_there ts ([], last, e, inr s, p) = absurd s

abbrev pub IsWordKind : TokenKind → Type 0
IsWordKind kind = kind ≡ k.Word

-- a table begins with a word, CREATE, and so do tables
table_begins : {T : Type 0} (geometry : List ℕ → Option T) (x : TableDef T) (ts : List Token) → IsTable geometry x ts → Begins IsWordKind ts
table_begins geometry x ts (first, more, same, keys, p) = seq_begins IsWordKind (IsWord (codes "CREATE")) _ (one_begins IsWordKind _ (λ t q. q.0)) ts p

tables_begin : {T : Type 0} (geometry : List ℕ → Option T) (more : List (TableDef T)) (x : TableDef T) (ts : List Token) → IsParts k.Semicolon (IsTable geometry) x more ts → Begins IsWordKind ts
tables_begin geometry [] x ts p = table_begins geometry x ts p
tables_begin geometry (y ∷ more) x ts p = seq_begins IsWordKind (IsTable geometry x) _ (table_begins geometry x) ts p

-- a word isn't the end
word_no_end : (kind : TokenKind) → kind ≡ k.Word → same_kind kind k.End ≡ false
unfolding same_kind
word_no_end kind e = rw e refl

-- so where a table begins the end isn't there
pub not_end : (used tail : List Token) → Begins IsWordKind used → sees k.End (used ++ tail) ≡ false
unfolding sees kind
not_end used tail (t, more, e, f) = ap (λ l. sees k.End (l ++ tail)) e ∙ word_no_end t.kind f

-- ---- lists of tables

-- behind a table and a semicolon the reader goes on with the other tables
pub table_then : {T : Type 0} (geometry : List ℕ → Option T) (n : ℕ) (found : List (TableDef T)) (x : TableDef T) (ts mid rest : List Token)
    → table geometry found ts ≡ Ok (x, mid) → goes_on mid ≡ Ok (true, rest) → tables_from geometry (suc n) found ts ≡ tables_from geometry n (found ++ x ∷ []) rest
unfolding tables_from
table_then geometry n found x ts mid rest e g = rw (e, g) refl

-- behind a table, where no further one follows, it stops
table_last : {T : Type 0} (geometry : List ℕ → Option T) (n : ℕ) (found : List (TableDef T)) (x : TableDef T) (ts mid rest : List Token)
    → table geometry found ts ≡ Ok (x, mid) → goes_on mid ≡ Ok (false, rest) → tables_from geometry (suc n) found ts ≡ Ok (found ++ x ∷ [], rest)
unfolding tables_from
table_last geometry n found x ts mid rest e g = rw (e, g) refl

-- what is known of the tables, of which some were found
record AreLawfulTables {T : Type 0} (found : List (TableDef T)) (x : TableDef T) (more : List (TableDef T)) : Type 0 where
  few : length found + suc (length more) ≤ 16
  differ : names_differ (map (λ t. t.name) (found ++ x ∷ more)) ≡ true
  each : list_all lawful_table (x ∷ more) ≡ true

-- one table further, what is known of the tables still holds
lawful_tables_next : {T : Type 0} (found : List (TableDef T)) (x y : TableDef T) (more : List (TableDef T)) → AreLawfulTables found x (y ∷ more) → AreLawfulTables (found ++ x ∷ []) y more
lawful_tables_next found x y more are = record {
  few = omega (arith, length-append found (x ∷ []), are.few);
  differ = ap (λ l. names_differ (map (λ t. t.name) l)) (append_assoc found (x ∷ []) (y ∷ more)) ∙ are.differ;
  each = (and_parts _ _ are.each).1;
}

-- so the next table has room, a new name, and is lawful: it is read
one_table : {T : Type 0} (geometry : List ℕ → Option T) (more : List (TableDef T)) (x : TableDef T) (found : List (TableDef T)) (used tail : List Token)
    → IsTable geometry x used → AsciiWords used → AreLawfulTables found x more → table geometry found (used ++ tail) ≡ Ok (x, tail)
one_table geometry more x found used tail p words are =
    table_complete geometry found x used tail p words (omega (arith, are.few)) (fresh_name (λ t. t.name) found x more are.differ) (and_parts _ _ are.each).0

-- table by table, all tables of a lawful schema are read, up to the end
tables_complete : {T : Type 0} (geometry : List ℕ → Option T) (more : List (TableDef T)) (x : TableDef T) (n : ℕ) (found : List (TableDef T)) (used tail : List Token) (end : Token)
    → IsParts k.Semicolon (IsTable geometry) x more used → AsciiWords used → goes_on tail ≡ Ok (false, end ∷ []) → length more < n → AreLawfulTables found x more
    → tables_from geometry n found (used ++ tail) ≡ Ok (found ++ x ∷ more, end ∷ [])
tables_complete geometry more x zero found used tail end p words last turns are = absurd (omega arith)
tables_complete geometry [] x (suc n) found used tail end p words last turns are =
    table_last geometry n found x (used ++ tail) tail (end ∷ []) (one_table geometry [] x found used tail p words are) last
tables_complete {T} geometry (y ∷ more) x (suc n) found used tail end (a, b, e, p, q) words last turns are =
    go (λ d h ascii. tables_complete geometry more y n (found ++ x ∷ []) d tail end h ascii last (omega arith) (lawful_tables_next found x y more are))
    (one_first _ (IsParts k.Semicolon (IsTable geometry) y more) b q)
  where
    go : ((d : List Token) → IsParts k.Semicolon (IsTable geometry) y more d → AsciiWords d → tables_from geometry n (found ++ x ∷ []) (d ++ tail) ≡ Ok ((found ++ x ∷ []) ++ y ∷ more, end ∷ []))
        → ((m : Token) × (d : List Token) × (b ≡ m ∷ d) × (m.kind ≡ k.Semicolon) × IsParts k.Semicolon (IsTable geometry) y more d)
        → tables_from geometry (suc n) found (used ++ tail) ≡ Ok (found ++ x ∷ y ∷ more, end ∷ [])
    go others (m, d, g, is, h) =
        let ascii : AsciiWords (a ++ b) = subst AsciiWords e words in
        let behind : AsciiWords (m ∷ d) = subst AsciiWords g (words_behind a b ascii) in
        ap (tables_from geometry (suc n) found) (split used a b d tail m e g)
        ∙ table_then geometry n found x (a ++ m ∷ (d ++ tail)) (m ∷ (d ++ tail)) (d ++ tail)
        (one_table geometry (y ∷ more) x found a (m ∷ (d ++ tail)) p (words_before a b ascii) are)
        (separator_read m (d ++ tail) is (not_end d tail (tables_begin geometry more y d h)))
        ∙ others d h behind.1
        ∙ ap (λ l. Ok (l, end ∷ [])) (append_assoc found (x ∷ []) (y ∷ more))

-- ---- schemas

-- where the tables are read up to the end, the schema is
all_read : {T : Type 0} (geometry : List ℕ → Option T) (tables : List (TableDef T)) (ts : List Token) (n : Token) → all_tables geometry ts ≡ Ok (tables, n ∷ []) → n.kind ≡ k.End
    → schema geometry ts ≡ Ok (tables, [])
unfolding schema
all_read geometry tables ts n e end = rw (e, expect_read k.End n [] end) refl

-- at the end no table is read
none_read : {T : Type 0} (geometry : List ℕ → Option T) (n : Token) → n.kind ≡ k.End → all_tables geometry (n ∷ []) ≡ Ok ([], n ∷ [])
unfolding sees kind
none_read geometry n e = rw (is_kind n.kind k.End e) refl

-- where it isn't the end, tables are read, as many turns being allowed as there are tokens
some_read : {T : Type 0} (geometry : List ℕ → Option T) (ts : List Token) → sees k.End ts ≡ false → all_tables geometry ts ≡ tables_from geometry (length ts) [] ts
some_read geometry ts h = rw h refl

-- there are no more parts than tokens, where another token is behind them
turns_before : {A : Type 0} (between : TokenKind) (P : A → Phrase) (more : List A) (x : A) (used tail : List Token) → IsParts between P x more used → IsThere tail → length more < length (used ++ tail)
turns_before between P more x used tail p (t, rest, e) = rw e (turns_suffice between P more x used t rest p)

few_tables : (more : ℕ) → suc more ≤ 16 → 0 + suc more ≤ 16
few_tables more few = omega arith

-- each rule is read as far as its phrase goes, by the token that comes after it
pub schema_complete : {T : Type 0} (geometry : List ℕ → Option T) (tables : List (TableDef T)) (ts : List Token) → AreTables geometry tables ts → AsciiWords ts → lawful tables ≡ true
    → schema geometry ts ≡ Ok (tables, [])
unfolding lawful
schema_complete geometry tables ts (inl (none, p)) words are =
    let (n, e, end) = one_only (λ t. t.kind ≡ k.End) ts p in
    all_read geometry tables ts n (ap (all_tables geometry) e ∙ none_read geometry n end ∙ ap (λ l. Ok (l, n ∷ [])) (sym none)) end
schema_complete geometry tables ts (inr (first, more, same, (used, tail, cut, p, q))) words are =
    let (n, end, last) = tail_read tail q in
    let parts = and_parts _ _ (subst (λ l. (nat_le (length l) 16 && (names_differ (map (λ t. t.name) l) && list_all lawful_table l)) ≡ true) same are) in
    let others = and_parts _ _ parts.1 in
    let ascii : AsciiWords (used ++ tail) = subst AsciiWords cut words in
    let begun : all_tables geometry (used ++ tail) ≡ tables_from geometry (length (used ++ tail)) [] (used ++ tail) =
    some_read geometry (used ++ tail) (not_end used tail (tables_begin geometry more first used p)) in
    let ended : tables_from geometry (length (used ++ tail)) [] (used ++ tail) ≡ Ok (first ∷ more, n ∷ []) =
    tables_complete geometry more first (length (used ++ tail)) [] used tail n p (words_before used tail ascii) last
    (turns_before k.Semicolon (IsTable geometry) more first used tail p (tail_there tail q))
    (record { few = few_tables (length more) (leb-true (length (first ∷ more)) 16 parts.0); differ = others.0; each = others.1 }) in
    all_read geometry tables ts n (ap (all_tables geometry) cut ∙ begun ∙ ended ∙ ap (λ l. Ok (l, n ∷ [])) (sym same)) end
