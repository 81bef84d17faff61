-- Where a fault at a token is in a schema, one that applies at that token or before it is returned.
use Rattle.std.proofs.Common.{◌≡◌, ◌⊎◌, ◌+◌, ◌≤◌, ◌<◌, ◌||◌, ℕ, zero, suc, Bool, true, false, List, [], ◌∷◌, ◌++◌, length, map, Option, Some, None, Result, Ok, Err, inl, inr, refl, sym, ap, subst, ◌∙◌, append_assoc, append-nil, length-append, arith}
use Rattle.std.specs.Prelude.{nat_le, codes}
use Rattle.std.proofs.lemmas.Bool.{false≢true, le-leb, le-ltb}
use Rattle.std.proofs.lemmas.List.{map-append}
use Rattle.basics.proofs.Bools.{or_weaker}
use Rattle.grammar_laws.proofs.AsciiWords.{AsciiWords, tokens_ascii, words_before, words_behind}
use Rattle.grammar_laws.proofs.QuerySound.{Begins, one_begins, seq_begins}
use Rattle.grammar_laws.proofs.SchemaComplete.{EndsColumn, IsWordKind, IsWordOf, column_last, column_read, column_then, comma_ends, expect_read, is_kind, marks_complete, name_read, not_end, null_absent, null_read, one_first, one_last, one_only, parenthesis_ends, separator_read, split, table_read, table_then, turns_suffice, two_only, type_read, word_not, word_read}
use Rattle.grammar_laws.proofs.SchemaRefused.{Answers, Anything, schema_returns}
use Rattle.table_model.specs.Definitions.{is_integer}
use Rattle.table_model.specs.Outcomes.{Gives}
use Rattle.table_model.specs.Parsers.{Outcome, kind, place, spelling, next, sees, after}
use Rattle.table_model.specs.SchemaGrammar.{IsType, IsNotNull, IsMark, AreMarks, Marked}
use Rattle.table_model.specs.SchemaReading.{is_ascii, new_name, type_named, null_mark, key_mark, marks, has_column, column, is_there, key_after, columns_from, columns, has_table, table_name, table, tables_from, schema, schema_of}
use Rattle.table_model.specs.SchemaRefusals.{Written, IsColumn, IsCreateTable, IsWritten, BeforeTable, BeforeColumns, BeforeColumn, BeforeKey, BeforeClose, has_key, is_among, names_of, is_at_token, AppliesAt, AppliesIn, ReturnsFirst}
use Rattle.table_model.specs.Texts.{same_name}
use Rattle.table_model.specs.Tokens.{same_kind, tokens, most_bytes}
use Rattle.table_model.specs.declared.definitions.ColumnType.{ColumnType}
use Rattle.table_model.specs.declared.definitions.ColumnDef.{ColumnDef}
use Rattle.table_model.specs.declared.definitions.TableDef.{TableDef}
use Rattle.table_model.specs.declared.faults.SchemaFault.{SchemaFault}
use Rattle.table_model.specs.declared.faults.SchemaFault.TheVariants as fault
use Rattle.table_model.specs.declared.tokens.Token.{Token}
use Rattle.table_model.specs.declared.tokens.TokenKind.{TokenKind}
use Rattle.table_model.specs.declared.tokens.TokenKind.TheVariants as k
use Rattle.table_model.specs.Phrases.{Phrase, IsToken, ◌▸◌, IsParts, AreEnded, IsWord}

-- ---- a fault at a token, whatever follows

-- a reader returns one fault at a token, whatever the turns and the tokens that follow
abbrev Hit : {A : Type 0} → (List Token → Outcome SchemaFault A) → Type 0
Hit r = (f : SchemaFault) × (is_at_token f ≡ true) × ((tail : List Token) → r tail ≡ Err f)

-- a reader reads this, or returns one fault at a token, whatever follows
abbrev Meets : {A : Type 0} → (List Token → Outcome SchemaFault A) → (List Token → A × List Token) → Type 0
Meets r answer = ((tail : List Token) → r tail ≡ Ok (answer tail)) ⊎ Hit r

-- ---- marks

-- PRIMARY on an INTEGER column of a table with a key is refused, whatever follows it
key_twice : {T : Type 0} (type : ColumnType T) (u : Token) (ts : List Token) → IsWordOf (codes "PRIMARY") u → is_integer type ≡ true → key_mark true type (u ∷ ts) ≡ Err (fault.TwoKeys u.at)
unfolding key_mark sees kind next spelling place
key_twice type u ts primary whole = rw (is_kind u.kind k.Word primary.0, primary.1, whole) refl

-- where the key's mark is refused so are the marks, with NOT NULL before it or not
marks_twice : {T : Type 0} (has : Bool) (type : ColumnType T) (not_null : Bool) (ts ts1 : List Token) (f : SchemaFault) → null_mark ts ≡ Ok (not_null, ts1) → key_mark has type ts1 ≡ Err f → marks has type ts ≡ Err f
unfolding marks
marks_twice has type not_null ts ts1 f e g = rw (e, g) refl

-- PRIMARY on an INTEGER column of a table with a key
second_met : {T : Type 0} (type : ColumnType T) (not_null : Bool) (used : List Token) (t : Token) → AreMarks not_null true used → is_integer type ≡ true
    → Hit (λ rest. marks true type (used ++ t ∷ rest))
second_met type true used t (inl (a, b, e, p, q)) whole =
    let (m, n, ea, isnt, null) = two_only (λ t. t.kind ≡ k.Not) (λ t. t.kind ≡ k.Null) a p in
    let (u, v, eb, primary, key) = two_only (IsWordOf (codes "PRIMARY")) (IsWordOf (codes "KEY")) b q in (
      fault.TwoKeys u.at,
      refl,
      λ rest.
          ap (λ l. marks true type (l ++ t ∷ rest)) (e ∙ ap (λ l. l ++ b) ea ∙ ap (λ l. m ∷ n ∷ l) eb)
          ∙ marks_twice true type true (m ∷ n ∷ u ∷ v ∷ t ∷ rest) (u ∷ v ∷ t ∷ rest) (fault.TwoKeys u.at) (null_read m n (u ∷ v ∷ t ∷ rest) isnt null) (key_twice type u (v ∷ t ∷ rest) primary whole),
    )
second_met type true used t (inr (b, a, e, q, p)) whole =
    let (m, n, ea, isnt, null) = two_only (λ t. t.kind ≡ k.Not) (λ t. t.kind ≡ k.Null) a p in
    let (u, v, eb, primary, key) = two_only (IsWordOf (codes "PRIMARY")) (IsWordOf (codes "KEY")) b q in (
      fault.TwoKeys u.at,
      refl,
      λ rest.
          ap (λ l. marks true type (l ++ t ∷ rest)) (e ∙ ap (λ l. l ++ a) eb ∙ ap (λ l. u ∷ v ∷ l) ea)
          ∙ marks_twice true type false (u ∷ v ∷ m ∷ n ∷ t ∷ rest) (u ∷ v ∷ m ∷ n ∷ t ∷ rest) (fault.TwoKeys u.at) (null_absent u (v ∷ m ∷ n ∷ t ∷ rest) (word_not u.kind primary.0)) (key_twice type u (v ∷ m ∷ n ∷ t ∷ rest) primary whole),
    )
second_met type false used t (inl (a, b, e, none, q)) whole =
    let (u, v, eb, primary, key) = two_only (IsWordOf (codes "PRIMARY")) (IsWordOf (codes "KEY")) b q in (
      fault.TwoKeys u.at,
      refl,
      λ rest.
          ap (λ l. marks true type (l ++ t ∷ rest)) (e ∙ ap (λ l. l ++ b) none ∙ eb)
          ∙ marks_twice true type false (u ∷ v ∷ t ∷ rest) (u ∷ v ∷ t ∷ rest) (fault.TwoKeys u.at) (null_absent u (v ∷ t ∷ rest) (word_not u.kind primary.0)) (key_twice type u (v ∷ t ∷ rest) primary whole),
    )
second_met type false used t (inr (b, a, e, q, none)) whole =
    let (u, v, eb, primary, key) = two_only (IsWordOf (codes "PRIMARY")) (IsWordOf (codes "KEY")) b q in (
      fault.TwoKeys u.at,
      refl,
      λ rest.
          ap (λ l. marks true type (l ++ t ∷ rest)) (e ∙ ap (λ l. l ++ a) eb ∙ ap (λ l. u ∷ v ∷ l) none)
          ∙ marks_twice true type false (u ∷ v ∷ t ∷ rest) (u ∷ v ∷ t ∷ rest) (fault.TwoKeys u.at) (null_absent u (v ∷ t ∷ rest) (word_not u.kind primary.0)) (key_twice type u (v ∷ t ∷ rest) primary whole),
    )

-- marks without PRIMARY KEY are read; with it they are too where no key comes before, and refused at PRIMARY where one does
marks_met : {T : Type 0} (has : Bool) (type : ColumnType T) (not_null is_key : Bool) (used : List Token) (t : Token) → AreMarks not_null is_key used → EndsColumn t.kind
    → (is_key ≡ true → is_integer type ≡ true) → Meets (λ rest. marks has type (used ++ t ∷ rest)) (λ rest. ((not_null, is_key), t ∷ rest))
marks_met has type not_null false used t p ends whole = inl (λ rest. marks_complete has type not_null false used t rest p ends (λ e. absurd (false≢true e)))
marks_met false type not_null true used t p ends whole = inl (λ rest. marks_complete false type not_null true used t rest p ends (λ e. (refl, whole e)))
marks_met true type not_null true used t p ends whole = inr (second_met type not_null used t p (whole refl))

-- ---- names

-- a name is refused where there is no room, and else where it is taken
name_many : (taken : Bool) (u : Token) (ts : List Token) → u.kind ≡ k.Word → is_ascii u.text ≡ true → new_name true taken (u ∷ ts) ≡ Err (fault.TooMany u.at)
unfolding new_name sees kind next spelling place
name_many taken u ts word ascii = rw (is_kind u.kind k.Word word, ascii) refl

name_double : (u : Token) (ts : List Token) → u.kind ≡ k.Word → is_ascii u.text ≡ true → new_name false true (u ∷ ts) ≡ Err (fault.DoubleName u.at)
unfolding new_name sees kind next spelling place
name_double u ts word ascii = rw (is_kind u.kind k.Word word, ascii) refl

-- a new name is refused, whatever follows
name_hit : (full taken : Bool) (u : Token) → u.kind ≡ k.Word → is_ascii u.text ≡ true → (full ≡ true) ⊎ (taken ≡ true) → Hit (λ ts. new_name full taken (u ∷ ts))
name_hit true taken u word ascii h = (fault.TooMany u.at, refl, λ ts. name_many taken u ts word ascii)
name_hit false true u word ascii h = (fault.DoubleName u.at, refl, λ ts. name_double u ts word ascii)
name_hit false false u word ascii (inl h) = absurd (false≢true h)
name_hit false false u word ascii (inr h) = absurd (false≢true h)

-- a name is new and has room, or is refused, whatever follows
name_met : (full taken : Bool) (u : Token) → u.kind ≡ k.Word → is_ascii u.text ≡ true → ((full ≡ false) × (taken ≡ false)) ⊎ Hit (λ ts. new_name full taken (u ∷ ts))
name_met false false u word ascii = inl (refl, refl)
name_met true taken u word ascii = inr (name_hit true taken u word ascii (inl refl))
name_met false true u word ascii = inr (name_hit false true u word ascii (inr refl))

-- ---- columns

-- a column is refused where its name is
column_unnamed : {T : Type 0} (geometry : List ℕ → Option T) (found : List (ColumnDef T)) (has : Bool) (u : Token) (ts : List Token) (f : SchemaFault)
    → new_name (nat_le 32 (length found)) (has_column found u.text) (u ∷ ts) ≡ Err f → column geometry found has (u ∷ ts) ≡ Err f
unfolding column spelling
column_unnamed geometry found has u ts f e = rw e refl

-- a column is refused where its marks are, its name and its type being read
column_unmarked : {T : Type 0} (geometry : List ℕ → Option T) (found : List (ColumnDef T)) (has : Bool) (type : ColumnType T) (u v : Token) (ts : List Token) (f : SchemaFault)
    → u.kind ≡ k.Word → is_ascii u.text ≡ true → nat_le 32 (length found) ≡ false → has_column found u.text ≡ false → v.kind ≡ k.Word → type_named geometry v.text ≡ Some type
    → marks has type ts ≡ Err f → column geometry found has (u ∷ v ∷ ts) ≡ Err f
unfolding column spelling
column_unmarked geometry found has type u v ts f word ascii room fresh word2 named e =
    rw (name_read (nat_le 32 (length found)) (has_column found u.text) u (v ∷ ts) word ascii room fresh, type_read geometry type v ts word2 named, e) refl

-- a column of the grammar is read, or refused at its name or at PRIMARY, whatever follows
column_met : {T : Type 0} (geometry : List ℕ → Option T) (found : List (ColumnDef T)) (has : Bool) (x : Marked T) (used : List Token) (t : Token) → IsColumn geometry x used → AsciiWords used → EndsColumn t.kind
    → Meets (λ rest. column geometry found has (used ++ t ∷ rest)) (λ rest. (x, t ∷ rest))
column_met {T = T} geometry found has x used t p words ends =
    let (u, d, e, named, q) = one_first (λ t. (t.kind ≡ k.Word) × (x.0.name ≡ t.text)) (IsType geometry x.0.column_type ▸ AreMarks x.0.not_null x.1) used p.1 in
    let (v, m, e2, typed, marked) = one_first (λ t. (t.kind ≡ k.Word) × (type_named geometry t.text ≡ Some x.0.column_type)) (AreMarks x.0.not_null x.1) d q in
    let ascii : AsciiWords (u ∷ d) = subst AsciiWords e words in
    go u v m (e ∙ ap (λ l. u ∷ l) e2) named (ascii.0 named.0) typed (name_met (nat_le 32 (length found)) (has_column found u.text) u named.0 (ascii.0 named.0))
    (marks_met has x.0.column_type x.0.not_null x.1 m t marked ends p.0)
  where
    go : (u v : Token) (m : List Token) → used ≡ u ∷ v ∷ m → (u.kind ≡ k.Word) × (x.0.name ≡ u.text) → is_ascii u.text ≡ true → (v.kind ≡ k.Word) × (type_named geometry v.text ≡ Some x.0.column_type)
        → ((nat_le 32 (length found) ≡ false) × (has_column found u.text ≡ false)) ⊎ Hit (λ ts. new_name (nat_le 32 (length found)) (has_column found u.text) (u ∷ ts))
        → Meets (λ rest. marks has x.0.column_type (m ++ t ∷ rest)) (λ rest. ((x.0.not_null, x.1), t ∷ rest))
        → Meets (λ rest. column geometry found has (used ++ t ∷ rest)) (λ rest. (x, t ∷ rest))
    go u v m cut named ascii typed (inr h) marked =
        inr (h.0, h.1, λ rest. ap (λ l. column geometry found has (l ++ t ∷ rest)) cut ∙ column_unnamed geometry found has u (v ∷ (m ++ t ∷ rest)) h.0 (h.2 (v ∷ (m ++ t ∷ rest))))
    go u v m cut named ascii typed (inl fresh) (inr h) =
        inr (
          h.0,
          h.1,
          λ rest. ap (λ l. column geometry found has (l ++ t ∷ rest)) cut
              ∙ column_unmarked geometry found has x.0.column_type u v (m ++ t ∷ rest) h.0 named.0 ascii fresh.0 fresh.1 typed.0 typed.1 (h.2 rest),
        )
    go u v m cut named ascii typed (inl fresh) (inl read) =
        inl (λ rest. ap (λ l. column geometry found has (l ++ t ∷ rest)) cut
        ∙ column_read geometry found has x.0.column_type x.0.not_null x.1 u v (m ++ t ∷ rest) (t ∷ rest) named.0 ascii fresh.0 fresh.1 typed.0 typed.1 (read rest)
        ∙ ap (λ name. Ok ((record { name = name; column_type = x.0.column_type; not_null = x.0.not_null }, x.1), t ∷ rest)) (sym named.1))

-- ---- lists of columns

-- so many turns more
abbrev turns : {A : Type 0} → List A → ℕ → ℕ
turns [] n = n
turns (x ∷ xs) n = suc (turns xs n)

-- enough turns are so many more than some
enough : {A : Type 0} (xs : List A) (all : ℕ) → length xs < all → (n : ℕ) × (all ≡ turns xs (suc n))
enough [] zero h = absurd (omega (arith, h))
enough [] (suc n) h = (n, refl)
enough (x ∷ xs) zero h = absurd (omega (arith, h))
enough (x ∷ xs) (suc n) h = let m = enough xs n (omega (arith, h)) in (m.0, ap suc m.1)

abbrev firsts : {T : Type 0} → List (Marked T) → List (ColumnDef T)
firsts m = map (λ c. c.0) m

-- where a column is refused, so are the columns
column_fault : {T : Type 0} (geometry : List ℕ → Option T) (n : ℕ) (found : List (ColumnDef T)) (key : Option ℕ) (ts : List Token) (f : SchemaFault)
    → column geometry found (is_there key) ts ≡ Err f → columns_from geometry (suc n) found key ts ≡ Err f
unfolding columns_from
column_fault geometry n found key ts f e = rw e refl

or_assoc : (a b c : Bool) → ((a || b) || c) ≡ (a || (b || c))
or_assoc true b c = refl
or_assoc false b c = refl

or_false : (a : Bool) → a ≡ (a || false)
or_false true = refl
or_false false = refl

-- there is a key after one more column where one was before, or where the column is it
there_after : (key : Option ℕ) (place : ℕ) (is_key : Bool) → is_there (key_after key place is_key) ≡ (is_there key || is_key)
there_after None place true = refl
there_after None place false = refl
there_after (Some at) place true = refl
there_after (Some at) place false = refl

-- columns, each with a comma behind it, are read, or a fault at one of their tokens is returned
abbrev EndedMeet : {T : Type 0} → (List ℕ → Option T) → List (Marked T) → List (ColumnDef T) → Option ℕ → List Token → Type 0
EndedMeet geometry m found key used =
    ((known : Option ℕ) × (is_there known ≡ (is_there key || has_key m))
    × ((n : ℕ) (tail : List Token) → columns_from geometry (turns m n) found key (used ++ tail) ≡ columns_from geometry n (found ++ firsts m) known tail))
    ⊎ ((f : SchemaFault) × (is_at_token f ≡ true) × ((n : ℕ) (tail : List Token) → columns_from geometry (turns m n) found key (used ++ tail) ≡ Err f))

-- column by column: each is read or refused, and the first that is refused settles the answer
ended_met : {T : Type 0} (geometry : List ℕ → Option T) (m : List (Marked T)) (found : List (ColumnDef T)) (key : Option ℕ) (used : List Token)
    → AreEnded (IsToken k.Comma) (IsColumn geometry) m used → AsciiWords used → EndedMeet geometry m found key used
ended_met geometry [] found key used none words =
    inl (key, or_false (is_there key), λ n tail. ap (λ l. columns_from geometry n found key (l ++ tail)) none ∙ ap (λ f. columns_from geometry n f key tail) (sym (append-nil found)))
ended_met {T = T} geometry (x ∷ m) found key used (a, b, e, p, (c, d, e2, q, h)) words =
    let (t, ec, comma) = one_only (λ t. t.kind ≡ k.Comma) c q in
    let eb : b ≡ t ∷ d = e2 ∙ ap (λ l. l ++ d) ec in
    let ascii : AsciiWords (a ++ b) = subst AsciiWords e words in
    let behind : AsciiWords (t ∷ d) = subst AsciiWords eb (words_behind a b ascii) in
    go t (λ tail. split used a b d tail t e eb) comma (column_met geometry found (is_there key) x a t p (words_before a b ascii) (comma_ends t.kind comma))
    (ended_met geometry m (found ++ x.0 ∷ []) (key_after key (length found) x.1) d h behind.1)
  where
    go : (t : Token) → ((tail : List Token) → used ++ tail ≡ a ++ t ∷ (d ++ tail)) → t.kind ≡ k.Comma → Meets (λ rest. column geometry found (is_there key) (a ++ t ∷ rest)) (λ rest. (x, t ∷ rest))
        → EndedMeet geometry m (found ++ x.0 ∷ []) (key_after key (length found) x.1) d → EndedMeet geometry (x ∷ m) found key used
    go t cut comma (inr hit) more =
        inr (
          hit.0,
          hit.1,
          λ n tail. ap (columns_from geometry (suc (turns m n)) found key) (cut tail)
              ∙ column_fault geometry (turns m n) found key (a ++ t ∷ (d ++ tail)) hit.0 (hit.2 (d ++ tail)),
        )
    go t cut comma (inl read) (inr hit) =
        inr (
          hit.0,
          hit.1,
          λ n tail. ap (columns_from geometry (suc (turns m n)) found key) (cut tail)
              ∙ column_then geometry (turns m n) found key x (a ++ t ∷ (d ++ tail)) t (d ++ tail) (read (d ++ tail)) comma ∙ hit.2 n tail,
        )
    go t cut comma (inl read) (inl more) =
        inl (
          more.0,
          more.1 ∙ ap (λ b. b || has_key m) (there_after key (length found) x.1) ∙ or_assoc (is_there key) x.1 (has_key m),
          λ n tail. ap (columns_from geometry (suc (turns m n)) found key) (cut tail)
              ∙ column_then geometry (turns m n) found key x (a ++ t ∷ (d ++ tail)) t (d ++ tail) (read (d ++ tail)) comma ∙ more.2 n tail
              ∙ ap (λ f. columns_from geometry n f more.0 tail) (append_assoc found (x.0 ∷ []) (firsts m)),
        )

-- the columns of a table up to its closing parenthesis are read, or a fault at one of their tokens is returned
abbrev PartsMeet : {T : Type 0} → (List ℕ → Option T) → Marked T → List (Marked T) → List (ColumnDef T) → Option ℕ → List Token → Token → Type 0
PartsMeet {T} geometry x more found key used t =
    ((known : Option ℕ) × (is_there known ≡ (is_there key || has_key (x ∷ more)))
    × ((n : ℕ) (rest : List Token) → columns_from geometry (turns more (suc n)) found key (used ++ t ∷ rest) ≡ Ok ((found ++ firsts (x ∷ more), known), t ∷ rest)))
    ⊎ ((f : SchemaFault) × (is_at_token f ≡ true) × ((n : ℕ) (rest : List Token) → columns_from geometry (turns more (suc n)) found key (used ++ t ∷ rest) ≡ Err f))

-- the last column has the parenthesis behind it instead of a comma
parts_met : {T : Type 0} (geometry : List ℕ → Option T) (x : Marked T) (more : List (Marked T)) (found : List (ColumnDef T)) (key : Option ℕ) (used : List Token) (t : Token)
    → IsParts k.Comma (IsColumn geometry) x more used → AsciiWords used → t.kind ≡ k.RightParenthesis → PartsMeet geometry x more found key used t
parts_met {T = T} geometry x [] found key used t p words right =
    let ends = parenthesis_ends t.kind right in
    go ends.1 (column_met geometry found (is_there key) x used t p words ends.0)
  where
    go : same_kind t.kind k.Comma ≡ false → Meets (λ rest. column geometry found (is_there key) (used ++ t ∷ rest)) (λ rest. (x, t ∷ rest)) → PartsMeet geometry x [] found key used t
    go last (inr hit) = inr (hit.0, hit.1, λ n rest. column_fault geometry n found key (used ++ t ∷ rest) hit.0 (hit.2 rest))
    go last (inl read) = inl (
      key_after key (length found) x.1,
      there_after key (length found) x.1 ∙ ap (λ b. is_there key || b) (or_false x.1),
      λ n rest. column_last geometry n found key x (used ++ t ∷ rest) t rest (read rest) last,
    )
parts_met {T = T} geometry x (y ∷ more) found key used t (a, b, e, p, q) words right =
    let (m, d, g, is, h) = one_first (λ t. t.kind ≡ k.Comma) (IsParts k.Comma (IsColumn geometry) y more) b q in
    let ascii : AsciiWords (a ++ b) = subst AsciiWords e words in
    let behind : AsciiWords (m ∷ d) = subst AsciiWords g (words_behind a b ascii) in
    go m d (λ tail. split used a b d tail m e g) is (column_met geometry found (is_there key) x a m p (words_before a b ascii) (comma_ends m.kind is))
    (parts_met geometry y more (found ++ x.0 ∷ []) (key_after key (length found) x.1) d t h behind.1 right)
  where
    go : (m : Token) (d : List Token) → ((tail : List Token) → used ++ tail ≡ a ++ m ∷ (d ++ tail)) → m.kind ≡ k.Comma → Meets (λ rest. column geometry found (is_there key) (a ++ m ∷ rest)) (λ rest. (x, m ∷ rest))
        → PartsMeet geometry y more (found ++ x.0 ∷ []) (key_after key (length found) x.1) d t → PartsMeet geometry x (y ∷ more) found key used t
    go m d cut comma (inr hit) others =
        inr (
          hit.0,
          hit.1,
          λ n rest. ap (columns_from geometry (suc (turns more (suc n))) found key) (cut (t ∷ rest))
              ∙ column_fault geometry (turns more (suc n)) found key (a ++ m ∷ (d ++ t ∷ rest)) hit.0 (hit.2 (d ++ t ∷ rest)),
        )
    go m d cut comma (inl read) (inr hit) =
        inr (
          hit.0,
          hit.1,
          λ n rest. ap (columns_from geometry (suc (turns more (suc n))) found key) (cut (t ∷ rest))
              ∙ column_then geometry (turns more (suc n)) found key x (a ++ m ∷ (d ++ t ∷ rest)) m (d ++ t ∷ rest) (read (d ++ t ∷ rest)) comma ∙ hit.2 n rest,
        )
    go m d cut comma (inl read) (inl others) =
        inl (
          others.0,
          others.1 ∙ ap (λ b. b || has_key (y ∷ more)) (there_after key (length found) x.1) ∙ or_assoc (is_there key) x.1 (has_key (y ∷ more)),
          λ n rest. ap (columns_from geometry (suc (turns more (suc n))) found key) (cut (t ∷ rest))
              ∙ column_then geometry (turns more (suc n)) found key x (a ++ m ∷ (d ++ t ∷ rest)) m (d ++ t ∷ rest) (read (d ++ t ∷ rest)) comma ∙ others.2 n rest
              ∙ ap (λ f. Ok ((f, others.0), t ∷ rest)) (append_assoc found (x.0 ∷ []) (firsts (y ∷ more))),
        )

-- ---- tables

-- a table is refused where its name is
table_unnamed : {T : Type 0} (geometry : List ℕ → Option T) (found : List (TableDef T)) (u1 u2 u3 : Token) (ts : List Token) (f : SchemaFault)
    → IsWordOf (codes "CREATE") u1 → IsWordOf (codes "TABLE") u2 → new_name (nat_le 16 (length found)) (has_table found u3.text) (u3 ∷ ts) ≡ Err f
    → table geometry found (u1 ∷ u2 ∷ u3 ∷ ts) ≡ Err f
unfolding table table_name spelling
table_unnamed geometry found u1 u2 u3 ts f create tables e =
    rw (word_read (codes "CREATE") u1 (u2 ∷ u3 ∷ ts) create.0 create.1, word_read (codes "TABLE") u2 (u3 ∷ ts) tables.0 tables.1, e) refl

-- the tokens from CREATE to the parenthesis are a table's, whose name is new
record IsOpened {T : Type 0} (found : List (TableDef T)) (u1 u2 u3 u4 : Token) : Type 0 where
  create : IsWordOf (codes "CREATE") u1
  tables : IsWordOf (codes "TABLE") u2
  word : u3.kind ≡ k.Word
  ascii : is_ascii u3.text ≡ true
  left : u4.kind ≡ k.LeftParenthesis

-- a table is refused where its columns are, its name being read
table_uncolumned : {T : Type 0} (geometry : List ℕ → Option T) (found : List (TableDef T)) (u1 u2 u3 u4 : Token) (ts : List Token) (f : SchemaFault) → IsOpened found u1 u2 u3 u4
    → nat_le 16 (length found) ≡ false → has_table found u3.text ≡ false → columns geometry ts ≡ Err f → table geometry found (u1 ∷ u2 ∷ u3 ∷ u4 ∷ ts) ≡ Err f
unfolding table table_name spelling
table_uncolumned geometry found u1 u2 u3 u4 ts f is room fresh e =
    rw (
      word_read (codes "CREATE") u1 (u2 ∷ u3 ∷ u4 ∷ ts) is.create.0 is.create.1,
      word_read (codes "TABLE") u2 (u3 ∷ u4 ∷ ts) is.tables.0 is.tables.1,
      name_read (nat_le 16 (length found)) (has_table found u3.text) u3 (u4 ∷ ts) is.word is.ascii room fresh,
      expect_read k.LeftParenthesis u4 ts is.left,
      e,
    ) refl

-- a table whose columns are read without a key is refused at its parenthesis
table_unkeyed : {T : Type 0} (geometry : List ℕ → Option T) (found : List (TableDef T)) (cols : List (ColumnDef T)) (u1 u2 u3 u4 : Token) (ts : List Token) (m : Token) (tail : List Token)
    → IsOpened found u1 u2 u3 u4 → nat_le 16 (length found) ≡ false → has_table found u3.text ≡ false → columns geometry ts ≡ Ok ((cols, None), m ∷ tail) → m.kind ≡ k.RightParenthesis
    → table geometry found (u1 ∷ u2 ∷ u3 ∷ u4 ∷ ts) ≡ Err (fault.NoKey m.at)
unfolding table table_name spelling place
table_unkeyed geometry found cols u1 u2 u3 u4 ts m tail is room fresh e right =
    rw (
      word_read (codes "CREATE") u1 (u2 ∷ u3 ∷ u4 ∷ ts) is.create.0 is.create.1,
      word_read (codes "TABLE") u2 (u3 ∷ u4 ∷ ts) is.tables.0 is.tables.1,
      name_read (nat_le 16 (length found)) (has_table found u3.text) u3 (u4 ∷ ts) is.word is.ascii room fresh,
      expect_read k.LeftParenthesis u4 ts is.left,
      e,
      expect_read k.RightParenthesis m tail right,
    ) refl

-- the columns up to the closing parenthesis, with as many turns as there are tokens
body_met : {T : Type 0} (geometry : List ℕ → Option T) (x : Marked T) (more : List (Marked T)) (a : List Token) (m : Token)
    → IsParts k.Comma (IsColumn geometry) x more a → AsciiWords a → m.kind ≡ k.RightParenthesis
    → ((known : Option ℕ) × (is_there known ≡ has_key (x ∷ more)) × ((tail : List Token) → columns geometry (a ++ m ∷ tail) ≡ Ok ((firsts (x ∷ more), known), m ∷ tail)))
    ⊎ Hit (λ tail. columns geometry (a ++ m ∷ tail))
body_met {T = T} geometry x more a m parts words right = go (parts_met geometry x more [] None a m parts words right)
  where
    count : (tail : List Token) → (n : ℕ) × (length (a ++ m ∷ tail) ≡ turns more (suc n))
    count tail = enough more (length (a ++ m ∷ tail)) (turns_suffice k.Comma (IsColumn geometry) more x a m tail parts)

    go : PartsMeet geometry x more [] None a m → ((known : Option ℕ) × (is_there known ≡ has_key (x ∷ more)) × ((tail : List Token) → columns geometry (a ++ m ∷ tail) ≡ Ok ((firsts (x ∷ more), known), m ∷ tail)))
        ⊎ Hit (λ tail. columns geometry (a ++ m ∷ tail))
    go (inl h) = inl (h.0, h.1, λ tail. ap (λ n. columns_from geometry n [] None (a ++ m ∷ tail)) (count tail).1 ∙ h.2 (count tail).0 tail)
    go (inr h) = inr (h.0, h.1, λ tail. ap (λ n. columns_from geometry n [] None (a ++ m ∷ tail)) (count tail).1 ∙ h.2 (count tail).0 tail)

-- a table up to its closing parenthesis is read, or a fault at one of its tokens is returned
abbrev TableMeets : {T : Type 0} → (List ℕ → Option T) → List (TableDef T) → List ℕ → List Token → Type 0
TableMeets {T} geometry found name used =
    ((t : TableDef T) × (t.name ≡ name) × ((tail : List Token) → table geometry found (used ++ tail) ≡ Ok (t, tail))) ⊎ Hit (λ tail. table geometry found (used ++ tail))

-- a table's name, its columns and its parenthesis, in this order: the first that is refused settles the answer
opened_met : {T : Type 0} (geometry : List ℕ → Option T) (found : List (TableDef T)) (name : List ℕ) (first : Marked T) (more : List (Marked T)) (used : List Token) (u1 u2 u3 u4 : Token) (a : List Token) (m : Token)
    → ((tail : List Token) → used ++ tail ≡ u1 ∷ u2 ∷ u3 ∷ u4 ∷ (a ++ m ∷ tail)) → IsOpened found u1 u2 u3 u4 → name ≡ u3.text → m.kind ≡ k.RightParenthesis
    → ((nat_le 16 (length found) ≡ false) × (has_table found u3.text ≡ false)) ⊎ Hit (λ ts. new_name (nat_le 16 (length found)) (has_table found u3.text) (u3 ∷ ts))
    → ((known : Option ℕ) × (is_there known ≡ has_key (first ∷ more)) × ((tail : List Token) → columns geometry (a ++ m ∷ tail) ≡ Ok ((firsts (first ∷ more), known), m ∷ tail)))
    ⊎ Hit (λ tail. columns geometry (a ++ m ∷ tail))
    → TableMeets geometry found name used
opened_met geometry found name first more used u1 u2 u3 u4 a m cut is named right (inr h) body =
    inr (h.0, h.1, λ tail. ap (table geometry found) (cut tail) ∙ table_unnamed geometry found u1 u2 u3 (u4 ∷ (a ++ m ∷ tail)) h.0 is.create is.tables (h.2 (u4 ∷ (a ++ m ∷ tail))))
opened_met geometry found name first more used u1 u2 u3 u4 a m cut is named right (inl fresh) (inr h) =
    inr (h.0, h.1, λ tail. ap (table geometry found) (cut tail) ∙ table_uncolumned geometry found u1 u2 u3 u4 (a ++ m ∷ tail) h.0 is fresh.0 fresh.1 (h.2 tail))
opened_met geometry found name first more used u1 u2 u3 u4 a m cut is named right (inl fresh) (inl (None, there, read)) =
    inr (
      fault.NoKey m.at,
      refl,
      λ tail. ap (table geometry found) (cut tail)
          ∙ table_unkeyed geometry found (firsts (first ∷ more)) u1 u2 u3 u4 (a ++ m ∷ tail) m tail is fresh.0 fresh.1 (read tail) right,
    )
opened_met geometry found name first more used u1 u2 u3 u4 a m cut is named right (inl fresh) (inl (Some key, there, read)) =
    inl (
      record { name = u3.text; columns = firsts (first ∷ more); key = key },
      sym named,
      λ tail. ap (table geometry found) (cut tail)
          ∙ table_read geometry found (firsts (first ∷ more)) key u1 u2 u3 u4 (a ++ m ∷ tail) m tail is.create is.tables is.word is.ascii fresh.0 fresh.1 is.left (read tail) right,
    )

-- so a table as it is written is read, or refused at one of its tokens, whatever follows
table_met : {T : Type 0} (geometry : List ℕ → Option T) (found : List (TableDef T)) (w : Written T) (used : List Token) → IsWritten geometry w used → AsciiWords used → TableMeets geometry found w.0 used
table_met {T = T} geometry found w used (first, more, same, (c, d2, e, create, p2)) words =
    let (u1, u2, ec, w1, w2) = two_only (IsWordOf (codes "CREATE")) (IsWordOf (codes "TABLE")) c create in
    let (u3, d3, e3, named, p3) = one_first (λ t. (t.kind ≡ k.Word) × (w.0 ≡ t.text)) _ d2 p2 in
    let (u4, d4, e4, left, p4) = one_first (λ t. t.kind ≡ k.LeftParenthesis) _ d3 p3 in
    let (a, m, e5, parts, right) = one_last (IsParts k.Comma (IsColumn geometry) first more) (λ t. t.kind ≡ k.RightParenthesis) d4 p4 in
    let cut : used ≡ u1 ∷ u2 ∷ u3 ∷ u4 ∷ (a ++ m ∷ []) =
    e ∙ ap (λ l. l ++ d2) ec ∙ ap (λ l. u1 ∷ u2 ∷ l) (e3 ∙ ap (λ l. u3 ∷ l) (e4 ∙ ap (λ l. u4 ∷ l) e5)) in
    let ascii : AsciiWords (u1 ∷ u2 ∷ u3 ∷ u4 ∷ (a ++ m ∷ [])) = subst AsciiWords cut words in
    opened_met geometry found w.0 first more used u1 u2 u3 u4 a m (λ tail. ap (λ l. l ++ tail) cut ∙ ap (λ l. u1 ∷ u2 ∷ u3 ∷ u4 ∷ l) (append_assoc a (m ∷ []) tail))
    (record { create = w1; tables = w2; word = named.0; ascii = ascii.1.1.0 named.0; left = left }) named.1 right
    (name_met (nat_le 16 (length found)) (has_table found u3.text) u3 named.0 (ascii.1.1.0 named.0))
    (body_met geometry first more a m parts (words_before a (m ∷ []) ascii.1.1.1.1) right)

-- ---- lists of tables

-- where a table is refused, so are the tables
table_fault : {T : Type 0} (geometry : List ℕ → Option T) (n : ℕ) (found : List (TableDef T)) (ts : List Token) (f : SchemaFault) → table geometry found ts ≡ Err f → tables_from geometry (suc n) found ts ≡ Err f
unfolding tables_from
table_fault geometry n found ts f e = rw e refl

abbrev names : {T : Type 0} → List (TableDef T) → List (List ℕ)
names found = map (λ t. t.name) found

abbrev written : {T : Type 0} → List (Written T) → List (List ℕ)
written ws = map (λ w. w.0) ws

abbrev TablesMeet : {T : Type 0} → (List ℕ → Option T) → List (Written T) → List (TableDef T) → List Token → Type 0
TablesMeet {T} geometry ws found used =
    ((now : List (TableDef T)) × (names now ≡ names found ++ written ws)
    × ((n : ℕ) (tail : List Token) → sees k.End tail ≡ false → tables_from geometry (turns ws n) found (used ++ tail) ≡ tables_from geometry n now tail))
    ⊎ ((f : SchemaFault) × (is_at_token f ≡ true) × ((n : ℕ) (tail : List Token) → sees k.End tail ≡ false → tables_from geometry (turns ws n) found (used ++ tail) ≡ Err f))

-- a table as it is written begins with a word, CREATE
written_begins : {T : Type 0} (geometry : List ℕ → Option T) (w : Written T) (ts : List Token) → IsWritten geometry w ts → Begins IsWordKind ts
written_begins geometry w ts (first, more, same, p) =
    seq_begins IsWordKind IsCreateTable _ (λ ts p. seq_begins IsWordKind (IsWord (codes "CREATE")) _ (one_begins IsWordKind _ (λ t q. q.0)) ts p) ts p

-- tables with semicolons, and what isn't the end behind them, don't begin with the end
ended_goes_on : {T : Type 0} (geometry : List ℕ → Option T) (ws : List (Written T)) (used tail : List Token) → AreEnded (IsToken k.Semicolon) (IsWritten geometry) ws used → sees k.End tail ≡ false
    → sees k.End (used ++ tail) ≡ false
ended_goes_on geometry [] used tail none h = ap (λ l. sees k.End (l ++ tail)) none ∙ h
ended_goes_on geometry (w ∷ ws) used tail p h = not_end used tail (seq_begins IsWordKind (IsWritten geometry w) _ (written_begins geometry w) used p)

-- a table that is read has the name that is written, so the names read and those to come stay the same
names-after : {T : Type 0} (found : List (TableDef T)) (t : TableDef T) (name : List ℕ) (others : List (List ℕ)) → t.name ≡ name → names (found ++ t ∷ []) ++ others ≡ names found ++ name ∷ others
names-after found t name others e =
    ap (λ l. l ++ others) (map-append (λ t. t.name) found (t ∷ [])) ∙ append_assoc (names found) (t.name ∷ []) others ∙ ap (λ n. names found ++ n ∷ others) e

-- table by table: each is read or refused, and the first that is refused settles the answer
tables_met : {T : Type 0} (geometry : List ℕ → Option T) (ws : List (Written T)) (found : List (TableDef T)) (used : List Token)
    → AreEnded (IsToken k.Semicolon) (IsWritten geometry) ws used → AsciiWords used → TablesMeet geometry ws found used
tables_met geometry [] found used none words =
    inl (found, sym (append-nil (names found)), λ n tail h. ap (λ l. tables_from geometry n found (l ++ tail)) none)
tables_met {T = T} geometry (w ∷ ws) found used (a, b, e, p, (c, d, e2, q, h)) words =
    let (t, ec, semicolon) = one_only (λ t. t.kind ≡ k.Semicolon) c q in
    let eb : b ≡ t ∷ d = e2 ∙ ap (λ l. l ++ d) ec in
    let ascii : AsciiWords (a ++ b) = subst AsciiWords e words in
    let behind : AsciiWords (t ∷ d) = subst AsciiWords eb (words_behind a b ascii) in
    go t (λ tail. split used a b d tail t e eb) semicolon (λ x. tables_met geometry ws (found ++ x ∷ []) d h behind.1) (table_met geometry found w a p (words_before a b ascii))
  where
    next_end : (tail : List Token) → sees k.End tail ≡ false → sees k.End (d ++ tail) ≡ false
    next_end tail is = ended_goes_on geometry ws d tail h is

    then : (t : Token) (x : TableDef T) → ((tail : List Token) → used ++ tail ≡ a ++ t ∷ (d ++ tail)) → t.kind ≡ k.Semicolon → ((tail : List Token) → table geometry found (a ++ tail) ≡ Ok (x, tail))
        → (n : ℕ) (tail : List Token) → sees k.End tail ≡ false → tables_from geometry (suc n) found (used ++ tail) ≡ tables_from geometry n (found ++ x ∷ []) (d ++ tail)
    then t x cut semicolon read n tail is =
        ap (tables_from geometry (suc n) found) (cut tail)
        ∙ table_then geometry n found x (a ++ t ∷ (d ++ tail)) (t ∷ (d ++ tail)) (d ++ tail) (read (t ∷ (d ++ tail))) (separator_read t (d ++ tail) semicolon (next_end tail is))

    others : (t : Token) (x : TableDef T) → x.name ≡ w.0 → ((tail : List Token) → used ++ tail ≡ a ++ t ∷ (d ++ tail)) → t.kind ≡ k.Semicolon → ((tail : List Token) → table geometry found (a ++ tail) ≡ Ok (x, tail))
        → TablesMeet geometry ws (found ++ x ∷ []) d → TablesMeet geometry (w ∷ ws) found used
    others t x named cut semicolon read (inr hit) =
        inr (hit.0, hit.1, λ n tail is. then t x cut semicolon read (turns ws n) tail is ∙ hit.2 n tail is)
    others t x named cut semicolon read (inl more) =
        inl (more.0, more.1 ∙ names-after found x w.0 (written ws) named, λ n tail is. then t x cut semicolon read (turns ws n) tail is ∙ more.2 n tail is)

    go : (t : Token) → ((tail : List Token) → used ++ tail ≡ a ++ t ∷ (d ++ tail)) → t.kind ≡ k.Semicolon → ((x : TableDef T) → TablesMeet geometry ws (found ++ x ∷ []) d)
        → TableMeets geometry found w.0 a → TablesMeet geometry (w ∷ ws) found used
    go t cut semicolon more (inr hit) =
        inr (hit.0, hit.1, λ n tail is. ap (tables_from geometry (suc (turns ws n)) found) (cut tail) ∙ table_fault geometry (turns ws n) found (a ++ t ∷ (d ++ tail)) hit.0 (hit.2 (t ∷ (d ++ tail))))
    go t cut semicolon more (inl (x, named, read)) = others t x named cut semicolon read (more x)

-- ---- schemas

-- where the tables are refused, so is the schema
schema_fault : {T : Type 0} (geometry : List ℕ → Option T) (ts : List Token) (f : SchemaFault) → sees k.End ts ≡ false → tables_from geometry (length ts) [] ts ≡ Err f → schema geometry ts ≡ Err f
unfolding schema
schema_fault geometry ts f h e = rw (h, e) refl

-- there are no more parts than tokens
ended_short : {A : Type 0} (between : TokenKind) (P : A → Phrase) (xs : List A) (used : List Token) → AreEnded (IsToken between) P xs used → length xs ≤ length used
ended_short between P [] used p = omega arith
ended_short between P (x ∷ xs) used (a, b, e, p, (c, d, e2, q, h)) =
    let one = one_only (λ t. t.kind ≡ between) c q in
    let rest = ended_short between P xs d h in
    let all : length used ≡ length a + (length c + length d) = ap length e ∙ length-append a b ∙ ap (λ n. length a + n) (ap length e2 ∙ length-append c d) in
    let c_one : length c ≡ 1 = ap length one.1 in
    more (length xs) (length a) (length c) (length d) (length used) rest all c_one
  where
    more : (xs a c d all : ℕ) → xs ≤ d → all ≡ a + (c + d) → c ≡ 1 → suc xs ≤ all
    more xs a c d all h e f = omega (arith, h, e, f)

-- tables are read up to a table that is refused: so is the schema
stops : {T : Type 0} (geometry : List ℕ → Option T) (ws : List (Written T)) (e r : List Token) (u : Token)
    → AreEnded (IsToken k.Semicolon) (IsWritten geometry) ws e → AsciiWords e → ((after : List Token) → sees k.End (r ++ u ∷ after) ≡ false)
    → ((now : List (TableDef T)) → names now ≡ written ws → Hit (λ after. table geometry now (r ++ u ∷ after)))
    → Hit (λ after. schema geometry (e ++ (r ++ u ∷ after)))
stops {T = T} geometry ws e r u before words begins refused = go (tables_met geometry ws [] e before words)
  where
    longer : (xs e r all : ℕ) → xs ≤ e → all ≡ e + (r + suc 0) + 0 → xs < all
    longer xs e r all h is = omega (arith, h, is)

    many : (after : List Token) → length ws < length (e ++ (r ++ u ∷ after))
    many after = omega (arith, ended_short k.Semicolon (IsWritten geometry) ws e before, length-append e (r ++ u ∷ after), length-append r (u ∷ after))

    count : (after : List Token) → (n : ℕ) × (length (e ++ (r ++ u ∷ after)) ≡ turns ws (suc n))
    count after = enough ws (length (e ++ (r ++ u ∷ after))) (many after)

    at : (f : SchemaFault) (after : List Token) → tables_from geometry (turns ws (suc (count after).0)) [] (e ++ (r ++ u ∷ after)) ≡ Err f → schema geometry (e ++ (r ++ u ∷ after)) ≡ Err f
    at f after is = schema_fault geometry (e ++ (r ++ u ∷ after)) f (ended_goes_on geometry ws e (r ++ u ∷ after) before (begins after))
        (ap (λ n. tables_from geometry n [] (e ++ (r ++ u ∷ after))) (count after).1 ∙ is)

    go : TablesMeet geometry ws [] e → Hit (λ after. schema geometry (e ++ (r ++ u ∷ after)))
    go (inr h) = (h.0, h.1, λ after. at h.0 after (h.2 (suc (count after).0) (r ++ u ∷ after) (begins after)))
    go (inl (now, named, read)) =
        let h = refused now named in
        (h.0, h.1, λ after. at h.0 after (read (suc (count after).0) (r ++ u ∷ after) (begins after) ∙ table_fault geometry (count after).0 now (r ++ u ∷ after) h.0 (h.2 after)))

-- ---- the tokens before a column

-- the tokens from the first table to the parenthesis that opens one
record AreOpened {T : Type 0} (geometry : List ℕ → Option T) (ws : List (Written T)) (name : List ℕ) (used : List Token) : Type 0 where
  e : List Token
  u1 : Token
  u2 : Token
  u3 : Token
  u4 : Token
  cut : used ≡ e ++ u1 ∷ u2 ∷ u3 ∷ u4 ∷ []
  before : AreEnded (IsToken k.Semicolon) (IsWritten geometry) ws e
  create : IsWordOf (codes "CREATE") u1
  tables : IsWordOf (codes "TABLE") u2
  named : (u3.kind ≡ k.Word) × (name ≡ u3.text)
  left : u4.kind ≡ k.LeftParenthesis

-- what comes before the columns of a table is whole tables with semicolons, CREATE TABLE, a name and a parenthesis
are_opened : {T : Type 0} (geometry : List ℕ → Option T) (ws : List (Written T)) (name : List ℕ) (used : List Token) → BeforeColumns geometry ws name used → AreOpened geometry ws name used
are_opened geometry ws name used (x, y, exy, (e, c, ec, before, create), rest) =
    let (u1, u2, e12, w1, w2) = two_only (IsWordOf (codes "CREATE")) (IsWordOf (codes "TABLE")) c create in
    let (u3, u4, e34, named, left) = two_only (λ t. (t.kind ≡ k.Word) × (name ≡ t.text)) (λ t. t.kind ≡ k.LeftParenthesis) y rest in
    record {
      e = e;
      u1 = u1;
      u2 = u2;
      u3 = u3;
      u4 = u4;
      cut = exy ∙ ap (λ l. l ++ y) (ec ∙ ap (λ l. e ++ l) e12) ∙ append_assoc e (u1 ∷ u2 ∷ []) y ∙ ap (λ l. e ++ u1 ∷ u2 ∷ l) e34;
      before = before;
      create = w1;
      tables = w2;
      named = named;
      left = left;
    }

-- where a word comes next the end doesn't
word_goes_on : (u : Token) (ts : List Token) → u.kind ≡ k.Word → sees k.End (u ∷ ts) ≡ false
unfolding sees kind same_kind
word_goes_on u ts e = rw e refl

-- a table that is opened is refused for its name, or for what is inside
inside_stops : {T : Type 0} (geometry : List ℕ → Option T) (ws : List (Written T)) (name : List ℕ) (x b : List Token) (u : Token) → BeforeColumns geometry ws name x → AsciiWords x
    → ((now : List (TableDef T)) (u1 u2 u3 u4 : Token) → IsOpened now u1 u2 u3 u4 → nat_le 16 (length now) ≡ false → has_table now u3.text ≡ false
    → Hit (λ after. table geometry now (u1 ∷ u2 ∷ u3 ∷ u4 ∷ (b ++ u ∷ after))))
    → Hit (λ after. schema geometry ((x ++ b) ++ u ∷ after))
inside_stops {T = T} geometry ws name x b u opened words inside = joined (stops geometry ws o.e (o.u1 ∷ o.u2 ∷ o.u3 ∷ o.u4 ∷ b) u o.before (words_before o.e _ split_words)
    (λ after. word_goes_on o.u1 (o.u2 ∷ o.u3 ∷ o.u4 ∷ (b ++ u ∷ after)) o.create.0) (λ now named. refused now (name_met (nat_le 16 (length now)) (has_table now o.u3.text) o.u3 o.named.0 ascii)))
  where
    o : AreOpened geometry ws name x
    o = are_opened geometry ws name x opened

    split_words : AsciiWords (o.e ++ o.u1 ∷ o.u2 ∷ o.u3 ∷ o.u4 ∷ [])
    split_words = subst AsciiWords o.cut words

    ascii : is_ascii o.u3.text ≡ true
    ascii = (words_behind o.e (o.u1 ∷ o.u2 ∷ o.u3 ∷ o.u4 ∷ []) split_words).1.1.0 o.named.0

    refused : (now : List (TableDef T)) → ((nat_le 16 (length now) ≡ false) × (has_table now o.u3.text ≡ false)) ⊎ Hit (λ ts. new_name (nat_le 16 (length now)) (has_table now o.u3.text) (o.u3 ∷ ts))
        → Hit (λ after. table geometry now (o.u1 ∷ o.u2 ∷ o.u3 ∷ o.u4 ∷ (b ++ u ∷ after)))
    refused now (inr h) = (h.0, h.1, λ after. table_unnamed geometry now o.u1 o.u2 o.u3 (o.u4 ∷ (b ++ u ∷ after)) h.0 o.create o.tables (h.2 (o.u4 ∷ (b ++ u ∷ after))))
    refused now (inl fresh) = inside now o.u1 o.u2 o.u3 o.u4 (record { create = o.create; tables = o.tables; word = o.named.0; ascii = ascii; left = o.left }) fresh.0 fresh.1

    joined : Hit (λ after. schema geometry (o.e ++ (o.u1 ∷ o.u2 ∷ o.u3 ∷ o.u4 ∷ (b ++ u ∷ after)))) → Hit (λ after. schema geometry ((x ++ b) ++ u ∷ after))
    joined h = (h.0, h.1, λ after. ap (schema geometry) (append_assoc x b (u ∷ after) ∙ ap (λ l. l ++ (b ++ u ∷ after)) o.cut ∙ append_assoc o.e (o.u1 ∷ o.u2 ∷ o.u3 ∷ o.u4 ∷ []) (b ++ u ∷ after)) ∙ h.2 after)

-- columns are read up to one that is refused: so is the table
columns_stop : {T : Type 0} (geometry : List ℕ → Option T) (m : List (Marked T)) (b v : List Token) (u : Token) → AreEnded (IsToken k.Comma) (IsColumn geometry) m b → AsciiWords b
    → Hit (λ after. column geometry (firsts m) (has_key m) (v ++ u ∷ after)) → Hit (λ after. columns geometry ((b ++ v) ++ u ∷ after))
columns_stop {T = T} geometry m b v u before words refused = go (ended_met geometry m [] None b before words)
  where
    many : (after : List Token) → length m < length ((b ++ v) ++ u ∷ after)
    many after = omega (arith, ended_short k.Comma (IsColumn geometry) m b before, length-append (b ++ v) (u ∷ after), length-append b v)

    count : (after : List Token) → (n : ℕ) × (length ((b ++ v) ++ u ∷ after) ≡ turns m (suc n))
    count after = enough m (length ((b ++ v) ++ u ∷ after)) (many after)

    at : (f : SchemaFault) (after : List Token) → columns_from geometry (turns m (suc (count after).0)) [] None (b ++ (v ++ u ∷ after)) ≡ Err f → columns geometry ((b ++ v) ++ u ∷ after) ≡ Err f
    at f after is = ap (λ n. columns_from geometry n [] None ((b ++ v) ++ u ∷ after)) (count after).1
        ∙ ap (columns_from geometry (turns m (suc (count after).0)) [] None) (append_assoc b v (u ∷ after)) ∙ is

    go : EndedMeet geometry m [] None b → Hit (λ after. columns geometry ((b ++ v) ++ u ∷ after))
    go (inr h) = (h.0, h.1, λ after. at h.0 after (h.2 (suc (count after).0) (v ++ u ∷ after)))
    go (inl (known, there, read)) = (
      refused.0,
      refused.1,
      λ after. at refused.0 after (read (suc (count after).0) (v ++ u ∷ after)
          ∙ column_fault geometry (count after).0 (firsts m) known (v ++ u ∷ after) refused.0 (ap (λ has. column geometry (firsts m) has (v ++ u ∷ after)) there ∙ refused.2 after)),
    )

-- so where a column is refused behind those before it, the schema is
column_stops : {T : Type 0} (geometry : List ℕ → Option T) (ws : List (Written T)) (name : List ℕ) (m : List (Marked T)) (before v : List Token) (u : Token) → BeforeColumn geometry ws name m before
    → AsciiWords before → Hit (λ after. column geometry (firsts m) (has_key m) (v ++ u ∷ after)) → Hit (λ after. schema geometry ((before ++ v) ++ u ∷ after))
column_stops {T = T} geometry ws name m before v u (x, b, e, opened, ended) words refused = joined (inside_stops geometry ws name x (b ++ v) u opened (words_before x b ascii) inside)
  where
    ascii : AsciiWords (x ++ b)
    ascii = subst AsciiWords e words

    inner : Hit (λ after. columns geometry ((b ++ v) ++ u ∷ after))
    inner = columns_stop geometry m b v u ended (words_behind x b ascii) refused

    inside : (now : List (TableDef T)) (u1 u2 u3 u4 : Token) → IsOpened now u1 u2 u3 u4 → nat_le 16 (length now) ≡ false → has_table now u3.text ≡ false
        → Hit (λ after. table geometry now (u1 ∷ u2 ∷ u3 ∷ u4 ∷ ((b ++ v) ++ u ∷ after)))
    inside now u1 u2 u3 u4 is room fresh = (inner.0, inner.1, λ after. table_uncolumned geometry now u1 u2 u3 u4 ((b ++ v) ++ u ∷ after) inner.0 is room fresh (inner.2 after))

    joined : Hit (λ after. schema geometry ((x ++ (b ++ v)) ++ u ∷ after)) → Hit (λ after. schema geometry ((before ++ v) ++ u ∷ after))
    joined h = (h.0, h.1, λ after. ap (λ l. schema geometry (l ++ u ∷ after)) (ap (λ l. l ++ v) e ∙ append_assoc x b v) ∙ h.2 after)

-- ---- each refusal

-- the word behind some tokens is ASCII where all their words are
word_ascii : (before : List Token) (u : Token) → AsciiWords (before ++ u ∷ []) → u.kind ≡ k.Word → is_ascii u.text ≡ true
word_ascii before u words word = (words_behind before (u ∷ []) words).0 word

-- tables of the same names are as many
length-named : {T : Type 0} (now : List (TableDef T)) (ws : List (Written T)) → names now ≡ written ws → length now ≡ length ws
length-named now ws e = sym (size (λ t. t.name) now) ∙ ap length e ∙ size (λ w. w.0) ws
  where
    size : {A B : Type 0} (f : A → B) (xs : List A) → length (map f xs) ≡ length xs
    size f [] = refl
    size f (x ∷ xs) = ap suc (size f xs)

length-firsts : {T : Type 0} (m : List (Marked T)) → length (firsts m) ≡ length m
length-firsts [] = refl
length-firsts (x ∷ m) = ap suc (length-firsts m)

-- a name that is among those of the tables is one that a table has
table_taken : {T : Type 0} (now : List (TableDef T)) (t : Token) → is_among t (names now) ≡ true → has_table now t.text ≡ true
table_taken [] t h = h
table_taken (x ∷ now) t h = or_weaker (same_name x.name t.text) (is_among t (names now)) (has_table now t.text) (table_taken now t) h

-- a name that is among those of the columns, as they are written, is one that a column has
column_taken : {T : Type 0} (m : List (Marked T)) (t : Token) → is_among t (names_of m) ≡ true → has_column (firsts m) t.text ≡ true
column_taken [] t h = h
column_taken (c ∷ m) t h = or_weaker (same_name c.0.name t.text) (is_among t (names_of m)) (has_column (firsts m) t.text) (column_taken m t) h

-- the name of a table is refused
table_name_stops : {T : Type 0} (geometry : List ℕ → Option T) (ws : List (Written T)) (before : List Token) (u : Token) → BeforeTable geometry ws before → AsciiWords (before ++ u ∷ []) → u.kind ≡ k.Word
    → ((now : List (TableDef T)) → names now ≡ written ws → (nat_le 16 (length now) ≡ true) ⊎ (has_table now u.text ≡ true)) → Hit (λ after. schema geometry (before ++ u ∷ after))
table_name_stops {T = T} geometry ws before u (e, c, ec, ended, create) words word why =
    let (u1, u2, e12, w1, w2) = two_only (IsWordOf (codes "CREATE")) (IsWordOf (codes "TABLE")) c create in
    let cut : before ≡ e ++ u1 ∷ u2 ∷ [] = ec ∙ ap (λ l. e ++ l) e12 in
    let ascii : AsciiWords e = words_before e (u1 ∷ u2 ∷ []) (subst AsciiWords cut (words_before before (u ∷ []) words)) in
    joined u1 u2 cut (stops geometry ws e (u1 ∷ u2 ∷ []) u ended ascii (λ after. word_goes_on u1 (u2 ∷ u ∷ after) w1.0)
    (λ now named. refused now u1 u2 w1 w2 (name_hit (nat_le 16 (length now)) (has_table now u.text) u word (word_ascii before u words word) (why now named))))
  where
    refused : (now : List (TableDef T)) (u1 u2 : Token) → IsWordOf (codes "CREATE") u1 → IsWordOf (codes "TABLE") u2 → Hit (λ ts. new_name (nat_le 16 (length now)) (has_table now u.text) (u ∷ ts))
        → Hit (λ after. table geometry now (u1 ∷ u2 ∷ u ∷ after))
    refused now u1 u2 w1 w2 h = (h.0, h.1, λ after. table_unnamed geometry now u1 u2 u after h.0 w1 w2 (h.2 after))

    joined : (u1 u2 : Token) → before ≡ e ++ u1 ∷ u2 ∷ [] → Hit (λ after. schema geometry (e ++ (u1 ∷ u2 ∷ u ∷ after))) → Hit (λ after. schema geometry (before ++ u ∷ after))
    joined u1 u2 cut h = (h.0, h.1, λ after. ap (schema geometry) (ap (λ l. l ++ u ∷ after) cut ∙ append_assoc e (u1 ∷ u2 ∷ []) (u ∷ after)) ∙ h.2 after)

-- the name of a column is refused
column_name_stops : {T : Type 0} (geometry : List ℕ → Option T) (ws : List (Written T)) (name : List ℕ) (m : List (Marked T)) (before : List Token) (u : Token) → BeforeColumn geometry ws name m before
    → AsciiWords (before ++ u ∷ []) → u.kind ≡ k.Word → (nat_le 32 (length (firsts m)) ≡ true) ⊎ (has_column (firsts m) u.text ≡ true) → Hit (λ after. schema geometry (before ++ u ∷ after))
column_name_stops geometry ws name m before u p words word why =
    let h = name_hit (nat_le 32 (length (firsts m))) (has_column (firsts m) u.text) u word (word_ascii before u words word) why in
    let s = column_stops geometry ws name m before [] u p (words_before before (u ∷ []) words)
    (h.0, h.1, λ after. column_unnamed geometry (firsts m) (has_key m) u after h.0 (h.2 after)) in
    (s.0, s.1, λ after. ap (λ l. schema geometry (l ++ u ∷ after)) (sym (append-nil before)) ∙ s.2 after)

-- the marks before PRIMARY
nulls_twice : {T : Type 0} (type : ColumnType T) (not_null : Bool) (d : List Token) (u : Token) → IsMark not_null IsNotNull d → IsWordOf (codes "PRIMARY") u → is_integer type ≡ true
    → (after : List Token) → marks true type (d ++ u ∷ after) ≡ Err (fault.TwoKeys u.at)
nulls_twice type true d u p primary whole after =
    let (m, n, e, isnt, null) = two_only (λ t. t.kind ≡ k.Not) (λ t. t.kind ≡ k.Null) d p in
    ap (λ l. marks true type (l ++ u ∷ after)) e
    ∙ marks_twice true type true (m ∷ n ∷ u ∷ after) (u ∷ after) (fault.TwoKeys u.at) (null_read m n (u ∷ after) isnt null) (key_twice type u after primary whole)
nulls_twice type false d u none primary whole after =
    ap (λ l. marks true type (l ++ u ∷ after)) none
    ∙ marks_twice true type false (u ∷ after) (u ∷ after) (fault.TwoKeys u.at) (null_absent u after (word_not u.kind primary.0)) (key_twice type u after primary whole)

-- a second PRIMARY on an INTEGER column behind one with PRIMARY KEY stops the reading, whatever follows
second_stops : {T : Type 0} (geometry : List ℕ → Option T) (ws : List (Written T)) (name : List ℕ) (m : List (Marked T)) (col : List ℕ) (type : ColumnType T) (not_null : Bool) (before : List Token) (u : Token)
    → BeforeKey geometry ws name m col type not_null before → AsciiWords (before ++ u ∷ []) → IsWordOf (codes "PRIMARY") u → has_key m ≡ true → is_integer type ≡ true
    → Hit (λ after. schema geometry (before ++ u ∷ after))
second_stops {T = T} geometry ws name m col type not_null before u (x, y, e, p, q) words primary has whole =
    let (v1, d1, e1, named, q1) = one_first (λ t. (t.kind ≡ k.Word) × (col ≡ t.text)) (IsType geometry type ▸ IsMark not_null IsNotNull) y q in
    let (v2, d, e2, typed, nulls) = one_first (λ t. (t.kind ≡ k.Word) × (type_named geometry t.text ≡ Some type)) (IsMark not_null IsNotNull) d1 q1 in
    let cut : before ≡ x ++ (v1 ∷ v2 ∷ d) = e ∙ ap (λ l. x ++ l) (e1 ∙ ap (λ l. v1 ∷ l) e2) in
    let ascii : AsciiWords (x ++ (v1 ∷ v2 ∷ d)) = subst AsciiWords cut (words_before before (u ∷ []) words) in
    let v1_ascii : is_ascii v1.text ≡ true = (words_behind x (v1 ∷ v2 ∷ d) ascii).0 named.0 in
    let s = column_stops geometry ws name m x (v1 ∷ v2 ∷ d) u p (words_before x (v1 ∷ v2 ∷ d) ascii)
    (refused v1 v2 d named.0 v1_ascii typed nulls (name_met (nat_le 32 (length (firsts m))) (has_column (firsts m) v1.text) v1 named.0 v1_ascii)) in
    (s.0, s.1, λ after. ap (λ l. schema geometry (l ++ u ∷ after)) cut ∙ s.2 after)
  where
    refused : (v1 v2 : Token) (d : List Token) → v1.kind ≡ k.Word → is_ascii v1.text ≡ true → (v2.kind ≡ k.Word) × (type_named geometry v2.text ≡ Some type) → IsMark not_null IsNotNull d
        → ((nat_le 32 (length (firsts m)) ≡ false) × (has_column (firsts m) v1.text ≡ false)) ⊎ Hit (λ ts. new_name (nat_le 32 (length (firsts m))) (has_column (firsts m) v1.text) (v1 ∷ ts))
        → Hit (λ after. column geometry (firsts m) (has_key m) (v1 ∷ v2 ∷ (d ++ u ∷ after)))
    refused v1 v2 d word ascii typed nulls (inr h) = (h.0, h.1, λ after. column_unnamed geometry (firsts m) (has_key m) v1 (v2 ∷ (d ++ u ∷ after)) h.0 (h.2 (v2 ∷ (d ++ u ∷ after))))
    refused v1 v2 d word ascii typed nulls (inl fresh) = (
      fault.TwoKeys u.at,
      refl,
      λ after.
          column_unmarked geometry (firsts m) (has_key m) type v1 v2 (d ++ u ∷ after) (fault.TwoKeys u.at) word ascii fresh.0 fresh.1 typed.0 typed.1
          (ap (λ b. marks b type (d ++ u ∷ after)) has ∙ nulls_twice type not_null d u nulls primary whole after),
    )

-- a table is closed without a key
close_stops : {T : Type 0} (geometry : List ℕ → Option T) (ws : List (Written T)) (name : List ℕ) (first : Marked T) (more : List (Marked T)) (before : List Token) (u : Token)
    → BeforeClose geometry ws name first more before → AsciiWords (before ++ u ∷ []) → u.kind ≡ k.RightParenthesis → has_key (first ∷ more) ≡ false → Hit (λ after. schema geometry (before ++ u ∷ after))
close_stops {T = T} geometry ws name first more before u (x, b, e, opened, parts) words right none =
    let s = inside_stops geometry ws name x b u opened (words_before x b ascii) (λ now u1 u2 u3 u4 is room fresh. refused now u1 u2 u3 u4 is room fresh (body_met geometry first more b u parts (words_behind x b ascii) right)) in
    (s.0, s.1, λ after. ap (λ l. schema geometry (l ++ u ∷ after)) e ∙ s.2 after)
  where
    ascii : AsciiWords (x ++ b)
    ascii = subst AsciiWords e (words_before before (u ∷ []) words)

    refused : (now : List (TableDef T)) (u1 u2 u3 u4 : Token) → IsOpened now u1 u2 u3 u4 → nat_le 16 (length now) ≡ false → has_table now u3.text ≡ false
        → ((known : Option ℕ) × (is_there known ≡ has_key (first ∷ more)) × ((tail : List Token) → columns geometry (b ++ u ∷ tail) ≡ Ok ((firsts (first ∷ more), known), u ∷ tail)))
        ⊎ Hit (λ tail. columns geometry (b ++ u ∷ tail))
        → Hit (λ after. table geometry now (u1 ∷ u2 ∷ u3 ∷ u4 ∷ (b ++ u ∷ after)))
    refused now u1 u2 u3 u4 is room fresh (inr h) = (h.0, h.1, λ after. table_uncolumned geometry now u1 u2 u3 u4 (b ++ u ∷ after) h.0 is room fresh (h.2 after))
    refused now u1 u2 u3 u4 is room fresh (inl (Some key, there, read)) = absurd (false≢true (sym (there ∙ none)))
    refused now u1 u2 u3 u4 is room fresh (inl (None, there, read)) =
        (fault.NoKey u.at, refl, λ after. table_unkeyed geometry now (firsts (first ∷ more)) u1 u2 u3 u4 (b ++ u ∷ after) u after is room fresh (read after) right)

-- where a fault applies at a token, one is returned, whatever follows the token
pub applies_stops : {T : Type 0} (geometry : List ℕ → Option T) (before : List Token) (u : Token) (g : SchemaFault) → AppliesAt geometry before u g → AsciiWords (before ++ u ∷ [])
    → Hit (λ after. schema geometry (before ++ u ∷ after))
applies_stops geometry before u (fault.TooMany at) (is, (word, ws, inl (full, p))) words =
    table_name_stops geometry ws before u p words word (λ now e. inl (le-leb 16 (length now) (subst (λ n. 16 ≤ n) (sym (length-named now ws e ∙ full)) (omega arith))))
applies_stops geometry before u (fault.TooMany at) (is, (word, ws, inr (name, m, full, p))) words =
    column_name_stops geometry ws name m before u p words word (inl (le-leb 32 (length (firsts m)) (subst (λ n. 32 ≤ n) (sym (length-firsts m ∙ full)) (omega arith))))
applies_stops geometry before u (fault.DoubleName at) (is, (word, ws, inl (room, taken, p))) words =
    table_name_stops geometry ws before u p words word (λ now e. inr (table_taken now u (ap (is_among u) e ∙ taken)))
applies_stops geometry before u (fault.DoubleName at) (is, (word, ws, inr (name, m, room, taken, p))) words =
    column_name_stops geometry ws name m before u p words word (inr (column_taken m u taken))
applies_stops geometry before u (fault.TwoKeys at) (is, (word, primary, ws, name, m, has, col, type, not_null, whole, p)) words =
    second_stops geometry ws name m col type not_null before u p words (word, primary) has whole
applies_stops geometry before u (fault.NoKey at) (is, (right, ws, name, first, more, none, p)) words = close_stops geometry ws name first more before u p words right none
applies_stops geometry before u (fault.Syntax at) h words = absurd h
applies_stops geometry before u fault.TooLong h words = absurd h
applies_stops geometry before u fault.OutOfMemory h words = absurd h

-- ---- texts

-- what the tokens of a text that isn't too long are refused for, the text is refused for
fault_given : {T : Type 0} (geometry : List ℕ → Option T) (text : List ℕ) (ts : List Token) (f : SchemaFault) → length text ≤ most_bytes → tokens false text ≡ ts → schema geometry ts ≡ Err f
    → schema_of geometry text ≡ Err f
unfolding schema_of
fault_given geometry text ts f short e h = rw (le-ltb most_bytes (length text) short, e, h) refl

-- where a fault applies at a token of a text, one that applies there or before is given
pub first_is_given : {T : Type 0} (geometry : List ℕ → Option T) (text : List ℕ) (r : Result (List (TableDef T)) SchemaFault) → Gives fault.OutOfMemory (λ t. t) r (schema_of geometry text)
    → ReturnsFirst geometry text r
first_is_given geometry text r given before after t g short cut applies =
    let words : AsciiWords (before ++ t ∷ after) = subst AsciiWords cut (tokens_ascii false text) in
    let front : AsciiWords (before ++ t ∷ []) = words_before (before ++ t ∷ []) after (subst AsciiWords (sym (append_assoc before (t ∷ []) after)) words) in
    let h = applies_stops geometry before t g applies front in (
      h.0,
      h.1,
      subst (λ r. Answers r Anything (AppliesIn geometry (before ++ t ∷ []))) (h.2 []) (schema_returns geometry (before ++ t ∷ [])) h.1,
      subst (λ answer. Gives fault.OutOfMemory (λ t. t) r answer) (fault_given geometry text (before ++ t ∷ after) h.0 short cut (h.2 after)) given,
    )

-- any answer is given as itself
given_itself : {A : Type 0} (r : Result A SchemaFault) → Gives fault.OutOfMemory (λ x. x) r r
given_itself (Ok x) = refl
given_itself (Err f) = λ _. refl

-- where a fault applies at a token of a text, one that applies there or before is read
pub first_is_read : {T : Type 0} (geometry : List ℕ → Option T) (text : List ℕ) → ReturnsFirst geometry text (schema_of geometry text)
first_is_read geometry text = first_is_given geometry text (schema_of geometry text) (given_itself (schema_of geometry text))
