-- What the readers of a schema read is in its grammar.
use Rattle.std.proofs.Common.{◌≡◌, ◌⊎◌, ◌+◌, ◌&&◌, ◌||◌, not, ℕ, zero, suc, Bool, true, false, if◌then◌else◌, List, [], ◌∷◌, ◌++◌, length, map, Option, Some, None, inl, inr, refl, sym, ap, subst, ◌∙◌, append_assoc, arith}
use Rattle.std.specs.Option.{option_to_list}
use Rattle.grammar_laws.proofs.QuerySound.{EndsOnce, ends_left, all_taken}
use Rattle.grammar_laws.proofs.TokenReaders.{IfRead, Took, then_read, if_read, map_read, eaten, same, one, seq, but, expect_taken}
use Rattle.std.specs.Prelude.{nat_le, codes}
use Rattle.std.proofs.lemmas.Bool.{and_parts, false≢true, not-false}
use Rattle.table_model.specs.Definitions.{most_columns, is_integer}
use Rattle.table_model.specs.Parsers.{kind, place, spelling, next, sees, after, and_then, ◌>>=◌, pure, expect}
use Rattle.table_model.specs.SchemaGrammar.{IsNamed, IsType, IsNotNull, IsPrimaryKey, IsMark, AreMarks, Marked, IsMarked, key_places, IsTable, AreTables}
use Rattle.table_model.specs.SchemaReading.{sees_word, expect_word, sees_name, new_name, type_named, type_or, column_type, null_mark, key_mark, marks, has_column, column, is_there, key_after, columns_from, columns, closed, close, table_name, table, goes_on, tables_from, all_tables, schema}
use Rattle.table_model.specs.declared.definitions.ColumnType.{ColumnType}
use Rattle.table_model.specs.declared.definitions.ColumnDef.{ColumnDef}
use Rattle.table_model.specs.declared.definitions.TableDef.{TableDef}
use Rattle.table_model.specs.declared.faults.SchemaFault.TheVariants as fault
use Rattle.table_model.specs.declared.tokens.Token.{Token}
use Rattle.table_model.specs.declared.tokens.TokenKind.{TokenKind}
use Rattle.table_model.specs.declared.tokens.TokenKind.TheVariants as k
use Rattle.table_model.specs.Phrases.{Phrase, IsToken, ◌▸◌, IsOptional, IsParts, IsWord}

-- ---- what was taken

-- nothing was taken before
pub skip : (P : Phrase) (ts mid rest : List Token) → Took ts (λ used. used ≡ []) mid → Took mid P rest → Took ts P rest
skip P ts mid rest p q = (q.0, p.1 ∙ ap (λ u. u ++ mid) p.2 ∙ q.1, q.2)

-- where a reader asks for one token, a token of its kind was taken
expect_sound : (wanted : TokenKind) → (k.Bad ≡ wanted → ⊥) → (ts : List Token) → IfRead (expect fault.Syntax wanted ts) (λ x rest. Took ts (IsToken wanted) rest)
expect_sound wanted good ts = expect_taken fault.Syntax wanted ts good

-- ---- words and names

-- the next token that is this word in any ASCII case is a phrase of one
pub word_taken : (word : List ℕ) (ts : List Token) → sees_word word ts ≡ true → Took ts (IsWord word) (next ts)
unfolding sees kind next spelling
word_taken word [] h = absurd (let e = same k.Bad k.Word (and_parts _ _ h).0 in cc)
word_taken word (t ∷ ts) h = (t ∷ [], refl, (same t.kind k.Word (and_parts _ _ h).0, (and_parts _ _ h).1))

-- so where a reader asks for the word, it was taken
expect_word_sound : (word : List ℕ) (ts : List Token) → IfRead (expect_word word ts) (λ x rest. Took ts (IsWord word) rest)
unfolding expect_word
expect_word_sound word ts = if_read (sees_word word ts) _ _ (λ x rest. Took ts (IsWord word) rest) (λ h. word_taken word ts h) (λ _. tt)

-- the next token that is a word is a name, by its text
pub named_taken : (ts : List Token) → sees k.Word ts ≡ true → Took ts (IsNamed (spelling ts)) (next ts)
unfolding sees kind next spelling
named_taken [] h = absurd (let e = same k.Bad k.Word h in cc)
named_taken (t ∷ ts) h = (t ∷ [], refl, (same t.kind k.Word h, refl))

-- a new name is a word; whether there is room and whether it is taken only refuses
new_name_sound : (full taken : Bool) (ts : List Token) → IfRead (new_name full taken ts) (λ name rest. Took ts (IsNamed name) rest)
unfolding new_name
new_name_sound full taken ts =
    if_read (not (sees_name ts)) _ _ (λ name rest. Took ts (IsNamed name) rest) (λ _. tt)
    (λ h. if_read full _ _ (λ name rest. Took ts (IsNamed name) rest) (λ _. tt)
    (λ _. if_read taken _ _ (λ name rest. Took ts (IsNamed name) rest) (λ _. tt) (λ _. named_taken ts (and_parts _ _ (not-false _ h)).0)))

-- ---- columns

-- a word that names a type is that type
type_taken : {T : Type 0} (geometry : List ℕ → Option T) (ts : List Token) (o : Option (ColumnType T)) → sees k.Word ts ≡ true → type_named geometry (spelling ts) ≡ o
    → IfRead (type_or o (place ts) (next ts)) (λ type rest. Took ts (IsType geometry type) rest)
unfolding sees kind next spelling
type_taken geometry ts None h e = tt
type_taken geometry [] (Some type) h e = absurd (let bad = same k.Bad k.Word h in cc)
type_taken geometry (t ∷ ts) (Some type) h e = (t ∷ [], refl, (same t.kind k.Word h, e))

-- a type is one word that names it, or it is refused
column_type_sound : {T : Type 0} (geometry : List ℕ → Option T) (ts : List Token) → IfRead (column_type geometry ts) (λ type rest. Took ts (IsType geometry type) rest)
unfolding column_type
column_type_sound geometry ts =
    if_read (sees k.Word ts) _ _ (λ type rest. Took ts (IsType geometry type) rest) (λ h. type_taken geometry ts _ h refl) (λ _. tt)

-- behind NOT is NULL; where NOT isn't there, nothing is taken
null_mark_sound : (ts : List Token) → IfRead (null_mark ts) (λ b rest. Took ts (IsMark b IsNotNull) rest)
unfolding null_mark
null_mark_sound ts = eaten k.Not ts _ _ (λ b rest. Took ts (IsMark b IsNotNull) rest)
    (λ h. then_read (expect fault.Syntax k.Null (next ts)) _ (λ x rest. Took (next ts) (IsToken k.Null) rest) (λ b rest. Took ts (IsMark b IsNotNull) rest)
    (λ x rest took. seq (IsToken k.Not) (IsToken k.Null) ts (next ts) rest (one k.Not ts (λ e. cc) h) took)
    (expect_sound k.Null (λ e. cc) (next ts)))
    (λ _. ([], refl, refl))

-- PRIMARY KEY, or nothing; and nothing in a table that has a key
abbrev KeyTook : Bool → List Token → Bool → List Token → Type 0
KeyTook has_key ts b rest = (has_key ≡ true → b ≡ false) × Took ts (IsMark b IsPrimaryKey) rest

-- behind PRIMARY is KEY; in a table with a key PRIMARY is refused, so none is there
key_mark_sound : {T : Type 0} (has_key : Bool) (type : ColumnType T) (ts : List Token) → IfRead (key_mark has_key type ts) (KeyTook has_key ts)
unfolding key_mark
key_mark_sound has_key type ts =
    if_read (not (sees_word (codes "PRIMARY") ts)) _ _ (KeyTook has_key ts) (λ _. (λ _. refl, ([], refl, refl)))
    (λ h. if_read (not (is_integer type)) _ _ (KeyTook has_key ts) (λ _. tt)
    (λ _. if_read has_key _ _ (KeyTook has_key ts) (λ _. tt)
    (λ none. then_read (expect_word (codes "KEY") (next ts)) _ (λ x rest. Took (next ts) (IsWord (codes "KEY")) rest) (KeyTook has_key ts)
    (λ x rest took. (
      λ has. absurd (false≢true (sym none ∙ has)),
      seq (IsWord (codes "PRIMARY")) (IsWord (codes "KEY")) ts (next ts) rest (word_taken (codes "PRIMARY") ts (not-false _ h)) took,
    ))
    (expect_word_sound (codes "KEY") (next ts)))))

abbrev MarksTook : Bool → List Token → Bool × Bool → List Token → Type 0
MarksTook has_key ts m rest = (has_key ≡ true → m.1 ≡ false) × Took ts (AreMarks m.0 m.1) rest

-- the marks from the key's on
marks_from : {T : Type 0} (has_key : Bool) (type : ColumnType T) (ts : List Token) (before : Bool) (mid : List Token) → Took ts (IsMark before IsNotNull) mid
    → IfRead (and_then (key_mark has_key type mid) (λ is_key. (if before then pure false else null_mark) >>= (λ behind. pure (before || behind, is_key)))) (MarksTook has_key ts)
marks_from has_key type ts true mid took =
    then_read (key_mark has_key type mid) _ (KeyTook has_key mid) (MarksTook has_key ts)
    (λ is_key rest key. (key.0, but _ (AreMarks true is_key) ts rest (seq IsNotNull (IsMark is_key IsPrimaryKey) ts mid rest took key.1) (λ used p. inl p)))
    (key_mark_sound has_key type mid)
marks_from has_key type ts false mid took =
    then_read (key_mark has_key type mid) _ (KeyTook has_key mid) (MarksTook has_key ts)
    (λ is_key mid2 key. then_read (null_mark mid2) _ (λ b rest. Took mid2 (IsMark b IsNotNull) rest) (MarksTook has_key ts)
    (λ behind rest took2. (
      key.0,
      skip (AreMarks behind is_key) ts mid rest took
          (but _ (AreMarks behind is_key) mid rest (seq (IsMark is_key IsPrimaryKey) (IsMark behind IsNotNull) mid mid2 rest key.1 took2) (λ used p. inr p)),
    ))
    (null_mark_sound mid2))
    (key_mark_sound has_key type mid)

-- the marks are in one of the two orders, each at most once: NOT NULL is asked for in front and, where none was, behind
marks_sound : {T : Type 0} (has_key : Bool) (type : ColumnType T) (ts : List Token) → IfRead (marks has_key type ts) (MarksTook has_key ts)
unfolding marks
marks_sound has_key type ts =
    then_read (null_mark ts) _ (λ b rest. Took ts (IsMark b IsNotNull) rest) (MarksTook has_key ts)
    (λ before mid took. marks_from has_key type ts before mid took)
    (null_mark_sound ts)

abbrev ColumnTook : {T : Type 0} → (List ℕ → Option T) → Bool → List Token → Marked T → List Token → Type 0
ColumnTook geometry has_key ts r rest = (has_key ≡ true → r.1 ≡ false) × Took ts (IsMarked geometry r) rest

-- a name, a type and marks were taken one behind the other, which is a column
column_sound : {T : Type 0} (geometry : List ℕ → Option T) (found : List (ColumnDef T)) (has_key : Bool) (ts : List Token) → IfRead (column geometry found has_key ts) (ColumnTook geometry has_key ts)
unfolding column
column_sound geometry found has_key ts =
    then_read (new_name (nat_le most_columns (length found)) (has_column found (spelling ts)) ts) _ (λ name rest. Took ts (IsNamed name) rest) (ColumnTook geometry has_key ts)
    (λ name mid took. then_read (column_type geometry mid) _ (λ type rest. Took mid (IsType geometry type) rest) (ColumnTook geometry has_key ts)
    (λ type mid2 took2. then_read (marks has_key type mid2) _ (MarksTook has_key mid2) (ColumnTook geometry has_key ts)
    (λ m rest took3. (
      took3.0,
      seq (IsNamed name) (IsType geometry type ▸ AreMarks m.0 m.1) ts mid rest took (seq (IsType geometry type) (AreMarks m.0 m.1) mid mid2 rest took2 took3.1),
    ))
    (marks_sound has_key type mid2))
    (column_type_sound geometry mid))
    (new_name_sound (nat_le most_columns (length found)) (has_column found (spelling ts)) ts)

-- ---- the place of the key

keys_under : (b : Bool) (at : ℕ) (before : List ℕ) (last : List ℕ) → (if b then at ∷ (before ++ last) else before ++ last) ≡ (if b then at ∷ before else before) ++ last
keys_under true at before last = refl
keys_under false at before last = refl

-- one more column with PRIMARY KEY
keys-key : {T : Type 0} (at n : ℕ) (m : List (Marked T)) (c : ColumnDef T) → at + length m ≡ n → key_places at (m ++ (c, true) ∷ []) ≡ key_places at m ++ n ∷ []
keys-key at n [] c e = ap (λ p. p ∷ []) (let h : at ≡ n = omega arith in h)
keys-key at n (x ∷ m) c e =
    ap (λ r. if x.1 then at ∷ r else r) (keys-key (at + 1) n m c (omega arith))
    ∙ keys_under x.1 at (key_places (at + 1) m) (n ∷ [])

-- one more column without
keys-plain : {T : Type 0} (at : ℕ) (m : List (Marked T)) (c : ColumnDef T) → key_places at (m ++ (c, false) ∷ []) ≡ key_places at m
keys-plain at [] c = refl
keys-plain at (x ∷ m) c = ap (λ r. if x.1 then at ∷ r else r) (keys-plain (at + 1) m c)

length-firsts : {T : Type 0} (m : List (Marked T)) → length (map (λ c. c.0) m) ≡ length m
length-firsts [] = refl
length-firsts (x ∷ m) = ap suc (length-firsts m)

-- a column with PRIMARY KEY is read only where no key is known
no_key : (key : Option ℕ) → (is_there key ≡ true → true ≡ false) → key ≡ None
no_key None h = refl
no_key (Some at) h = absurd (false≢true (sym (h refl)))

-- the key that is known is that of the marks
key-step : {T : Type 0} (m : List (Marked T)) (key : Option ℕ) (n : ℕ) (c : ColumnDef T) (is_key : Bool) → length m ≡ n → (is_there key ≡ true → is_key ≡ false)
    → key_places 0 m ≡ option_to_list key → key_places 0 (m ++ (c, is_key) ∷ []) ≡ option_to_list (key_after key n is_key)
key-step m key n c true e alone h =
    keys-key 0 n m c (omega arith) ∙ ap (λ ks. ks ++ n ∷ []) (h ∙ ap option_to_list (no_key key alone))
key-step m key n c false e alone h = keys-plain 0 m c ∙ h

-- ---- lists of columns

-- columns were read after some, whose marks are these
abbrev ColumnsTook : {T : Type 0} → (List ℕ → Option T) → List (Marked T) → List Token → List (ColumnDef T) × Option ℕ → List Token → Type 0
ColumnsTook {T} geometry m ts r rest =
    (x : Marked T) × (xs : List (Marked T)) × (r.0 ≡ map (λ c. c.0) (m ++ x ∷ xs)) × (key_places 0 (m ++ x ∷ xs) ≡ option_to_list r.1)
    × Took ts (IsParts k.Comma (IsMarked geometry) x xs) rest

firsts-snoc : {T : Type 0} (m : List (Marked T)) (x : Marked T) → map (λ c. c.0) (m ++ x ∷ []) ≡ map (λ c. c.0) m ++ x.0 ∷ []
firsts-snoc [] x = refl
firsts-snoc (y ∷ m) x = ap (λ r. y.0 ∷ r) (firsts-snoc m x)

-- the columns after one more
columns_more : {T : Type 0} (geometry : List ℕ → Option T) (m : List (Marked T)) (x : Marked T) (ts mid : List Token) (r : List (ColumnDef T) × Option ℕ) (rest : List Token)
    → Took ts (IsMarked geometry x) mid → sees k.Comma mid ≡ true → ColumnsTook geometry (m ++ x ∷ []) (next mid) r rest → ColumnsTook geometry m ts r rest
columns_more geometry m x ts mid r rest took h (y, ys, firsts, keys, more) = (
  x,
  y ∷ ys,
  firsts ∙ ap (map (λ c. c.0)) (append_assoc m (x ∷ []) (y ∷ ys)),
  ap (key_places 0) (sym (append_assoc m (x ∷ []) (y ∷ ys))) ∙ keys,
  seq (IsMarked geometry x) (IsToken k.Comma ▸ IsParts k.Comma (IsMarked geometry) y ys) ts mid rest took
      (seq (IsToken k.Comma) (IsParts k.Comma (IsMarked geometry) y ys) mid (next mid) rest (one k.Comma mid (λ e. cc) h) more),
)

-- columns are read one by one with commas between them, and the place that is kept is that of the one with PRIMARY KEY
columns_sound : {T : Type 0} (geometry : List ℕ → Option T) (n : ℕ) (found : List (ColumnDef T)) (key : Option ℕ) (ts : List Token) (m : List (Marked T))
    → found ≡ map (λ c. c.0) m → key_places 0 m ≡ option_to_list key → IfRead (columns_from geometry n found key ts) (ColumnsTook geometry m ts)
unfolding columns_from
columns_sound geometry zero found key ts m is keys = tt
columns_sound geometry (suc n) found key ts m is keys =
    then_read (column geometry found (is_there key) ts) _ (ColumnTook geometry (is_there key) ts) (ColumnsTook geometry m ts)
    (λ read mid took.
    let count : length m ≡ length found = sym (ap length is ∙ length-firsts m) in
    let firsts : found ++ read.0 ∷ [] ≡ map (λ c. c.0) (m ++ read ∷ []) = ap (λ f. f ++ read.0 ∷ []) is ∙ sym (firsts-snoc m read) in
    let last : key_places 0 (m ++ read ∷ []) ≡ option_to_list (key_after key (length found) read.1) = key-step m key (length found) read.0 read.1 count took.0 keys in
    eaten k.Comma mid _ _ (ColumnsTook geometry m ts)
    (λ h. map_read (columns_from geometry n (found ++ read.0 ∷ []) (key_after key (length found) read.1) (next mid)) (ColumnsTook geometry (m ++ read ∷ []) (next mid)) (ColumnsTook geometry m ts)
    (λ r rest more. columns_more geometry m read ts mid r rest took.1 h more)
    (columns_sound geometry n (found ++ read.0 ∷ []) (key_after key (length found) read.1) (next mid) (m ++ read ∷ []) firsts last))
    (λ _. (read, [], firsts, last, took.1)))
    (column_sound geometry found (is_there key) ts)

-- ---- tables

-- a table is closed with its name, its columns and its key; without a key it is refused
closed_sound : {T : Type 0} (name : List ℕ) (columns : List (ColumnDef T)) (key : Option ℕ) (at : ℕ) (ts : List Token)
    → IfRead (closed name columns key at ts) (λ t rest. (t.name ≡ name) × (t.columns ≡ columns) × (option_to_list key ≡ t.key ∷ []) × (ts ≡ rest))
closed_sound name columns None at ts = tt
closed_sound name columns (Some key) at ts = (refl, refl, refl, refl)

abbrev TableTook : {T : Type 0} → (List ℕ → Option T) → List Token → TableDef T → List Token → Type 0
TableTook geometry ts t rest = Took ts (IsTable geometry t) rest

-- a table from its name on
abbrev BodyTook : {T : Type 0} → (List ℕ → Option T) → List ℕ → List Token → TableDef T → List Token → Type 0
BodyTook {T} geometry name ts t rest =
    (x : Marked T) × (xs : List (Marked T)) × (t.name ≡ name) × (t.columns ≡ map (λ c. c.0) (x ∷ xs)) × (key_places 0 (x ∷ xs) ≡ t.key ∷ [])
    × Took ts (IsParts k.Comma (IsMarked geometry) x xs ▸ IsToken k.RightParenthesis) rest

-- so the columns and the parenthesis behind them are the rest of a table whose one key is known
close_sound : {T : Type 0} (geometry : List ℕ → Option T) (name : List ℕ) (ts mid : List Token) (r : List (ColumnDef T) × Option ℕ) → ColumnsTook geometry [] ts r mid
    → IfRead (close name r mid) (BodyTook geometry name ts)
close_sound geometry name ts mid r (x, xs, firsts, keys, took) =
    then_read (expect fault.Syntax k.RightParenthesis mid) _ (λ u rest. Took mid (IsToken k.RightParenthesis) rest) (BodyTook geometry name ts)
    (λ u rest took2. map_read (closed name r.0 r.1 (place mid) rest) _ (BodyTook geometry name ts)
    (λ t last is. (
      x,
      xs,
      is.0,
      is.1 ∙ firsts,
      keys ∙ is.2,
      subst (λ end. Took ts (IsParts k.Comma (IsMarked geometry) x xs ▸ IsToken k.RightParenthesis) end) is.3
          (seq (IsParts k.Comma (IsMarked geometry) x xs) (IsToken k.RightParenthesis) ts mid rest took took2),
    ))
    (closed_sound name r.0 r.1 (place mid) rest))
    (expect_sound k.RightParenthesis (λ e. cc) mid)

-- a table's name is a word
table_name_sound : {T : Type 0} (found : List (TableDef T)) (ts : List Token) → IfRead (table_name found ts) (λ name rest. Took ts (IsNamed name) rest)
unfolding table_name
table_name_sound found ts = new_name_sound _ _ ts

-- CREATE, TABLE, a name and columns in parentheses were taken one behind the other, which is a table
table_sound : {T : Type 0} (geometry : List ℕ → Option T) (found : List (TableDef T)) (ts : List Token) → IfRead (table geometry found ts) (TableTook geometry ts)
unfolding table
table_sound {T = T} geometry found ts =
    then_read (expect_word (codes "CREATE") ts) _ (λ u rest. Took ts (IsWord (codes "CREATE")) rest) (TableTook geometry ts)
    (λ u1 ts1 took1. then_read (expect_word (codes "TABLE") ts1) _ (λ u rest. Took ts1 (IsWord (codes "TABLE")) rest) (TableTook geometry ts)
    (λ u2 ts2 took2. then_read (table_name found ts2) _ (λ name rest. Took ts2 (IsNamed name) rest) (TableTook geometry ts)
    (λ name ts3 took3. then_read (expect fault.Syntax k.LeftParenthesis ts3) _ (λ u rest. Took ts3 (IsToken k.LeftParenthesis) rest) (TableTook geometry ts)
    (λ u4 ts4 took4. then_read (columns geometry ts4) (close name) (ColumnsTook geometry [] ts4) (TableTook geometry ts)
    (λ r mid took5. map_read (close name r mid) (BodyTook geometry name ts4) (TableTook geometry ts)
    (λ t rest body. whole name t ts1 ts2 ts3 ts4 rest took1 took2 took3 took4 body)
    (close_sound geometry name ts4 mid r took5))
    (columns_sound geometry (length ts4) [] None ts4 [] refl refl))
    (expect_sound k.LeftParenthesis (λ e. cc) ts3))
    (table_name_sound found ts2))
    (expect_word_sound (codes "TABLE") ts1))
    (expect_word_sound (codes "CREATE") ts)
  where
    whole : (name : List ℕ) (t : TableDef T) (ts1 ts2 ts3 ts4 rest : List Token) → Took ts (IsWord (codes "CREATE")) ts1 → Took ts1 (IsWord (codes "TABLE")) ts2
        → Took ts2 (IsNamed name) ts3 → Took ts3 (IsToken k.LeftParenthesis) ts4 → BodyTook geometry name ts4 t rest → TableTook geometry ts t rest
    whole name t ts1 ts2 ts3 ts4 rest took1 took2 took3 took4 (x, xs, named, firsts, keys, took5) =
        let body : Phrase = IsParts k.Comma (IsMarked geometry) x xs ▸ IsToken k.RightParenthesis in
        let named3 : Took ts2 (IsNamed t.name) ts3 = subst (λ n. Took ts2 (IsNamed n) ts3) (sym named) took3 in
        but (IsWord (codes "CREATE") ▸ IsWord (codes "TABLE") ▸ IsNamed t.name ▸ IsToken k.LeftParenthesis ▸ body) (IsTable geometry t) ts rest
        (seq (IsWord (codes "CREATE")) (IsWord (codes "TABLE") ▸ IsNamed t.name ▸ IsToken k.LeftParenthesis ▸ body) ts ts1 rest took1
        (seq (IsWord (codes "TABLE")) (IsNamed t.name ▸ IsToken k.LeftParenthesis ▸ body) ts1 ts2 rest took2
        (seq (IsNamed t.name) (IsToken k.LeftParenthesis ▸ body) ts2 ts3 rest named3
        (seq (IsToken k.LeftParenthesis) body ts3 ts4 rest took4 took5))))
        (λ used p. (x, xs, firsts, keys, p))

-- ---- lists of tables

-- a semicolon or none; and one where tables follow
abbrev IsSeparator : Bool → Phrase
IsSeparator more used = (more ≡ true → IsToken k.Semicolon used) × IsOptional k.Semicolon used

-- a semicolon is taken if one comes next, and tables go on only behind one
goes_on_sound : (ts : List Token) → IfRead (goes_on ts) (λ more rest. Took ts (IsSeparator more) rest)
unfolding goes_on after
goes_on_sound ts = go (sees k.Semicolon ts) refl
  where
    go : (b : Bool) → sees k.Semicolon ts ≡ b → Took ts (IsSeparator (b && not (sees k.End (if b then next ts else ts)))) (if b then next ts else ts)
    go true h = let t = one k.Semicolon ts (λ e. cc) h in (t.0, t.1, ((λ _. t.2), inr t.2))
    go false h = ([], refl, ((λ e. absurd (false≢true e)), inl refl))

abbrev TablesTook : {T : Type 0} → (List ℕ → Option T) → List (TableDef T) → List Token → List (TableDef T) → List Token → Type 0
TablesTook {T} geometry found ts r rest =
    (x : TableDef T) × (xs : List (TableDef T)) × (r ≡ found ++ x ∷ xs) × Took ts (IsParts k.Semicolon (IsTable geometry) x xs ▸ IsOptional k.Semicolon) rest

-- two phrases that were taken together were taken one behind the other
split : (P Q : Phrase) (ts rest : List Token) → Took ts (P ▸ Q) rest → (mid : List Token) × Took ts P mid × Took mid Q rest
split P Q ts rest (used, e, (before, behind, e2, p, q)) =
    (behind ++ rest, (before, e ∙ ap (λ u. u ++ rest) e2 ∙ append_assoc before behind rest, p), (behind, refl, q))

-- the tables after one more
tables_more : {T : Type 0} (geometry : List ℕ → Option T) (found : List (TableDef T)) (read : TableDef T) (ts mid mid2 : List Token) (r : List (TableDef T)) (rest : List Token)
    → TableTook geometry ts read mid → Took mid (IsToken k.Semicolon) mid2 → TablesTook geometry (found ++ read ∷ []) mid2 r rest → TablesTook geometry found ts r rest
tables_more geometry found read ts mid mid2 r rest took semicolon (x, xs, e, more) =
    let parts : Phrase = IsParts k.Semicolon (IsTable geometry) x xs in
    let (end, first, last) = split parts (IsOptional k.Semicolon) mid2 rest more in (
      read,
      x ∷ xs,
      e ∙ append_assoc found (read ∷ []) (x ∷ xs),
      seq (IsTable geometry read ▸ IsToken k.Semicolon ▸ parts) (IsOptional k.Semicolon) ts end rest
          (seq (IsTable geometry read) (IsToken k.Semicolon ▸ parts) ts mid end took (seq (IsToken k.Semicolon) parts mid mid2 end semicolon first))
          last,
    )

-- further tables come after a semicolon; behind the last one there may be a semicolon or none
tables_then : {T : Type 0} (geometry : List ℕ → Option T) (n : ℕ) (found : List (TableDef T)) (read : TableDef T) (more : Bool) (ts mid mid2 : List Token)
    → TableTook geometry ts read mid → Took mid (IsSeparator more) mid2
    → IfRead (tables_from geometry n (found ++ read ∷ []) mid2) (TablesTook geometry (found ++ read ∷ []) mid2)
    → IfRead ((if more then tables_from geometry n (found ++ read ∷ []) else pure (found ++ read ∷ [])) mid2) (TablesTook geometry found ts)
tables_then geometry n found read true ts mid mid2 took sep h =
    map_read (tables_from geometry n (found ++ read ∷ []) mid2) (TablesTook geometry (found ++ read ∷ []) mid2) (TablesTook geometry found ts)
    (λ r rest all. tables_more geometry found read ts mid mid2 r rest took (but (IsSeparator true) (IsToken k.Semicolon) mid mid2 sep (λ used p. p.0 refl)) all)
    h
tables_then geometry n found read false ts mid mid2 took sep h =
    (read, [], refl, seq (IsTable geometry read) (IsOptional k.Semicolon) ts mid mid2 took (but (IsSeparator false) (IsOptional k.Semicolon) mid mid2 sep (λ used p. p.1)))

-- tables are read one by one with semicolons between them
tables_sound : {T : Type 0} (geometry : List ℕ → Option T) (n : ℕ) (found : List (TableDef T)) (ts : List Token) → IfRead (tables_from geometry n found ts) (TablesTook geometry found ts)
unfolding tables_from
tables_sound geometry zero found ts = tt
tables_sound geometry (suc n) found ts =
    then_read (table geometry found ts) _ (TableTook geometry ts) (TablesTook geometry found ts)
    (λ read mid took. then_read (goes_on mid) _ (λ more rest. Took mid (IsSeparator more) rest) (TablesTook geometry found ts)
    (λ more mid2 sep. tables_then geometry n found read more ts mid mid2 took sep (tables_sound geometry n (found ++ read ∷ []) mid2))
    (goes_on_sound mid))
    (table_sound geometry found ts)

-- no table, before the end; or some
abbrev AllTook : {T : Type 0} → (List ℕ → Option T) → List Token → List (TableDef T) → List Token → Type 0
AllTook geometry ts r rest = ((r ≡ []) × (ts ≡ rest)) ⊎ TablesTook geometry [] ts r rest

-- at the end no table is read, and else some are
all_tables_sound : {T : Type 0} (geometry : List ℕ → Option T) (ts : List Token) → IfRead (all_tables geometry ts) (AllTook geometry ts)
all_tables_sound geometry ts = if_read (sees k.End ts) _ _ (AllTook geometry ts) (λ _. inl (refl, refl))
    (λ _. map_read (tables_from geometry (length ts) [] ts) (TablesTook geometry [] ts) (AllTook geometry ts) (λ r rest all. inr all) (tables_sound geometry (length ts) [] ts))

-- no table, or some and perhaps a semicolon, with the end behind them: that is a schema
ended : {T : Type 0} (geometry : List ℕ → Option T) (ts mid : List Token) (r : List (TableDef T)) (rest : List Token) → AllTook geometry ts r mid → Took mid (IsToken k.End) rest
    → Took ts (AreTables geometry r) rest
ended geometry ts mid r rest (inl (none, here)) end =
    but (IsToken k.End) (AreTables geometry r) ts rest (subst (λ t. Took t (IsToken k.End) rest) (sym here) end) (λ used p. inl (none, p))
ended geometry ts mid r rest (inr (x, xs, e, took)) end =
    let parts : Phrase = IsParts k.Semicolon (IsTable geometry) x xs in
    let (mid1, first, last) = split parts (IsOptional k.Semicolon) ts mid took in
    but (parts ▸ IsOptional k.Semicolon ▸ IsToken k.End) (AreTables geometry r) ts rest
    (seq parts (IsOptional k.Semicolon ▸ IsToken k.End) ts mid1 rest first (seq (IsOptional k.Semicolon) (IsToken k.End) mid1 mid rest last end))
    (λ used p. inr (x, xs, e, p))

-- End is the last token also of those that the tables leave
ends_all : {T : Type 0} (geometry : List ℕ → Option T) (ts mid : List Token) (r : List (TableDef T)) → EndsOnce ts → AllTook geometry ts r mid → EndsOnce mid
ends_all geometry ts mid r once (inl (none, here)) = subst EndsOnce here once
ends_all geometry ts mid r once (inr (x, xs, e, took)) = ends_left (IsParts k.Semicolon (IsTable geometry) x xs ▸ IsOptional k.Semicolon) ts mid once took

-- where End was taken, nothing is left, as it is the last token
end_taken : (mid rest : List Token) → EndsOnce mid → Took mid (IsToken k.End) rest → rest ≡ []
end_taken mid rest once ([], e, p) = absurd p
end_taken mid rest once (t ∷ [], e, p) = (let both : EndsOnce (t ∷ rest) = subst EndsOnce e once in both).0 p
end_taken mid rest once (t ∷ u ∷ us, e, p) = absurd p

-- the tables of a schema that was read are in the grammar
pub schema_sound : {T : Type 0} (geometry : List ℕ → Option T) (ts : List Token) → EndsOnce ts → IfRead (schema geometry ts) (λ r rest. AreTables geometry r ts)
unfolding schema
schema_sound geometry ts once =
    then_read (all_tables geometry ts) _ (AllTook geometry ts) (λ r rest. AreTables geometry r ts)
    (λ r mid all. then_read (expect fault.Syntax k.End mid) _ (λ u rest. Took mid (IsToken k.End) rest) (λ r rest. AreTables geometry r ts)
    (λ u rest end. all_taken (AreTables geometry r) ts rest (ended geometry ts mid r rest all end) (end_taken mid rest (ends_all geometry ts mid r once all) end))
    (expect_sound k.End (λ e. cc) mid))
    (all_tables_sound geometry ts)
