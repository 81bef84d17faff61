-- A fault at a token that the readers of a schema return applies there.
use Rattle.std.proofs.Common.{◌≡◌, ◌≤◌, ◌<◌, ◌&&◌, ◌||◌, not, ℕ, zero, suc, Bool, true, false, if◌then◌else◌, List, [], ◌∷◌, ◌++◌, length, map, Option, Some, None, Result, Ok, Err, inl, inr, refl, sym, ap, subst, ◌∙◌, append_assoc, length-append, arith}
use Rattle.std.specs.Prelude.{nat_le, nat_lt, codes, IfErr}
use Rattle.std.proofs.lemmas.Bool.{and_parts, false≢true, leb-true, leb-false, not-false}
use Rattle.std.proofs.lemmas.List.{map-append}
use Rattle.std.proofs.lemmas.List.Folds.{list_any-append}
use Rattle.basics.proofs.Bools.{or_weaker}
use Rattle.grammar_laws.proofs.SchemaSound.{skip, word_taken, named_taken}
use Rattle.grammar_laws.proofs.TokenReaders.{Took, one, seq, but, same, ended_more}
use Rattle.table_model.specs.Definitions.{is_integer}
use Rattle.table_model.specs.Outcomes.{Gives}
use Rattle.table_model.specs.Parsers.{Outcome, kind, place, spelling, next, sees, after, and_then, ◌>>=◌, pure, expect, value_of}
use Rattle.table_model.specs.SchemaGrammar.{IsNamed, IsType, IsNotNull, IsPrimaryKey, IsMark, AreMarks, Marked}
use Rattle.table_model.specs.SchemaReading.{Reader, sees_word, expect_word, sees_name, new_name, type_named, type_or, column_type, null_mark, key_mark, marks, has_column, column, is_there, key_after, columns_from, columns, closed, close, has_table, table_name, table, goes_on, tables_from, all_tables, schema, schema_of}
use Rattle.table_model.specs.SchemaRefusals.{Written, IsColumn, IsCreateTable, IsWritten, BeforeTable, BeforeColumns, BeforeColumn, BeforeKey, BeforeClose, has_key, is_among, names_of, is_at_token, AppliesAt, AppliesIn, AppliesInSchema}
use Rattle.table_model.specs.Texts.{same_name}
use Rattle.table_model.specs.Tokens.{tokens, most_bytes}
use Rattle.table_model.specs.declared.definitions.ColumnType.{ColumnType}
use Rattle.table_model.specs.declared.definitions.ColumnDef.{ColumnDef}
use Rattle.table_model.specs.declared.definitions.TableDef.{TableDef}
use Rattle.table_model.specs.declared.faults.SchemaFault.{SchemaFault}
use Rattle.table_model.specs.declared.faults.SchemaFault.TheVariants as fault
use Rattle.table_model.specs.declared.tokens.Token.{Token}
use Rattle.table_model.specs.declared.tokens.TokenKind.{TokenKind}
use Rattle.table_model.specs.declared.tokens.TokenKind.TheVariants as k
use Rattle.table_model.specs.Phrases.{Phrase, IsToken, ◌▸◌, IsParts, AreEnded, IsWord}

-- ---- what a reader returns

-- what was read, with the tokens that are left, and the fault where it is one at a token
abbrev pub Answers : {A : Type 0} → Outcome SchemaFault A → (A → List Token → Type 0) → (SchemaFault → Type 0) → Type 0
Answers (Ok p) Q E = Q p.0 p.1
Answers (Err f) Q E = is_at_token f ≡ true → E f

-- what two readers in a row read or refuse, from what the first does
then_returns : {A B : Type 0} (r : Outcome SchemaFault A) (f : A → Reader B) (Q : A → List Token → Type 0) (R : B → List Token → Type 0) (E : SchemaFault → Type 0)
    → ((x : A) (rest : List Token) → Q x rest → Answers (f x rest) R E) → Answers r Q E → Answers (and_then r f) R E
then_returns (Ok p) f Q R E g q = g p.0 p.1 q
then_returns (Err e) f Q R E g q = q

-- what one of two readers reads or refuses, by the test that chooses it
if_returns : {A : Type 0} (b : Bool) (x y : Outcome SchemaFault A) (Q : A → List Token → Type 0) (E : SchemaFault → Type 0)
    → (b ≡ true → Answers x Q E) → (b ≡ false → Answers y Q E) → Answers (if b then x else y) Q E
if_returns true x y Q E f g = f refl
if_returns false x y Q E f g = g refl

-- what is known of an answer may be weakened
weaker : {A : Type 0} (r : Outcome SchemaFault A) (Q R : A → List Token → Type 0) (E : SchemaFault → Type 0) → ((x : A) (rest : List Token) → Q x rest → R x rest)
    → Answers r Q E → Answers r R E
weaker (Ok p) Q R E f q = f p.0 p.1 q
weaker (Err e) Q R E f q = q

eaten_by : {A : Type 0} (b : Bool) (ts : List Token) (p q : Reader A) (Q : A → List Token → Type 0) (E : SchemaFault → Type 0)
    → (b ≡ true → Answers (p (next ts)) Q E) → (b ≡ false → Answers (q ts) Q E) → Answers ((if b then p else q) (if b then next ts else ts)) Q E
eaten_by true ts p q Q E f g = f refl
eaten_by false ts p q Q E f g = g refl

-- a reader that goes on in one way where a token of a kind is taken, and in another where none is there
eaten : {A : Type 0} (wanted : TokenKind) (ts : List Token) (p q : Reader A) (Q : A → List Token → Type 0) (E : SchemaFault → Type 0)
    → (sees wanted ts ≡ true → Answers (p (next ts)) Q E) → (sees wanted ts ≡ false → Answers (q ts) Q E)
    → Answers ((if sees wanted ts then p else q) (after wanted ts)) Q E
unfolding after
eaten wanted ts p q Q E f g = eaten_by (sees wanted ts) ts p q Q E f g

-- a token of the kind asked for is taken; another is a fault of syntax, which isn't one at a token
expect_returns : (E : SchemaFault → Type 0) (wanted : TokenKind) → (k.Bad ≡ wanted → ⊥) → (ts : List Token)
    → Answers (expect fault.Syntax wanted ts) (λ x rest. Took ts (IsToken wanted) rest) E
unfolding expect
expect_returns E wanted good ts = if_returns (sees wanted ts) _ _ (λ x rest. Took ts (IsToken wanted) rest) E (λ h. one wanted ts good h) (λ _. λ e. absurd (false≢true e))

-- the same for a word
expect_word_returns : (E : SchemaFault → Type 0) (word : List ℕ) (ts : List Token) → Answers (expect_word word ts) (λ x rest. Took ts (IsWord word) rest) E
unfolding expect_word
expect_word_returns E word ts = if_returns (sees_word word ts) _ _ (λ x rest. Took ts (IsWord word) rest) E (λ h. word_taken word ts h) (λ _. λ e. absurd (false≢true e))

-- ---- a fault at the next token

-- the fault applies at the next token
here : {T : Type 0} (geometry : List ℕ → Option T) (all : List Token) (P : Phrase) (t : Token) (rest : List Token) (f : SchemaFault)
    → Took all P (t ∷ rest) → ((before : List Token) → P before → AppliesAt geometry before t f) → AppliesIn geometry all f
here geometry all P t rest f took applies = (took.0, rest, t, took.1, applies took.0 took.2)

-- what a new name may be refused for, after tokens of a phrase
record MayApply {T : Type 0} (geometry : List ℕ → Option T) (P : Phrase) (full : Bool) (taken : List ℕ → Bool) : Type 0 where
  many : full ≡ true → (t : Token) (before : List Token) → P before → t.kind ≡ k.Word → AppliesAt geometry before t (fault.TooMany t.at)
  double : full ≡ false → (t : Token) (before : List Token) → P before → t.kind ≡ k.Word → taken t.text ≡ true → AppliesAt geometry before t (fault.DoubleName t.at)

abbrev NameRead : Bool → List Token → List ℕ → List Token → Type 0
NameRead full ts name rest = (full ≡ false) × Took ts (IsNamed name) rest

-- a name without room is refused as too many, at itself
many_here : {T : Type 0} (geometry : List ℕ → Option T) (all : List Token) (P : Phrase) (full : Bool) (taken : List ℕ → Bool) (ts : List Token) → MayApply geometry P full taken
    → Took all P ts → sees k.Word ts ≡ true → full ≡ true → AppliesIn geometry all (fault.TooMany (place ts))
unfolding sees kind place
many_here geometry all P full taken [] may took is h = absurd (let e = same k.Bad k.Word is in cc)
many_here geometry all P full taken (t ∷ rest) may took is h =
    here geometry all P t rest (fault.TooMany t.at) took (λ before p. may.many h t before p (same t.kind k.Word is))

-- a name that is taken, where there is room, is refused as double, at itself
double_here : {T : Type 0} (geometry : List ℕ → Option T) (all : List Token) (P : Phrase) (full : Bool) (taken : List ℕ → Bool) (ts : List Token) → MayApply geometry P full taken
    → Took all P ts → sees k.Word ts ≡ true → full ≡ false → taken (spelling ts) ≡ true → AppliesIn geometry all (fault.DoubleName (place ts))
unfolding sees kind place spelling
double_here geometry all P full taken [] may took is room h = absurd (let e = same k.Bad k.Word is in cc)
double_here geometry all P full taken (t ∷ rest) may took is room h =
    here geometry all P t rest (fault.DoubleName t.at) took (λ before p. may.double room t before p (same t.kind k.Word is) h)

-- a new name is read where there is room and it isn't taken; else it is refused at itself
name_returns : {T : Type 0} (geometry : List ℕ → Option T) (all : List Token) (P : Phrase) (full : Bool) (taken : List ℕ → Bool) (ts : List Token)
    → Took all P ts → MayApply geometry P full taken → Answers (new_name full (taken (spelling ts)) ts) (NameRead full ts) (AppliesIn geometry all)
unfolding new_name
name_returns geometry all P full taken ts took may =
    if_returns (not (sees_name ts)) _ _ (NameRead full ts) (AppliesIn geometry all) (λ _. λ e. absurd (false≢true e))
    (λ named. let is = (and_parts _ _ (not-false _ named)).0 in
    if_returns full _ _ (NameRead full ts) (AppliesIn geometry all) (λ h. λ _. many_here geometry all P full taken ts may took is h)
    (λ room. if_returns (taken (spelling ts)) _ _ (NameRead full ts) (AppliesIn geometry all) (λ h. λ _. double_here geometry all P full taken ts may took is room h) (λ _. (room, named_taken ts is))))

-- ---- columns

-- a word that names a type is read as it; another is a fault of syntax
type_returns : {T : Type 0} (geometry : List ℕ → Option T) (E : SchemaFault → Type 0) (ts : List Token) (o : Option (ColumnType T)) → sees k.Word ts ≡ true → type_named geometry (spelling ts) ≡ o
    → Answers (type_or o (place ts) (next ts)) (λ type rest. Took ts (IsType geometry type) rest) E
unfolding sees kind next spelling
type_returns geometry E ts None h e = λ is. absurd (false≢true is)
type_returns geometry E [] (Some type) h e = absurd (let bad = same k.Bad k.Word h in cc)
type_returns geometry E (t ∷ ts) (Some type) h e = (t ∷ [], refl, (same t.kind k.Word h, e))

-- so a type is never refused at a token
column_type_returns : {T : Type 0} (geometry : List ℕ → Option T) (E : SchemaFault → Type 0) (ts : List Token) → Answers (column_type geometry ts) (λ type rest. Took ts (IsType geometry type) rest) E
unfolding column_type
column_type_returns geometry E ts =
    if_returns (sees k.Word ts) _ _ (λ type rest. Took ts (IsType geometry type) rest) E (λ h. type_returns geometry E ts _ h refl) (λ _. λ e. absurd (false≢true e))

-- nor is NOT NULL
null_mark_returns : (E : SchemaFault → Type 0) (ts : List Token) → Answers (null_mark ts) (λ b rest. Took ts (IsMark b IsNotNull) rest) E
unfolding null_mark
null_mark_returns E ts = eaten k.Not ts _ _ (λ b rest. Took ts (IsMark b IsNotNull) rest) E
    (λ h. then_returns (expect fault.Syntax k.Null (next ts)) _ (λ x rest. Took (next ts) (IsToken k.Null) rest) (λ b rest. Took ts (IsMark b IsNotNull) rest) E
    (λ x rest took. seq (IsToken k.Not) (IsToken k.Null) ts (next ts) rest (one k.Not ts (λ e. cc) h) took)
    (expect_returns E k.Null (λ e. cc) (next ts)))
    (λ _. ([], refl, refl))

-- PRIMARY KEY on an INTEGER column, or nothing
abbrev KeyRead : {T : Type 0} → ColumnType T → List Token → Bool → List Token → Type 0
KeyRead type ts b rest = (b ≡ true → is_integer type ≡ true) × Took ts (IsMark b IsPrimaryKey) rest

-- PRIMARY on an INTEGER column behind one with PRIMARY KEY is refused as a second key, at itself
second_here : {T : Type 0} (geometry : List ℕ → Option T) (all : List Token) (tables : List (Written T)) (name : List ℕ) (before : List (Marked T)) (column : List ℕ)
    (type : ColumnType T) (not_null : Bool) (ts : List Token) → Took all (BeforeKey geometry tables name before column type not_null) ts
    → sees_word (codes "PRIMARY") ts ≡ true → is_integer type ≡ true → has_key before ≡ true → AppliesIn geometry all (fault.TwoKeys (place ts))
unfolding sees kind place spelling
second_here geometry all tables name before column type not_null [] took primary whole has = absurd (let e = same k.Bad k.Word (and_parts _ _ primary).0 in cc)
second_here geometry all tables name before column type not_null (t ∷ rest) took primary whole has =
    here geometry all (BeforeKey geometry tables name before column type not_null) t rest (fault.TwoKeys t.at) took
    (λ used p. (refl, (same t.kind k.Word (and_parts _ _ primary).0, (and_parts _ _ primary).1, tables, name, before, has, column, type, not_null, whole, p)))

-- PRIMARY KEY is read on INTEGER columns alone, and refused at PRIMARY where a column before has it
key_mark_returns : {T : Type 0} (geometry : List ℕ → Option T) (all : List Token) (tables : List (Written T)) (name : List ℕ) (before : List (Marked T)) (column : List ℕ)
    (type : ColumnType T) (not_null : Bool) (ts : List Token) → Took all (BeforeKey geometry tables name before column type not_null) ts
    → Answers (key_mark (has_key before) type ts) (KeyRead type ts) (AppliesIn geometry all)
unfolding key_mark
key_mark_returns geometry all tables name before column type not_null ts took =
    if_returns (not (sees_word (codes "PRIMARY") ts)) _ _ (KeyRead type ts) (AppliesIn geometry all) (λ _. (λ e. absurd (false≢true e), ([], refl, refl)))
    (λ primary. if_returns (not (is_integer type)) _ _ (KeyRead type ts) (AppliesIn geometry all) (λ _. λ e. absurd (false≢true e))
    (λ whole. if_returns (has_key before) _ _ (KeyRead type ts) (AppliesIn geometry all)
    (λ has. λ _. second_here geometry all tables name before column type not_null ts took (not-false _ primary) (not-false _ whole) has)
    (λ none. then_returns (expect_word (codes "KEY") (next ts)) _ (λ x rest. Took (next ts) (IsWord (codes "KEY")) rest) (KeyRead type ts) (AppliesIn geometry all)
    (λ x rest key. (λ _. not-false _ whole, seq (IsWord (codes "PRIMARY")) (IsWord (codes "KEY")) ts (next ts) rest (word_taken (codes "PRIMARY") ts (not-false _ primary)) key))
    (expect_word_returns (AppliesIn geometry all) (codes "KEY") (next ts)))))

abbrev MarksRead : {T : Type 0} → ColumnType T → List Token → Bool × Bool → List Token → Type 0
MarksRead type ts m rest = (m.1 ≡ true → is_integer type ≡ true) × Took ts (AreMarks m.0 m.1) rest

-- a column was read up to its type
abbrev BeforeMarks : {T : Type 0} → (List ℕ → Option T) → List (Written T) → List ℕ → List (Marked T) → List ℕ → ColumnType T → Phrase
BeforeMarks geometry tables name before column type = BeforeColumn geometry tables name before ▸ IsNamed column ▸ IsType geometry type

-- one phrase more behind three
further : (P Q R S : Phrase) (all ts rest : List Token) → Took all (P ▸ Q ▸ R) ts → Took ts S rest → Took all (P ▸ Q ▸ R ▸ S) rest
further P Q R S all ts rest took next =
    but ((P ▸ Q ▸ R) ▸ S) (P ▸ Q ▸ R ▸ S) all rest (seq (P ▸ Q ▸ R) S all ts rest took next) (λ used p. turned used p)
  where
    turned : (used : List Token) → ((P ▸ Q ▸ R) ▸ S) used → (P ▸ Q ▸ R ▸ S) used
    turned used (x, s, e, (p, y, e2, hp, (q, r, e3, hq, hr)), hs) =
        (p, y ++ s, e ∙ ap (λ l. l ++ s) e2 ∙ append_assoc p y s, hp, (q, r ++ s, ap (λ l. l ++ s) e3 ∙ append_assoc q r s, hq, (r, s, refl, hr, hs)))

-- the marks from PRIMARY KEY on, with NOT NULL before it or not
marks_from : {T : Type 0} (geometry : List ℕ → Option T) (all : List Token) (tables : List (Written T)) (name : List ℕ) (before : List (Marked T)) (column : List ℕ) (type : ColumnType T)
    (ts : List Token) (not_null : Bool) (mid : List Token) → Took all (BeforeMarks geometry tables name before column type) ts → Took ts (IsMark not_null IsNotNull) mid
    → Answers (and_then (key_mark (has_key before) type mid) (λ is_key. (if not_null then pure false else null_mark) >>= (λ behind. pure (not_null || behind, is_key)))) (MarksRead type ts) (AppliesIn geometry all)
marks_from geometry all tables name before column type ts true mid stood took =
    then_returns (key_mark (has_key before) type mid) _ (KeyRead type mid) (MarksRead type ts) (AppliesIn geometry all)
    (λ is_key rest key. (key.0, but _ (AreMarks true is_key) ts rest (seq IsNotNull (IsMark is_key IsPrimaryKey) ts mid rest took key.1) (λ used p. inl p)))
    (key_mark_returns geometry all tables name before column type true mid
    (further (BeforeColumn geometry tables name before) (IsNamed column) (IsType geometry type) (IsMark true IsNotNull) all ts mid stood took))
marks_from geometry all tables name before column type ts false mid stood took =
    then_returns (key_mark (has_key before) type mid) _ (KeyRead type mid) (MarksRead type ts) (AppliesIn geometry all)
    (λ is_key mid2 key. then_returns (null_mark mid2) _ (λ b rest. Took mid2 (IsMark b IsNotNull) rest) (MarksRead type ts) (AppliesIn geometry all)
    (λ behind rest took2. (
      key.0,
      skip (AreMarks behind is_key) ts mid rest took
          (but _ (AreMarks behind is_key) mid rest (seq (IsMark is_key IsPrimaryKey) (IsMark behind IsNotNull) mid mid2 rest key.1 took2) (λ used p. inr p)),
    ))
    (null_mark_returns (AppliesIn geometry all) mid2))
    (key_mark_returns geometry all tables name before column type false mid
    (further (BeforeColumn geometry tables name before) (IsNamed column) (IsType geometry type) (IsMark false IsNotNull) all ts mid stood took))

-- of the marks PRIMARY alone is refused at a token, with NOT NULL before it or not
marks_returns : {T : Type 0} (geometry : List ℕ → Option T) (all : List Token) (tables : List (Written T)) (name : List ℕ) (before : List (Marked T)) (column : List ℕ) (type : ColumnType T)
    (ts : List Token) → Took all (BeforeMarks geometry tables name before column type) ts → Answers (marks (has_key before) type ts) (MarksRead type ts) (AppliesIn geometry all)
unfolding marks
marks_returns geometry all tables name before column type ts stood =
    then_returns (null_mark ts) _ (λ b rest. Took ts (IsMark b IsNotNull) rest) (MarksRead type ts) (AppliesIn geometry all)
    (λ not_null mid took. marks_from geometry all tables name before column type ts not_null mid stood took)
    (null_mark_returns (AppliesIn geometry all) ts)

abbrev firsts : {T : Type 0} → List (Marked T) → List (ColumnDef T)
firsts m = map (λ c. c.0) m

-- a name that one of the columns has is among their names as they are written
named_among : {T : Type 0} (m : List (Marked T)) (t : Token) → has_column (firsts m) t.text ≡ true → is_among t (names_of m) ≡ true
named_among [] t h = h
named_among (c ∷ m) t h = or_weaker (same_name c.0.name t.text) (has_column (firsts m) t.text) (is_among t (names_of m)) (named_among m t) h

length-firsts : {T : Type 0} (m : List (Marked T)) → length (firsts m) ≡ length m
length-firsts [] = refl
length-firsts (x ∷ m) = ap suc (length-firsts m)

exactly : (a b : ℕ) → a ≤ b → b ≤ a → a ≡ b
exactly a b p q = omega (arith, p, q)

-- at most 32 columns are read, so where there is no room there are 32, and the next name is the 33rd
column_may : {T : Type 0} (geometry : List ℕ → Option T) (tables : List (Written T)) (name : List ℕ) (m : List (Marked T)) → length m ≤ 32
    → MayApply geometry (BeforeColumn geometry tables name m) (nat_le 32 (length (firsts m))) (has_column (firsts m))
column_may geometry tables name m few = record {
  many = λ full t before p word. (refl, (word, tables, inr (name, m, exactly (length m) 32 few (subst (λ n. 32 ≤ n) (length-firsts m) (leb-true 32 (length (firsts m)) full)), p)));
  double = λ room t before p word taken. (refl, (word, tables, inr (name, m, subst (λ n. n < 32) (length-firsts m) (leb-false 32 (length (firsts m)) room), named_among m t taken, p)));
}

abbrev ColumnRead : {T : Type 0} → (List ℕ → Option T) → List (Marked T) → List Token → Marked T → List Token → Type 0
ColumnRead geometry m ts r rest = (length m < 32) × Took ts (IsColumn geometry r) rest

-- a column is refused at its name or at PRIMARY, or it is read
column_returns : {T : Type 0} (geometry : List ℕ → Option T) (all : List Token) (tables : List (Written T)) (name : List ℕ) (m : List (Marked T)) (ts : List Token)
    → length m ≤ 32 → Took all (BeforeColumn geometry tables name m) ts → Answers (column geometry (firsts m) (has_key m) ts) (ColumnRead geometry m ts) (AppliesIn geometry all)
unfolding column
column_returns geometry all tables name m ts few stood =
    let P : Phrase = BeforeColumn geometry tables name m in
    then_returns (new_name (nat_le 32 (length (firsts m))) (has_column (firsts m) (spelling ts)) ts) _ (NameRead (nat_le 32 (length (firsts m))) ts) (ColumnRead geometry m ts) (AppliesIn geometry all)
    (λ column mid named. then_returns (column_type geometry mid) _ (λ type rest. Took mid (IsType geometry type) rest) (ColumnRead geometry m ts) (AppliesIn geometry all)
    (λ type mid2 typed. then_returns (marks (has_key m) type mid2) _ (MarksRead type mid2) (ColumnRead geometry m ts) (AppliesIn geometry all)
    (λ marked rest last. (
      subst (λ n. n < 32) (length-firsts m) (leb-false 32 (length (firsts m)) named.0),
      but (IsNamed column ▸ IsType geometry type ▸ AreMarks marked.0 marked.1) (IsColumn geometry (record { name = column; column_type = type; not_null = marked.0 }, marked.1)) ts rest
          (seq (IsNamed column) (IsType geometry type ▸ AreMarks marked.0 marked.1) ts mid rest named.1 (seq (IsType geometry type) (AreMarks marked.0 marked.1) mid mid2 rest typed last.1))
          (λ used p. (last.0, p)),
    ))
    (marks_returns geometry all tables name m column type mid2
    (seq P (IsNamed column ▸ IsType geometry type) all ts mid2 stood (seq (IsNamed column) (IsType geometry type) ts mid mid2 named.1 typed))))
    (column_type_returns geometry (AppliesIn geometry all) mid))
    (name_returns geometry all P (nat_le 32 (length (firsts m))) (has_column (firsts m)) ts stood (column_may geometry tables name m few))

-- ---- lists

-- the last, without one
abbrev AreParts : {A : Type 0} → TokenKind → (A → Phrase) → List A → Phrase
AreParts {A} between P xs used = (first : A) × (more : List A) × (xs ≡ first ∷ more) × IsParts between P first more used

-- things with a comma behind each, and one more without, are parts with commas between them; and so where they were taken
parts_of : {A : Type 0} (between : TokenKind) (P : A → Phrase) (xs : List A) (x : A) (used more : List Token) → AreEnded (IsToken between) P xs used → P x more
    → AreParts between P (xs ++ x ∷ []) (used ++ more)
parts_of between P [] x used more none p = (x, [], refl, subst (P x) (sym (ap (λ l. l ++ more) none)) p)
parts_of between P (y ∷ xs) x used more (a, b, e, p, (c, d, e2, q, h)) last =
    let (first, others, is, parts) = parts_of between P xs x d more h last in (
      y,
      xs ++ x ∷ [],
      refl,
      subst (λ l. IsParts between P y l (used ++ more)) (sym is)
          (a, b ++ more, ap (λ l. l ++ more) e ∙ append_assoc a b more, p, (c, d ++ more, ap (λ l. l ++ more) e2 ∙ append_assoc c d more, q, parts)),
    )

-- the list is longer by one where one more and the token behind it were taken
took_more : {A : Type 0} (end : Phrase) (P : A → Phrase) (xs : List A) (x : A) (start ts mid rest : List Token) → Took start (AreEnded end P xs) ts → Took ts (P x) mid → Took mid end rest
    → Took start (AreEnded end P (xs ++ x ∷ [])) rest
took_more end P xs x start ts mid rest before read last =
    let both = seq (AreEnded end P xs) (P x ▸ end) start ts rest before (seq (P x) end ts mid rest read last) in
    but (AreEnded end P xs ▸ (P x ▸ end)) (AreEnded end P (xs ++ x ∷ [])) start rest both
    (λ used p. subst (AreEnded end P (xs ++ x ∷ [])) (sym p.2) (ended_more end P xs x p.0 p.1 p.3 p.4))

took_parts : {A : Type 0} (between : TokenKind) (P : A → Phrase) (xs : List A) (x : A) (start ts rest : List Token) → Took start (AreEnded (IsToken between) P xs) ts → Took ts (P x) rest
    → Took start (AreParts between P (xs ++ x ∷ [])) rest
took_parts between P xs x start ts rest before read =
    but (AreEnded (IsToken between) P xs ▸ P x) (AreParts between P (xs ++ x ∷ [])) start rest (seq (AreEnded (IsToken between) P xs) (P x) start ts rest before read)
    (λ used p. subst (AreParts between P (xs ++ x ∷ [])) (sym p.2) (parts_of between P xs x p.0 p.1 p.3 p.4))

-- ---- lists of columns

firsts-more : {T : Type 0} (m : List (Marked T)) (x : Marked T) → firsts m ++ x.0 ∷ [] ≡ firsts (m ++ x ∷ [])
firsts-more m x = sym (map-append (λ c. c.0) m (x ∷ []))

-- after one more column there is a key where one was, or where PRIMARY KEY is on it
key-more : {T : Type 0} (key : Option ℕ) (place : ℕ) (m : List (Marked T)) (x : Marked T) → is_there key ≡ has_key m → is_there (key_after key place x.1) ≡ has_key (m ++ x ∷ [])
key-more key place m x e = go x.1 key e ∙ sym (list_any-append (λ c. c.1) m (x ∷ []))
  where
    or_true : (b : Bool) → true ≡ (b || (true || false))
    or_true true = refl
    or_true false = refl

    or_none : (b : Bool) → b ≡ (b || (false || false))
    or_none true = refl
    or_none false = refl

    go : (is_key : Bool) (key : Option ℕ) → is_there key ≡ has_key m → is_there (key_after key place is_key) ≡ (has_key m || (is_key || false))
    go true key e = or_true (has_key m)
    go false key e = e ∙ or_none (has_key m)

-- columns were read, and whether there is a key
abbrev ColumnsRead : {T : Type 0} → (List ℕ → Option T) → List Token → List (ColumnDef T) × Option ℕ → List Token → Type 0
ColumnsRead {T} geometry start r rest =
    (first : Marked T) × (more : List (Marked T)) × (is_there r.1 ≡ has_key (first ∷ more)) × Took start (IsParts k.Comma (IsColumn geometry) first more) rest

-- the columns up to the last, and the last, are the columns of a table
columns_end : {T : Type 0} (geometry : List ℕ → Option T) (m : List (Marked T)) (x : Marked T) (key : Option ℕ) (found : List (ColumnDef T)) (start ts rest : List Token)
    → is_there key ≡ has_key (m ++ x ∷ []) → Took start (AreEnded (IsToken k.Comma) (IsColumn geometry) m) ts → Took ts (IsColumn geometry x) rest → ColumnsRead geometry start (found, key) rest
columns_end geometry m x key found start ts rest there before read =
    let (used, e, (first, more, is, parts)) = took_parts k.Comma (IsColumn geometry) m x start ts rest before read in
    (first, more, there ∙ ap has_key is, (used, e, parts))

-- each column comes after those before it, so a fault at one of its tokens applies in the table
columns_returns : {T : Type 0} (geometry : List ℕ → Option T) (all : List Token) (tables : List (Written T)) (name : List ℕ) (n : ℕ) (m : List (Marked T)) (found : List (ColumnDef T)) (key : Option ℕ)
    (start ts : List Token) → Took all (BeforeColumns geometry tables name) start → Took start (AreEnded (IsToken k.Comma) (IsColumn geometry) m) ts
    → found ≡ firsts m → is_there key ≡ has_key m → length m ≤ 32
    → Answers (columns_from geometry n found key ts) (ColumnsRead geometry start) (AppliesIn geometry all)
unfolding columns_from
columns_returns geometry all tables name zero m found key start ts stood before is there few = λ e. absurd (false≢true e)
columns_returns {T = T} geometry all tables name (suc n) m found key start ts stood before is there few =
    then_returns (column geometry found (is_there key) ts) _ (ColumnRead geometry m ts) (ColumnsRead geometry start) (AppliesIn geometry all)
    (λ x mid read.
    let longer : length (m ++ x ∷ []) ≤ 32 = omega (arith, length-append m (x ∷ []), read.0) in
    let same_firsts : found ++ x.0 ∷ [] ≡ firsts (m ++ x ∷ []) = ap (λ f. f ++ x.0 ∷ []) is ∙ firsts-more m x in
    let still : is_there (key_after key (length found) x.1) ≡ has_key (m ++ x ∷ []) = key-more key (length found) m x there in
    eaten k.Comma mid _ _ (ColumnsRead geometry start) (AppliesIn geometry all)
    (λ comma. columns_returns geometry all tables name n (m ++ x ∷ []) (found ++ x.0 ∷ []) (key_after key (length found) x.1) start (next mid) stood
    (took_more (IsToken k.Comma) (IsColumn geometry) m x start ts mid (next mid) before read.1 (one k.Comma mid (λ e. cc) comma)) same_firsts still longer)
    (λ _. columns_end geometry m x (key_after key (length found) x.1) (found ++ x.0 ∷ []) start ts mid still before read.1))
    (subst (λ f. Answers (column geometry f (is_there key) ts) (ColumnRead geometry m ts) (AppliesIn geometry all)) (sym is)
    (subst (λ b. Answers (column geometry (firsts m) b ts) (ColumnRead geometry m ts) (AppliesIn geometry all)) (sym there)
    (column_returns geometry all tables name m ts few (seq (BeforeColumns geometry tables name) (AreEnded (IsToken k.Comma) (IsColumn geometry) m) all start ts stood before))))

-- ---- tables

-- a table was read, of this name
abbrev TableRead : {T : Type 0} → (List ℕ → Option T) → List (Written T) → List Token → TableDef T → List Token → Type 0
TableRead {T} geometry tables ts t rest = (length tables < 16) × (w : Written T) × (t.name ≡ w.0) × Took ts (IsWritten geometry w) rest

abbrev CloseRead : {T : Type 0} → (List ℕ → Option T) → List ℕ → List Token → TableDef T → List Token → Type 0
CloseRead {T} geometry name start t rest =
    (first : Marked T) × (more : List (Marked T)) × (t.name ≡ name) × Took start (IsParts k.Comma (IsColumn geometry) first more ▸ IsToken k.RightParenthesis) rest

-- the parenthesis that closes columns without PRIMARY KEY is refused, at itself
at_close : {T : Type 0} (geometry : List ℕ → Option T) (all : List Token) (tables : List (Written T)) (name : List ℕ) (first : Marked T) (more : List (Marked T)) (used mid rest : List Token)
    → has_key (first ∷ more) ≡ false → mid ≡ used ++ rest → IsToken k.RightParenthesis used → Took all (BeforeClose geometry tables name first more) mid
    → AppliesIn geometry all (fault.NoKey (place mid))
unfolding place
at_close geometry all tables name first more [] mid rest none e h took = absurd h
at_close geometry all tables name first more (t ∷ u ∷ us) mid rest none e h took = absurd h
at_close geometry all tables name first more (t ∷ []) mid rest none e h took =
    subst (λ l. AppliesIn geometry all (fault.NoKey (place l))) (sym e)
    (here geometry all (BeforeClose geometry tables name first more) t rest (fault.NoKey t.at) (subst (λ l. Took all (BeforeClose geometry tables name first more) l) e took)
    (λ before p. (refl, (h, tables, name, first, more, none, p))))

-- so a table with a key is closed, and one without is refused at the parenthesis
closed_returns : {T : Type 0} (geometry : List ℕ → Option T) (all : List Token) (tables : List (Written T)) (name : List ℕ) (start mid rest : List Token) (columns : List (ColumnDef T)) (key : Option ℕ)
    (first : Marked T) (more : List (Marked T)) → is_there key ≡ has_key (first ∷ more) → Took all (BeforeColumns geometry tables name) start
    → Took start (IsParts k.Comma (IsColumn geometry) first more) mid → Took mid (IsToken k.RightParenthesis) rest
    → Answers (closed name columns key (place mid) rest) (CloseRead geometry name start) (AppliesIn geometry all)
closed_returns geometry all tables name start mid rest columns (Some key) first more there stood parts close =
    (first, more, refl, seq (IsParts k.Comma (IsColumn geometry) first more) (IsToken k.RightParenthesis) start mid rest parts close)
closed_returns geometry all tables name start mid rest columns None first more there stood parts close = λ _.
    at_close geometry all tables name first more close.0 mid rest (sym there) close.1 close.2
    (seq (BeforeColumns geometry tables name) (IsParts k.Comma (IsColumn geometry) first more) all start mid stood parts)

-- the closing parenthesis comes after the columns that were read
close_returns : {T : Type 0} (geometry : List ℕ → Option T) (all : List Token) (tables : List (Written T)) (name : List ℕ) (start mid : List Token) (r : List (ColumnDef T) × Option ℕ)
    → Took all (BeforeColumns geometry tables name) start → ColumnsRead geometry start r mid → Answers (close name r mid) (CloseRead geometry name start) (AppliesIn geometry all)
close_returns geometry all tables name start mid r stood (first, more, there, parts) =
    then_returns (expect fault.Syntax k.RightParenthesis mid) _ (λ u rest. Took mid (IsToken k.RightParenthesis) rest) (CloseRead geometry name start) (AppliesIn geometry all)
    (λ u rest close. closed_returns geometry all tables name start mid rest r.0 r.1 first more there stood parts close)
    (expect_returns (AppliesIn geometry all) k.RightParenthesis (λ e. cc) mid)

-- the names of the tables that were read, as they are written
abbrev AreNames : {T : Type 0} → List (TableDef T) → List (Written T) → Type 0
AreNames found tables = map (λ t. t.name) found ≡ map (λ w. w.0) tables

-- as many tables were read as are written
length-names : {T : Type 0} (found : List (TableDef T)) (tables : List (Written T)) → AreNames found tables → length found ≡ length tables
length-names found tables e = sym (size (λ t. t.name) found) ∙ ap length e ∙ size (λ w. w.0) tables
  where
    size : {A B : Type 0} (f : A → B) (xs : List A) → length (map f xs) ≡ length xs
    size f [] = refl
    size f (x ∷ xs) = ap suc (size f xs)

-- a name that one of the tables has is among their names
table_named : {T : Type 0} (found : List (TableDef T)) (t : Token) → has_table found t.text ≡ true → is_among t (map (λ t. t.name) found) ≡ true
table_named [] t h = h
table_named (x ∷ found) t h = or_weaker (same_name x.name t.text) (has_table found t.text) (is_among t (map (λ t. t.name) found)) (table_named found t) h

-- and so it is among their names as they are written
table_among : {T : Type 0} (found : List (TableDef T)) (tables : List (Written T)) (t : Token) → AreNames found tables → has_table found t.text ≡ true → is_among t (map (λ w. w.0) tables) ≡ true
table_among found tables t e h = ap (is_among t) (sym e) ∙ table_named found t h

-- at most 16 tables are read, so where there is no room there are 16, and the next name is the 17th
table_may : {T : Type 0} (geometry : List ℕ → Option T) (found : List (TableDef T)) (tables : List (Written T)) → AreNames found tables → length tables ≤ 16
    → MayApply geometry (BeforeTable geometry tables) (nat_le 16 (length found)) (has_table found)
table_may geometry found tables names few = record {
  many = λ full t before p word. (refl, (word, tables, inl (exactly (length tables) 16 few (subst (λ n. 16 ≤ n) (length-names found tables names) (leb-true 16 (length found) full)), p)));
  double = λ room t before p word taken. (refl, (word, tables, inl (subst (λ n. n < 16) (length-names found tables names) (leb-false 16 (length found) room), table_among found tables t names taken, p)));
}

-- a table's name is read where there is room and no table has it; else it is refused at itself
table_name_returns : {T : Type 0} (geometry : List ℕ → Option T) (all : List Token) (found : List (TableDef T)) (tables : List (Written T)) (ts : List Token) → AreNames found tables → length tables ≤ 16
    → Took all (BeforeTable geometry tables) ts → Answers (table_name found ts) (NameRead (nat_le 16 (length found)) ts) (AppliesIn geometry all)
unfolding table_name
table_name_returns geometry all found tables ts names few stood =
    name_returns geometry all (BeforeTable geometry tables) (nat_le 16 (length found)) (has_table found) ts stood (table_may geometry found tables names few)

-- CREATE TABLE, a name and columns in parentheses were taken one behind the other, which is a table as it is written
whole : {T : Type 0} (geometry : List ℕ → Option T) (name : List ℕ) (t : TableDef T) (ts ts2 ts3 ts4 rest : List Token) → Took ts IsCreateTable ts2
    → Took ts2 (IsNamed name) ts3 → Took ts3 (IsToken k.LeftParenthesis) ts4 → CloseRead geometry name ts4 t rest → (w : Written T) × (t.name ≡ w.0) × Took ts (IsWritten geometry w) rest
whole geometry name t ts ts2 ts3 ts4 rest took1 took3 took4 (first, more, named, took5) =
    let body : Phrase = IsParts k.Comma (IsColumn geometry) first more ▸ IsToken k.RightParenthesis in (
      (name, first ∷ more),
      named,
      but (IsCreateTable ▸ IsNamed name ▸ IsToken k.LeftParenthesis ▸ body) (IsWritten geometry (name, first ∷ more)) ts rest
          (seq IsCreateTable (IsNamed name ▸ IsToken k.LeftParenthesis ▸ body) ts ts2 rest took1
          (seq (IsNamed name) (IsToken k.LeftParenthesis ▸ body) ts2 ts3 rest took3 (seq (IsToken k.LeftParenthesis) body ts3 ts4 rest took4 took5)))
          (λ used p. (first, more, refl, p)),
    )

-- a table is refused at its name, in its columns or at its closing parenthesis, or it is read as it is written
table_returns : {T : Type 0} (geometry : List ℕ → Option T) (all : List Token) (found : List (TableDef T)) (tables : List (Written T)) (ts : List Token) → AreNames found tables → length tables ≤ 16
    → Took all (AreEnded (IsToken k.Semicolon) (IsWritten geometry) tables) ts → Answers (table geometry found ts) (TableRead geometry tables ts) (AppliesIn geometry all)
unfolding table
table_returns {T = T} geometry all found tables ts names few stood =
    let E = AppliesIn geometry all in
    let Q = TableRead geometry tables ts in
    then_returns (expect_word (codes "CREATE") ts) _ (λ u rest. Took ts (IsWord (codes "CREATE")) rest) Q E
    (λ u1 ts1 took1. then_returns (expect_word (codes "TABLE") ts1) _ (λ u rest. Took ts1 (IsWord (codes "TABLE")) rest) Q E
    (λ u2 ts2 took2.
    let create = seq (IsWord (codes "CREATE")) (IsWord (codes "TABLE")) ts ts1 ts2 took1 took2 in
    let before = seq (AreEnded (IsToken k.Semicolon) (IsWritten geometry) tables) IsCreateTable all ts ts2 stood create in
    then_returns (table_name found ts2) _ (NameRead (nat_le 16 (length found)) ts2) Q E
    (λ name ts3 took3. then_returns (expect fault.Syntax k.LeftParenthesis ts3) _ (λ u rest. Took ts3 (IsToken k.LeftParenthesis) rest) Q E
    (λ u4 ts4 took4.
    let inside = seq (BeforeTable geometry tables) (IsNamed name ▸ IsToken k.LeftParenthesis) all ts2 ts4 before (seq (IsNamed name) (IsToken k.LeftParenthesis) ts2 ts3 ts4 took3.1 took4) in
    then_returns (columns geometry ts4) (close name) (ColumnsRead geometry ts4) Q E
    (λ r mid took5. weaker (close name r mid) (CloseRead geometry name ts4) Q E
    (λ t rest body.
    let w = whole geometry name t ts ts2 ts3 ts4 rest create took3.1 took4 body in
    (subst (λ n. n < 16) (length-names found tables names) (leb-false 16 (length found) took3.0), w.0, w.1, w.2))
    (close_returns geometry all tables name ts4 mid r inside took5))
    (columns_returns geometry all tables name (length ts4) [] [] None ts4 ts4 inside ([], refl, refl) refl refl (omega arith)))
    (expect_returns E k.LeftParenthesis (λ e. cc) ts3))
    (table_name_returns geometry all found tables ts2 names few before))
    (expect_word_returns E (codes "TABLE") ts1))
    (expect_word_returns E (codes "CREATE") ts)

-- ---- lists of tables

-- nothing is said of what was read
abbrev pub Anything : {A : Type 0} → A → List Token → Type 0
Anything x rest = Unit {0}

-- a semicolon or the end is never refused at a token, and tables go on only behind a semicolon
goes_on_returns : (E : SchemaFault → Type 0) (ts : List Token) → Answers (goes_on ts) (λ more rest. more ≡ true → Took ts (IsToken k.Semicolon) rest) E
unfolding goes_on after
goes_on_returns E ts = go (sees k.Semicolon ts) refl
  where
    go : (b : Bool) → sees k.Semicolon ts ≡ b → (b && not (sees k.End (if b then next ts else ts))) ≡ true → Took ts (IsToken k.Semicolon) (if b then next ts else ts)
    go true h _ = one k.Semicolon ts (λ e. cc) h
    go false h e = absurd (false≢true e)

-- where no further tables follow nothing is refused
tables_then : {T : Type 0} (geometry : List ℕ → Option T) (E : SchemaFault → Type 0) (n : ℕ) (found : List (TableDef T)) (more : Bool) (rest : List Token)
    → (more ≡ true → Answers (tables_from geometry n found rest) Anything E) → Answers ((if more then tables_from geometry n found else pure found) rest) Anything E
tables_then geometry E n found true rest h = h refl
tables_then geometry E n found false rest h = tt

-- one more table adds its name to both lists
names-more : {T : Type 0} (found : List (TableDef T)) (tables : List (Written T)) (t : TableDef T) (w : Written T) → AreNames found tables → t.name ≡ w.0 → AreNames (found ++ t ∷ []) (tables ++ w ∷ [])
names-more found tables t w names e =
    map-append (λ t. t.name) found (t ∷ []) ∙ ap (λ l. l ++ t.name ∷ []) names ∙ ap (λ n. map (λ w. w.0) tables ++ n ∷ []) e ∙ sym (map-append (λ w. w.0) tables (w ∷ []))

-- each table comes after those before it with their semicolons, so a fault at one of its tokens applies in the text
tables_returns : {T : Type 0} (geometry : List ℕ → Option T) (all : List Token) (n : ℕ) (found : List (TableDef T)) (tables : List (Written T)) (ts : List Token) → AreNames found tables → length tables ≤ 16
    → Took all (AreEnded (IsToken k.Semicolon) (IsWritten geometry) tables) ts → Answers (tables_from geometry n found ts) Anything (AppliesIn geometry all)
unfolding tables_from
tables_returns geometry all zero found tables ts names few stood = λ e. absurd (false≢true e)
tables_returns geometry all (suc n) found tables ts names few stood =
    then_returns (table geometry found ts) _ (TableRead geometry tables ts) Anything (AppliesIn geometry all)
    (λ t mid h. then_returns (goes_on mid) _ (λ more rest. more ≡ true → Took mid (IsToken k.Semicolon) rest) Anything (AppliesIn geometry all)
    (λ more rest separated. tables_then geometry (AppliesIn geometry all) n (found ++ t ∷ []) more rest
    (λ is. tables_returns geometry all n (found ++ t ∷ []) (tables ++ h.1 ∷ []) rest (names-more found tables t h.1 names h.2) (omega (arith, length-append tables (h.1 ∷ []), h.0))
    (took_more (IsToken k.Semicolon) (IsWritten geometry) tables h.1 all ts mid rest stood h.3 (separated is))))
    (goes_on_returns (AppliesIn geometry all) mid))
    (table_returns geometry all found tables ts names few stood)

-- behind the tables the end is asked for, which is refused for syntax alone
pub schema_returns : {T : Type 0} (geometry : List ℕ → Option T) (ts : List Token) → Answers (schema geometry ts) Anything (AppliesIn geometry ts)
unfolding schema
schema_returns geometry ts =
    then_returns (all_tables geometry ts) _ Anything Anything (AppliesIn geometry ts)
    (λ r mid _. then_returns (expect fault.Syntax k.End mid) _ (λ u rest. Took mid (IsToken k.End) rest) Anything (AppliesIn geometry ts) (λ u rest _. tt)
    (expect_returns (AppliesIn geometry ts) k.End (λ e. cc) mid))
    (if_returns (sees k.End ts) _ _ Anything (AppliesIn geometry ts) (λ _. tt)
    (λ _. tables_returns geometry ts (length ts) [] [] ts refl (omega arith) ([], refl, refl)))

-- ---- texts

by_value : {T : Type 0} (geometry : List ℕ → Option T) (ts : List Token) (r : Outcome SchemaFault (List (TableDef T))) → Answers r Anything (AppliesIn geometry ts)
    → IfErr (value_of r) (λ f. is_at_token f ≡ true → AppliesIn geometry ts f)
by_value geometry ts (Ok p) h = tt
by_value geometry ts (Err f) h = h

-- a fault at a token that is read applies there
pub schema_of_applies : {T : Type 0} (geometry : List ℕ → Option T) (text : List ℕ) → IfErr (schema_of geometry text) (AppliesInSchema geometry text)
unfolding schema_of
schema_of_applies geometry text = go (nat_lt most_bytes (length text))
  where
    go : (long : Bool) → IfErr (if long then Err fault.TooLong else value_of (schema geometry (tokens false text))) (AppliesInSchema geometry text)
    go true = λ e. absurd (false≢true e)
    go false = by_value geometry (tokens false text) (schema geometry (tokens false text)) (schema_returns geometry (tokens false text))

-- a fault at a token that is given applies there
pub given_applies : {T : Type 0} (geometry : List ℕ → Option T) (text : List ℕ) (r : Result (List (TableDef T)) SchemaFault) → Gives fault.OutOfMemory (λ t. t) r (schema_of geometry text)
    → IfErr r (AppliesInSchema geometry text)
given_applies geometry text (Ok tables) given = tt
given_applies geometry text (Err f) given = λ is. subst (λ r. IfErr r (AppliesInSchema geometry text)) (given (λ e. memory f is e)) (schema_of_applies geometry text) is
  where
    memory : (f : SchemaFault) → is_at_token f ≡ true → f ≡ fault.OutOfMemory → ⊥
    memory f is e = false≢true (sym (ap is_at_token e) ∙ is)
