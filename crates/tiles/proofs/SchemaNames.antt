-- The names in a schema begin as words do.
use Rattle.std.proofs.Common.{◌≡◌, ◌∙◌, ◌+◌, ◌-◌, ◌&&◌, ◌||◌, ◌==◌, ap, arith, cond, false, inl, inr, refl, subst, sym, Bool}
use Rattle.std.proofs.Common.{true, ℕ, zero, suc}
use Rattle.std.proofs.Common.{List, [], ◌∷◌, ◌++◌, drop, map, slice_index, take, Option, None, Some}
use Rattle.std.specs.Prelude.{slice_get}
use Rattle.std.specs.Char.{is_ascii_digit}
use Rattle.std.specs.List.{prefix_len}
use Rattle.std.proofs.lemmas.Bool.{false≢true}
use Rattle.std.proofs.lemmas.Option.{same_Some}
use Rattle.basics.proofs.Options.{nothing_there}
use Rattle.table_model.specs.Definitions.{column_names}
use Rattle.table_model.specs.GeometryColumns.{ColumnShape}
use Rattle.table_model.specs.Phrases.{IsParts}
use Rattle.table_model.specs.SchemaGrammar.{AreTables, IsMarked, IsNamed, IsSchema, IsTable, Marked}
use Rattle.table_model.specs.Tokens.{same_kind, is_blank, is_in_line, begins_word, continues_word, word_kind, symbol_of_one}
use Rattle.table_model.specs.Tokens.{symbol, closing}
use Rattle.table_model.specs.Tokens.{string_to, string, front, text_of, at_front, tokens_from, tokens}
use Rattle.table_model.specs.declared.definitions.ColumnDef.{ColumnDef}
use Rattle.table_model.specs.declared.definitions.TableDef.{TableDef}
use Rattle.table_model.specs.declared.tokens.Token.{Token}
use Rattle.table_model.specs.declared.tokens.TokenKind.{TokenKind}
use Rattle.table_model.specs.declared.tokens.TokenKind.TheVariants as k
use Rattle.tiles.specs.LoadedTexts.{BeginsWord, SchemaNamesBeginWords}

-- ---- tokens

-- a text begins as a word does
abbrev Begins : List ℕ → Type 0
Begins [] = ⊥
Begins (byte ∷ bytes) = begins_word byte ≡ true

-- those of the words among some tokens do
abbrev WordsBegin : List Token → Type 0
WordsBegin [] = Unit {0}
WordsBegin (t ∷ ts) = (t.kind ≡ k.Word → Begins t.text) × WordsBegin ts

words_before : (a b : List Token) → WordsBegin (a ++ b) → WordsBegin a
words_before [] b h = tt
words_before (t ∷ a) b h = (h.0, words_before a b h.1)

words_behind : (a b : List Token) → WordsBegin (a ++ b) → WordsBegin b
words_behind [] b h = h
words_behind (t ∷ a) b h = words_behind a b h.1

-- the first byte is kept where it passes
first_kept : (passes : Bool) (n b : ℕ) (z : List ℕ) → passes ≡ true → begins_word b ≡ true
    → Begins (take (cond passes (1 + n) 0) (b ∷ z))
first_kept true n b z e h = let more : suc n ≡ 1 + n = omega arith in subst (λ k. Begins (take k (b ∷ z))) more h
first_kept false n b z e h = absurd (false≢true e)

-- the bytes of a word at the front of a text begin as one
word_begins : (z : List ℕ) → begins_word (slice_index z 0) ≡ true → Begins (take (prefix_len continues_word z) z)
word_begins [] h = absurd (false≢true h)
word_begins (b ∷ z) h =
    first_kept (continues_word b) (prefix_len continues_word z) b z (ap (λ x. x || is_ascii_digit b) h) h

-- a choice between two kinds that aren't a word isn't one
either_sized : (b : Bool) (x y : TokenKind × ℕ) → (x.0 ≡ k.Word → ⊥) → (y.0 ≡ k.Word → ⊥) → (cond b x y).0 ≡ k.Word → ⊥
either_sized true x y p q = p
either_sized false x y p q = q

-- no symbol of one byte is a word
one_other : (b : ℕ) → symbol_of_one b ≡ k.Word → ⊥
one_other b = λ e. grind arith

-- no symbol is a word, of two bytes or of one
symbol_other : (b next : ℕ) → (symbol b next).0 ≡ k.Word → ⊥
unfolding symbol
symbol_other b next =
    let one : TokenKind × ℕ = (symbol_of_one b, 1) in
    let differs : TokenKind × ℕ = cond (b == 33 && next == 61) (k.NotEqual, 2) one in
    let greater : TokenKind × ℕ = cond (b == 62 && next == 61) (k.GreaterOrEqual, 2) differs in
    let other : TokenKind × ℕ = cond (b == 60 && next == 62) (k.NotEqual, 2) greater in
    either_sized (b == 60 && next == 61) (k.LessOrEqual, 2) other (λ e. cc)
    (either_sized (b == 60 && next == 62) (k.NotEqual, 2) greater (λ e. cc)
    (either_sized (b == 62 && next == 61) (k.GreaterOrEqual, 2) differs (λ e. cc)
    (either_sized (b == 33 && next == 61) (k.NotEqual, 2) one (λ e. cc) (one_other b))))

-- a string is Text, or Bad where it isn't closed: never a word
string_other : (end : Option ℕ) → (string_to end).0 ≡ k.Word → ⊥
string_other None = λ e. cc
string_other (Some n) = λ e. cc

-- what is at the front of a text is no word, or it begins as one
abbrev IfWord : List ℕ → Option TokenKind → ℕ → Type 0
IfWord z None len = Unit {0}
IfWord z (Some kind) len = kind ≡ k.Word → Begins (take len z)

either_found : (z : List ℕ) (b : Bool) (x y : Option TokenKind × ℕ) → (b ≡ true → IfWord z x.0 x.1) → IfWord z y.0 y.1
    → IfWord z (cond b x y).0 (cond b x y).1
either_found z true x y p q = p refl
either_found z false x y p q = q

-- case by case, blank, comment, word, digits, string or symbol: only the third may be a word
front_begins : (s : Bool) (z : List ℕ) → IfWord z (front s z).0 (front s z).1
unfolding front
front_begins s z =
    let first = slice_index z 0 in
    let word : Option TokenKind × ℕ = (Some (word_kind (take (prefix_len continues_word z) z)), prefix_len continues_word z) in
    let found : Option TokenKind × ℕ = (Some (string z).0, (string z).1) in
    let one : Option TokenKind × ℕ = (Some (symbol first (slice_index z 1)).0, (symbol first (slice_index z 1)).1) in
    let last : Option TokenKind × ℕ = cond (s && first == 39) found one in
    let digits : Option TokenKind × ℕ = (Some k.Integer, prefix_len is_ascii_digit z) in
    let after_words : Option TokenKind × ℕ = cond (is_ascii_digit first) digits last in
    let after_line : Option TokenKind × ℕ = cond (begins_word first) word after_words in
    let after_blank : Option TokenKind × ℕ = cond (first == 45 && slice_index z 1 == 45) (None, prefix_len is_in_line z)
    after_line in
    either_found z (is_blank first) (None, 1) after_blank (λ is. tt)
    (either_found z (first == 45 && slice_index z 1 == 45) (None, prefix_len is_in_line z) after_line (λ is. tt)
    (either_found z (begins_word first) word after_words (λ is e. word_begins z is)
    (either_found z (is_ascii_digit first) digits last (λ is e. cc)
    (either_found z (s && first == 39) found one (λ is e. absurd (string_other (closing 1 false (drop 1 z)) e))
    (λ e. absurd (symbol_other first (slice_index z 1) e))))))

-- a word's text is all its bytes
text_of_word : (kind : TokenKind) (len : ℕ) (z : List ℕ) → kind ≡ k.Word → text_of kind len z ≡ take len z
unfolding same_kind
text_of_word kind len z e = rw e refl

-- a token put before others
at_front_begins : (found : Option TokenKind) (len at : ℕ) (z : List ℕ) (more : List Token) → IfWord z found len → WordsBegin more
    → WordsBegin (at_front found len at z more)
at_front_begins None len at z more word words = words
at_front_begins (Some kind) len at z more word words =
    ((λ e. subst Begins (sym (text_of_word kind len z e)) (word e)), go (same_kind kind k.Bad))
  where
    go : (b : Bool) → WordsBegin (cond b [] more)
    go true = tt
    go false = words

tokens_from_begin : (s : Bool) (left at : ℕ) (z : List ℕ) → WordsBegin (tokens_from s left at z)
tokens_from_begin s left at [] = ((λ e. cc), tt)
tokens_from_begin s (suc left) at (b ∷ z) = tokens_from_begin s left (at + 1) z
tokens_from_begin s zero at (b ∷ z) =
    at_front_begins (front s (b ∷ z)).0 (front s (b ∷ z)).1 at (b ∷ z) _ (front_begins s (b ∷ z))
    (tokens_from_begin s ((front s (b ∷ z)).1 - 1) (at + 1) z)

-- a word begins with a letter or `_`
tokens_begin : (s : Bool) (text : List ℕ) → WordsBegin (tokens s text)
unfolding tokens
tokens_begin s text = tokens_from_begin s 0 0 text

-- ---- tables

module _ (geometry : List ℕ → Option ColumnShape) where
  -- a name that is written begins as a word does
  name_begins : (name : List ℕ) (ts : List Token) → WordsBegin ts → IsNamed name ts → Begins name
  name_begins name [] words is = absurd is
  name_begins name (t ∷ []) words is = subst Begins (sym is.1) (words.0 is.0)
  name_begins name (t ∷ u ∷ ts) words is = absurd is

  -- so does that of the first of some columns
  first_begins : (first : Marked ColumnShape) (more : List (Marked ColumnShape)) (ts : List Token) → WordsBegin ts
      → IsParts k.Comma (IsMarked geometry) first more ts → Begins first.0.name
  first_begins first [] ts words is =
      name_begins first.0.name is.0 (words_before is.0 is.1 (subst WordsBegin is.2 words)) is.3
  first_begins first (second ∷ more) ts words is =
      let front = words_before is.0 is.1 (subst WordsBegin is.2 words) in
      let name = is.3 in
      name_begins first.0.name name.0 (words_before name.0 name.1 (subst WordsBegin name.2 front)) name.3

  as_header : (columns : List (ColumnDef ColumnShape)) (first : Marked ColumnShape) (more : List (Marked ColumnShape))
      → columns ≡ map (λ c. c.0) (first ∷ more) → Begins first.0.name → BeginsWord (column_names columns)
  as_header columns first more e h = go first.0.name refl h
    where
      go : (name : List ℕ) → first.0.name ≡ name → Begins name → BeginsWord (column_names columns)
      go [] is h = absurd h
      go (byte ∷ bytes) is h = (
        byte,
        bytes,
        column_names (map (λ (c : Marked ColumnShape). c.0) more),
        ap (λ (l : List (ColumnDef ColumnShape)). column_names l) e ∙ ap (λ n. n ∷ column_names (map (λ (c : Marked
            ColumnShape). c.0) more)) is,
        h,
      )

  -- a table's
  table_begins : (table : TableDef ColumnShape) (ts : List Token) → WordsBegin ts → IsTable geometry table ts
      → BeginsWord (column_names table.columns)
  table_begins table ts words is =
      -- CREATE, TABLE, the name, the parenthesis, the columns, the parenthesis
      let create = is.4 in
      let after_create = words_behind create.0 create.1 (subst WordsBegin create.2 words) in
      let tables = create.4 in
      let after_table = words_behind tables.0 tables.1 (subst WordsBegin tables.2 after_create) in
      let name = tables.4 in
      let after_name = words_behind name.0 name.1 (subst WordsBegin name.2 after_table) in
      let left = name.4 in
      let after_left = words_behind left.0 left.1 (subst WordsBegin left.2 after_name) in
      let columns = left.4 in
      let in_columns = words_before columns.0 columns.1 (subst WordsBegin columns.2 after_left) in
      as_header table.columns is.0 is.1 is.2 (first_begins is.0 is.1 columns.0 in_columns columns.3)

  -- that of each of some tables
  each_begins : (first : TableDef ColumnShape) (more : List (TableDef ColumnShape)) (ts : List Token) → WordsBegin ts
      → IsParts k.Semicolon (IsTable geometry) first more ts → (place : ℕ) (table : TableDef ColumnShape)
      → slice_get (first ∷ more) place ≡ Some table → BeginsWord (column_names table.columns)
  each_begins first [] ts words is zero table at =
      subst (λ (t : TableDef ColumnShape). BeginsWord (column_names t.columns)) (same_Some first table at) (table_begins first
      ts words is)
  each_begins first [] ts words is (suc place) table at = nothing_there table at
  each_begins first (second ∷ more) ts words is zero table at =
      subst (λ (t : TableDef ColumnShape). BeginsWord (column_names t.columns)) (same_Some first table at)
      (table_begins first is.0 (words_before is.0 is.1 (subst WordsBegin is.2 words)) is.3)
  each_begins first (second ∷ more) ts words is (suc place) table at =
      let after = words_behind is.0 is.1 (subst WordsBegin is.2 words) in
      let between = is.4 in
      let rest = words_behind between.0 between.1 (subst WordsBegin between.2 after) in
      each_begins second more between.1 rest between.4 place table at

  tables_begin : (tables : List (TableDef ColumnShape)) (ts : List Token) → WordsBegin ts → AreTables geometry tables ts
      → (place : ℕ) (table : TableDef ColumnShape) → slice_get tables place ≡ Some table → BeginsWord (column_names table.columns)
  tables_begin tables ts words (inl none) place table at =
      nothing_there table (subst (λ l. slice_get l place ≡ Some table) none.0 at)
  tables_begin tables ts words (inr some) place table at =
      let all = some.3 in
      each_begins some.0 some.1 all.0 (words_before all.0 all.1 (subst WordsBegin all.2 words)) all.3 place table
      (subst (λ l. slice_get l place ≡ Some table) some.2 at)

pub schema_names_begin_words : SchemaNamesBeginWords
unfolding IsSchema
schema_names_begin_words geometry text tables place table is at =
    tables_begin geometry tables (tokens false text) (tokens_begin false text) is.2 place table at
