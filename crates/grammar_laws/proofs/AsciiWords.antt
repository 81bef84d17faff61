-- The words of a text are ASCII.
use Rattle.std.proofs.Common.{◌≡◌, ◌<◌, ℕ, zero, suc, ◌+◌, ◌-◌, Bool, true, false, ◌&&◌, ◌==◌, cond, List, [], ◌∷◌, ◌++◌, drop, take, slice_index, Option, Some, None, inl, inr, refl, ap, ◌∙◌, arith}
use Rattle.std.proofs.lemmas.Bool.{lt-ltb, leb-true, and_parts, or_cases}
use Rattle.std.specs.Char.{is_ascii_digit, is_ascii_alphabetic}
use Rattle.std.specs.Int.{is_in_range}
use Rattle.std.specs.List.{prefix_len}
use Rattle.table_model.specs.declared.tokens.Token.{Token}
use Rattle.table_model.specs.declared.tokens.TokenKind.{TokenKind}
use Rattle.table_model.specs.declared.tokens.TokenKind.TheVariants as k
use Rattle.table_model.specs.SchemaReading.{is_ascii}
use Rattle.table_model.specs.Tokens.{same_kind, is_blank, is_in_line, begins_word, continues_word, word_kind, symbol_of_one, symbol, closing, string_to, string, front, text_of, at_front, tokens_from, tokens}

abbrev pub AsciiWords : List Token → Type 0
AsciiWords [] = Unit {0}
AsciiWords (t ∷ ts) = (t.kind ≡ k.Word → is_ascii t.text ≡ true) × AsciiWords ts

-- where the words of tokens are ASCII, so are those of a front of them
pub words_before : (a b : List Token) → AsciiWords (a ++ b) → AsciiWords a
words_before [] b h = tt
words_before (t ∷ a) b h = (h.0, words_before a b h.1)

-- and those of the tokens behind it
pub words_behind : (a b : List Token) → AsciiWords (a ++ b) → AsciiWords b
words_behind [] b h = h
words_behind (t ∷ a) b h = words_behind a b h.1

-- ---- the bytes of a word

-- the bytes up to one below 128 are ASCII
in_range : (low high b : ℕ) → high < 128 → is_in_range low high b ≡ true → b < 128
in_range low high b few h = omega (arith, leb-true b high (and_parts _ _ h).1)

-- letters are ASCII, and so are all bytes that begin a word or go on with it: _ and the digits
letter : (b : ℕ) → is_ascii_alphabetic b ≡ true → b < 128
letter b h = elim (or_cases _ _ h) [ inl upper ↦ in_range 65 90 b (omega arith) upper | inr lower ↦ in_range 97 122 b (omega arith) lower ]

begins_ascii : (b : ℕ) → begins_word b ≡ true → b < 128
begins_ascii b h = elim (or_cases _ _ h) [ inl is ↦ letter b is | inr is ↦ grind arith ]

continues_ascii : (b : ℕ) → continues_word b ≡ true → b < 128
continues_ascii b h = elim (or_cases _ _ h) [ inl is ↦ begins_ascii b is | inr is ↦ in_range 48 57 b (omega arith) is ]

-- a byte more, where it passes
one_more : (b : ℕ) (z : List ℕ) (n : ℕ) (passes : Bool) → (passes ≡ true → b < 128) → is_ascii (take n z) ≡ true → is_ascii (take (cond passes (1 + n) 0) (b ∷ z)) ≡ true
one_more b z n false h rest = refl
one_more b z n true h rest =
    let more : 1 + n ≡ suc n = omega arith in
    rw (more, lt-ltb b 128 (h refl), rest) refl

-- the bytes at the front of a text that a word consists of are ASCII, one by one
word_ascii : (z : List ℕ) → is_ascii (take (prefix_len continues_word z) z) ≡ true
word_ascii [] = refl
word_ascii (b ∷ z) = one_more b z (prefix_len continues_word z) (continues_word b) (continues_ascii b) (word_ascii z)

-- ---- the kinds of token

-- a choice between two kinds that aren't a word isn't one
either_sized : (b : Bool) (x y : TokenKind × ℕ) → (x.0 ≡ k.Word → ⊥) → (y.0 ≡ k.Word → ⊥) → (cond b x y).0 ≡ k.Word → ⊥
either_sized true x y p q = p
either_sized false x y p q = q

-- no symbol of one byte is a word
one_other : (b : ℕ) → symbol_of_one b ≡ k.Word → ⊥
one_other b = λ e. grind arith

-- no symbol is a word, of two bytes or of one
symbol_other : (b next : ℕ) → (symbol b next).0 ≡ k.Word → ⊥
unfolding symbol
symbol_other b next =
    let one : TokenKind × ℕ = (symbol_of_one b, 1) in
    let differs : TokenKind × ℕ = cond (b == 33 && next == 61) (k.NotEqual, 2) one in
    let greater : TokenKind × ℕ = cond (b == 62 && next == 61) (k.GreaterOrEqual, 2) differs in
    let other : TokenKind × ℕ = cond (b == 60 && next == 62) (k.NotEqual, 2) greater in
    either_sized (b == 60 && next == 61) (k.LessOrEqual, 2) other (λ e. cc)
    (either_sized (b == 60 && next == 62) (k.NotEqual, 2) greater (λ e. cc)
    (either_sized (b == 62 && next == 61) (k.GreaterOrEqual, 2) differs (λ e. cc)
    (either_sized (b == 33 && next == 61) (k.NotEqual, 2) one (λ e. cc) (one_other b))))

-- a string is Text, or Bad where it isn't closed: never a word
string_other : (end : Option ℕ) → (string_to end).0 ≡ k.Word → ⊥
string_other None = λ e. cc
string_other (Some n) = λ e. cc

-- what is at the front of a text is no word, or it is ASCII
abbrev IfWord : List ℕ → Option TokenKind → ℕ → Type 0
IfWord z None len = Unit {0}
IfWord z (Some kind) len = kind ≡ k.Word → is_ascii (take len z) ≡ true

either_found : (z : List ℕ) (b : Bool) (x y : Option TokenKind × ℕ) → IfWord z x.0 x.1 → IfWord z y.0 y.1 → IfWord z (cond b x y).0 (cond b x y).1
either_found z true x y p q = p
either_found z false x y p q = q

-- case by case, blank, comment, word, digits, string or symbol: only the third may be a word, and its bytes are ASCII
front_ascii : (s : Bool) (z : List ℕ) → IfWord z (front s z).0 (front s z).1
unfolding front
front_ascii s z =
    let first = slice_index z 0 in
    let word : Option TokenKind × ℕ = (Some (word_kind (take (prefix_len continues_word z) z)), prefix_len continues_word z) in
    let found : Option TokenKind × ℕ = (Some (string z).0, (string z).1) in
    let one : Option TokenKind × ℕ = (Some (symbol first (slice_index z 1)).0, (symbol first (slice_index z 1)).1) in
    let last : Option TokenKind × ℕ = cond (s && first == 39) found one in
    let digits : Option TokenKind × ℕ = (Some k.Integer, prefix_len is_ascii_digit z) in
    let after_words : Option TokenKind × ℕ = cond (is_ascii_digit first) digits last in
    let after_line : Option TokenKind × ℕ = cond (begins_word first) word after_words in
    let after_blank : Option TokenKind × ℕ = cond (first == 45 && slice_index z 1 == 45) (None, prefix_len is_in_line z) after_line in
    either_found z (is_blank first) (None, 1) after_blank tt
    (either_found z (first == 45 && slice_index z 1 == 45) (None, prefix_len is_in_line z) after_line tt
    (either_found z (begins_word first) word after_words (λ e. word_ascii z)
    (either_found z (is_ascii_digit first) digits last (λ e. cc)
    (either_found z (s && first == 39) found one (λ e. absurd (string_other (closing 1 false (drop 1 z)) e)) (λ e. absurd (symbol_other first (slice_index z 1) e))))))

-- a word's text is all its bytes: only a string's leaves its quotes out
text_of_word : (kind : TokenKind) (len : ℕ) (z : List ℕ) → kind ≡ k.Word → text_of kind len z ≡ take len z
unfolding same_kind
text_of_word kind len z e = rw e refl

-- a token put before others: its text is ASCII where it is a word, and theirs stays so
at_front_ascii : (found : Option TokenKind) (len at : ℕ) (z : List ℕ) (more : List Token) → IfWord z found len → AsciiWords more → AsciiWords (at_front found len at z more)
at_front_ascii None len at z more word words = words
at_front_ascii (Some kind) len at z more word words = ((λ e. ap is_ascii (text_of_word kind len z e) ∙ word e), go (same_kind kind k.Bad))
  where
    go : (b : Bool) → AsciiWords (cond b [] more)
    go true = tt
    go false = words

-- byte by byte: the rest of a token that began before is passed over, and what begins here is put in front
tokens_from_ascii : (s : Bool) (left at : ℕ) (z : List ℕ) → AsciiWords (tokens_from s left at z)
tokens_from_ascii s left at [] = ((λ e. cc), tt)
tokens_from_ascii s (suc left) at (b ∷ z) = tokens_from_ascii s left (at + 1) z
tokens_from_ascii s zero at (b ∷ z) =
    at_front_ascii (front s (b ∷ z)).0 (front s (b ∷ z)).1 at (b ∷ z) _ (front_ascii s (b ∷ z)) (tokens_from_ascii s ((front s (b ∷ z)).1 - 1) (at + 1) z)

-- a word's bytes are letters, digits and _, and those are ASCII
pub tokens_ascii : (s : Bool) (text : List ℕ) → AsciiWords (tokens s text)
unfolding tokens
tokens_ascii s text = tokens_from_ascii s 0 0 text
