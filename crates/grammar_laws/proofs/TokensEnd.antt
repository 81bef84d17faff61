-- The end of the text is the last token of it, and no other is of its kind.
use Rattle.std.proofs.Common.{◌≡◌, ℕ, zero, suc, ◌+◌, ◌-◌, Bool, true, false, ◌&&◌, ◌==◌, cond, List, [], ◌∷◌, drop, take, slice_index, Option, Some, None, refl, arith}
use Rattle.std.specs.Char.{is_ascii_digit}
use Rattle.std.specs.List.{prefix_len}
use Rattle.table_model.specs.declared.tokens.Token.{Token}
use Rattle.table_model.specs.declared.tokens.TokenKind.{TokenKind}
use Rattle.table_model.specs.declared.tokens.TokenKind.TheVariants as k
use Rattle.table_model.specs.Texts.{same_name}
use Rattle.table_model.specs.Tokens.{same_kind, is_blank, is_in_line, begins_word, continues_word, reserved_words, kind_in, word_kind, symbol_of_one, symbol, closing, string_to, string, front, at_front, tokens_from, tokens}
use Rattle.grammar_laws.proofs.QuerySound.{EndsOnce}

IsOther : TokenKind → Type 0
IsOther kind = kind ≡ k.End → ⊥

-- a choice between two kinds that aren't End isn't End; so for a kind with its length and for what is found at the front
either : (b : Bool) (x y : TokenKind) → (x ≡ k.End → ⊥) → (y ≡ k.End → ⊥) → cond b x y ≡ k.End → ⊥
either true x y p q = p
either false x y p q = q

either_sized : (b : Bool) (x y : TokenKind × ℕ) → (x.0 ≡ k.End → ⊥) → (y.0 ≡ k.End → ⊥) → (cond b x y).0 ≡ k.End → ⊥
either_sized true x y p q = p
either_sized false x y p q = q

abbrev pub NotEnd : Option TokenKind → Type 0
NotEnd None = Unit {0}
NotEnd (Some kind) = kind ≡ k.End → ⊥

either_found : (b : Bool) (x y : Option TokenKind × ℕ) → NotEnd x.0 → NotEnd y.0 → NotEnd (cond b x y).0
either_found true x y p q = p
either_found false x y p q = q

abbrev pub NoneEnds : List (List ℕ × TokenKind) → Type 0
NoneEnds [] = Unit {0}
NoneEnds (r ∷ rs) = (r.1 ≡ k.End → ⊥) × NoneEnds rs

-- a word's kind is that of a reserved word or Word, so it isn't End where no reserved word's is
kind_in_other : (rs : List (List ℕ × TokenKind)) (word : List ℕ) → NoneEnds rs → kind_in rs word ≡ k.End → ⊥
kind_in_other [] word h = λ e. cc
kind_in_other (r ∷ rs) word h = either (same_name r.0 word) r.1 (kind_in rs word) h.0 (kind_in_other rs word h.1)

-- no word is End: none of the reserved words is
word_other : (word : List ℕ) → word_kind word ≡ k.End → ⊥
unfolding word_kind
word_other word = kind_in_other reserved_words word
    ((λ e. cc), ((λ e. cc), ((λ e. cc), ((λ e. cc), ((λ e. cc), ((λ e. cc), ((λ e. cc), ((λ e. cc), ((λ e. cc), ((λ e. cc), ((λ e. cc), ((λ e. cc), ((λ e. cc), ((λ e. cc), tt))))))))))))))

-- no symbol of one byte is End
one_other : (b : ℕ) → symbol_of_one b ≡ k.End → ⊥
one_other b = λ e. grind arith

-- no symbol is End, of two bytes or of one
symbol_other : (b next : ℕ) → (symbol b next).0 ≡ k.End → ⊥
unfolding symbol
symbol_other b next =
    let one : TokenKind × ℕ = (symbol_of_one b, 1) in
    let differs : TokenKind × ℕ = cond (b == 33 && next == 61) (k.NotEqual, 2) one in
    let greater : TokenKind × ℕ = cond (b == 62 && next == 61) (k.GreaterOrEqual, 2) differs in
    let differs_too : TokenKind × ℕ = cond (b == 60 && next == 62) (k.NotEqual, 2) greater in
    either_sized (b == 60 && next == 61) (k.LessOrEqual, 2) differs_too (λ e. cc)
    (either_sized (b == 60 && next == 62) (k.NotEqual, 2) greater (λ e. cc)
    (either_sized (b == 62 && next == 61) (k.GreaterOrEqual, 2) differs (λ e. cc)
    (either_sized (b == 33 && next == 61) (k.NotEqual, 2) one (λ e. cc) (one_other b))))

-- a string is Text, or Bad where it isn't closed: never End
string_other : (end : Option ℕ) → (string_to end).0 ≡ k.End → ⊥
string_other None = λ e. cc
string_other (Some n) = λ e. cc

-- what is at the front of a text that isn't empty isn't End, case by case: word, digits, string or symbol
front_other : (s : Bool) (z : List ℕ) → NotEnd (front s z).0
unfolding front
front_other s z =
    let first = slice_index z 0 in
    let word : Option TokenKind × ℕ = (Some (word_kind (take (prefix_len continues_word z) z)), prefix_len continues_word z) in
    let found : Option TokenKind × ℕ = (Some (string z).0, (string z).1) in
    let one : Option TokenKind × ℕ = (Some (symbol first (slice_index z 1)).0, (symbol first (slice_index z 1)).1) in
    let last : Option TokenKind × ℕ = cond (s && first == 39) found one in
    let digits : Option TokenKind × ℕ = (Some k.Integer, prefix_len is_ascii_digit z) in
    let after_words : Option TokenKind × ℕ = cond (is_ascii_digit first) digits last in
    let after_line : Option TokenKind × ℕ = cond (begins_word first) word after_words in
    let after_blank : Option TokenKind × ℕ = cond (first == 45 && slice_index z 1 == 45) (None, prefix_len is_in_line z) after_line in
    either_found (is_blank first) (None, 1) after_blank tt
    (either_found (first == 45 && slice_index z 1 == 45) (None, prefix_len is_in_line z) after_line tt
    (either_found (begins_word first) word after_words (word_other (take (prefix_len continues_word z) z))
    (either_found (is_ascii_digit first) digits last (λ e. cc)
    (either_found (s && first == 39) found one (string_other (closing 1 false (drop 1 z))) (symbol_other first (slice_index z 1))))))

-- a token other than End may be put before tokens of which End is the last; a bad one ends them itself
at_front_once : (found : Option TokenKind) (len at : ℕ) (z : List ℕ) (more : List Token) → NotEnd found → EndsOnce more → EndsOnce (at_front found len at z more)
at_front_once None len at z more other once = once
at_front_once (Some kind) len at z more other once = ((λ e. absurd (other e)), go (same_kind kind k.Bad))
  where
    go : (b : Bool) → EndsOnce (cond b [] more)
    go true = tt
    go false = once

-- byte by byte: End is made where none is left, and nowhere else
tokens_from_once : (s : Bool) (left at : ℕ) (z : List ℕ) → EndsOnce (tokens_from s left at z)
tokens_from_once s left at [] = ((λ e. refl), tt)
tokens_from_once s (suc left) at (b ∷ z) = tokens_from_once s left (at + 1) z
tokens_from_once s zero at (b ∷ z) =
    at_front_once (front s (b ∷ z)).0 (front s (b ∷ z)).1 at (b ∷ z) _ (front_other s (b ∷ z)) (tokens_from_once s ((front s (b ∷ z)).1 - 1) (at + 1) z)

-- each token before the last is cut from bytes of the text, and End is where none are left
pub tokens_once : (s : Bool) (text : List ℕ) → EndsOnce (tokens s text)
unfolding tokens
tokens_once s text = tokens_from_once s 0 0 text
