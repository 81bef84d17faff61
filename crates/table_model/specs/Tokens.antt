-- Tokens of schema and query texts. At each place the longest token is taken.
use Rattle.std.specs.Prelude.{◌≡◌, ℕ, zero, suc, ◌+◌, ◌-◌, Bool, true, false, not, ◌&&◌, ◌||◌, if◌then◌else◌, ◌==◌, List, [], ◌∷◌, length, take, drop, slice_index, Option, Some, None, codes}
use Rattle.std.specs.Char.{is_ascii_alphabetic, is_ascii_digit}
use Rattle.std.specs.List.{prefix_len}
use denote.Enum.Bare.{sameb}
use Rattle.table_model.specs.contracts.tokens.TokenKind.{the_type}
use Rattle.table_model.specs.declared.tokens.Token.{Token}
use Rattle.table_model.specs.declared.tokens.TokenKind.{TokenKind}
use Rattle.table_model.specs.declared.tokens.TokenKind.TheVariants as k
use Rattle.table_model.specs.Texts.{same_name}

-- whether two kinds of token are the same
unfoldable pub same_kind : TokenKind → TokenKind → Bool
same_kind = sameb the_type

-- ---- bytes

-- space, tab, line feed or carriage return
abbrev pub is_blank : ℕ → Bool
is_blank b = b == 32 || b == 9 || b == 10 || b == 13

-- an ASCII letter or `_`
abbrev pub begins_word : ℕ → Bool
begins_word b = is_ascii_alphabetic b || b == 95

-- a letter, `_` or a digit
abbrev pub continues_word : ℕ → Bool
continues_word b = begins_word b || is_ascii_digit b

-- anything but a line feed
abbrev pub is_in_line : ℕ → Bool
is_in_line b = not (b == 10)

-- ---- words

-- the reserved words, which are never names
abbrev pub reserved_words : List (List ℕ × TokenKind)
reserved_words =
    (codes "SELECT", k.Select) ∷ (codes "FROM", k.From) ∷ (codes "WHERE", k.Where) ∷ (codes "AND", k.And) ∷ (codes "OR", k.Or)
    ∷ (codes "NOT", k.Not) ∷ (codes "IS", k.Is) ∷ (codes "NULL", k.Null) ∷ (codes "JOIN", k.Join) ∷ (codes "INNER", k.Inner)
    ∷ (codes "CROSS", k.Cross) ∷ (codes "ON", k.On) ∷ (codes "AS", k.As) ∷ (codes "LIMIT", k.Limit) ∷ []

-- the kind of a word by a list of reserved words, in any ASCII case
abbrev pub kind_in : List (List ℕ × TokenKind) → List ℕ → TokenKind
kind_in [] word = k.Word
kind_in (r ∷ rs) word = if same_name r.0 word then r.1 else kind_in rs word

-- the kind of a word: a reserved word has its own
unfoldable pub word_kind : List ℕ → TokenKind
word_kind = kind_in reserved_words

-- ---- symbols, by their first byte and the one after it, which is 0 at the end of the text

-- the kind of a symbol of one byte, Bad where there is none
abbrev pub symbol_of_one : ℕ → TokenKind
symbol_of_one b =
    if b == 40 then k.LeftParenthesis else (if b == 41 then k.RightParenthesis else (if b == 44 then k.Comma else (if b == 46 then k.Point
    else (if b == 59 then k.Semicolon else (if b == 42 then k.Star else (if b == 43 then k.Plus else (if b == 45 then k.Minus
    else (if b == 61 then k.Equal else (if b == 60 then k.Less else (if b == 62 then k.Greater else k.Bad))))))))))

-- the kind and the length of the longest symbol that begins with these two bytes
unfoldable pub symbol : ℕ → ℕ → TokenKind × ℕ
symbol b next =
    if b == 60 && next == 61 then (k.LessOrEqual, 2) else (if b == 60 && next == 62 then (k.NotEqual, 2)
    else (if b == 62 && next == 61 then (k.GreaterOrEqual, 2) else (if b == 33 && next == 61 then (k.NotEqual, 2)
    else (symbol_of_one b, 1))))

-- ---- strings

-- The place after the quote that closes a string, for its bytes from a place on; none where it isn't closed. A
-- doubled quote doesn't close it. The Bool says that the byte before is a quote that closes it unless another follows.
abbrev pub closing : ℕ → Bool → List ℕ → Option ℕ
closing at true [] = Some at
closing at false [] = None
closing at true (b ∷ z) = if b == 39 then closing (at + 1) false z else Some at
closing at false (b ∷ z) = closing (at + 1) (b == 39) z

-- a string that ends before this place; Bad, of one byte, where it isn't closed
abbrev pub string_to : Option ℕ → TokenKind × ℕ
string_to None = (k.Bad, 1)
string_to (Some end) = (k.Text, end)

-- the string whose first quote begins a text
abbrev pub string : List ℕ → TokenKind × ℕ
string z = string_to (closing 1 false (drop 1 z))

-- ---- tokens

-- The kind and the length of what is at the front of a text that isn't empty: no kind for white space and
-- comments, Bad for a byte that begins no token. Strings are tokens where the Bool says so.
unfoldable pub front : Bool → List ℕ → Option TokenKind × ℕ
front strings z =
    let b = slice_index z 0 in
    let next = slice_index z 1 in
    let some : TokenKind × ℕ → Option TokenKind × ℕ = λ t. (Some t.0, t.1) in
    if is_blank b then (None, 1)
    else (if b == 45 && next == 45 then (None, prefix_len is_in_line z)
    else (if begins_word b then (Some (word_kind (take (prefix_len continues_word z) z)), prefix_len continues_word z)
    else (if is_ascii_digit b then (Some k.Integer, prefix_len is_ascii_digit z)
    else (if strings && b == 39 then some (string z) else some (symbol b next)))))

-- the text of a token of this kind and length at the front of a text: a string's is between its quotes
abbrev pub text_of : TokenKind → ℕ → List ℕ → List ℕ
text_of kind len z = if same_kind kind k.Text then take (len - 2) (drop 1 z) else take len z

-- a token at a place, followed by the others; none follow a bad one
abbrev pub at_front : Option TokenKind → ℕ → ℕ → List ℕ → List Token → List Token
at_front None len at z more = more
at_front (Some kind) len at z more = record { kind = kind; text = text_of kind len z; at = at } ∷ (if same_kind kind k.Bad then [] else more)

-- the tokens of the bytes from a place on, where the first number says how many of them belong to what began before
abbrev pub tokens_from : Bool → ℕ → ℕ → List ℕ → List Token
tokens_from strings left at [] = record { kind = k.End; text = []; at = at } ∷ []
tokens_from strings (suc left) at (b ∷ z) = tokens_from strings left (at + 1) z
tokens_from strings zero at (b ∷ z) =
    let f = front strings (b ∷ z) in at_front f.0 f.1 at (b ∷ z) (tokens_from strings (f.1 - 1) (at + 1) z)

-- the tokens of a text in order, with their places; strings are tokens of queries alone. The last is End, at the text's
-- length, or Bad: a byte that begins no token, or the first quote of a string that isn't closed
unfoldable pub tokens : Bool → List ℕ → List Token
tokens strings text = tokens_from strings 0 0 text

-- the most bytes of the text of a schema, and of a query: 65,536 (this project's choice)
abbrev pub most_bytes : ℕ
most_bytes = 65536

-- the place where the text of a token begins
abbrev pub text_place : Token → ℕ
text_place t = if same_kind t.kind k.Text then t.at + 1 else t.at

-- a token's text is the part of the whole text at its place
abbrev pub IsSlice : List ℕ → Token → Type 0
IsSlice whole t = t.text ≡ take (length t.text) (drop (text_place t) whole)
