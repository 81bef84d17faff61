-- The parts of a text: its tokens with their bytes, the first byte that begins none, and which tokens are constants of a query.
use Rattle.std.specs.Prelude.{ℕ, ◌+◌, Bool, true, false, ◌==◌, ◌&&◌, ◌||◌, if◌then◌else◌, List, [], ◌∷◌, codes, drop, length, slice_index}
use Rattle.std.specs.List.{prefix_len}
use Rattle.sfq_tables.specs.declared.text_parts.Before.{Before}
use Rattle.sfq_tables.specs.declared.text_parts.Called.{Called}
use Rattle.sfq_tables.specs.declared.text_parts.Called.TheVariants as called
use Rattle.sfq_tables.specs.declared.text_parts.TextPart.{TextPart}
use Rattle.table_model.specs.Texts.{same_name}
use Rattle.table_model.specs.Tokens.{begins_word, continues_word, same_kind, tokens}
use Rattle.table_model.specs.declared.tokens.Token.{Token}
use Rattle.table_model.specs.declared.tokens.TokenKind.{TokenKind}
use Rattle.table_model.specs.declared.tokens.TokenKind.TheVariants as k

-- ---- what a token is

-- the number of a kind: 0 of a word that isn't reserved, 1 of a reserved one, 2 of digits, 3 of a string, 4 of a symbol, 5 of a
-- semicolon, 9 of a byte that begins no token, 10 of the end
abbrev pub part_kind : TokenKind → ℕ
part_kind k.Word = 0
part_kind k.Integer = 2
part_kind k.Text = 3
part_kind k.LeftParenthesis = 4
part_kind k.RightParenthesis = 4
part_kind k.Comma = 4
part_kind k.Point = 4
part_kind k.Semicolon = 5
part_kind k.Star = 4
part_kind k.Plus = 4
part_kind k.Minus = 4
part_kind k.Equal = 4
part_kind k.NotEqual = 4
part_kind k.Less = 4
part_kind k.LessOrEqual = 4
part_kind k.Greater = 4
part_kind k.GreaterOrEqual = 4
part_kind k.Select = 1
part_kind k.From = 1
part_kind k.Where = 1
part_kind k.And = 1
part_kind k.Or = 1
part_kind k.Not = 1
part_kind k.Is = 1
part_kind k.Null = 1
part_kind k.Join = 1
part_kind k.Inner = 1
part_kind k.Cross = 1
part_kind k.On = 1
part_kind k.As = 1
part_kind k.Limit = 1
part_kind k.Bad = 9
part_kind k.End = 10

-- how many bytes a token has: a string has two quotes besides
abbrev pub token_size : Token → ℕ
token_size t = if same_kind t.kind k.Text then length t.text + 2 else length t.text

-- what begins at the front of a text where no token does, and how many bytes it has: 6 for `?` and 7 for `:` and the name right behind
-- it, which are parameters; 8 for a string that isn't closed, which goes to the end; 9 for any other byte (SQL, dynamic parameters; those
-- with names: this project's choice)
abbrev pub unread : List ℕ → ℕ × ℕ
unread z =
    if slice_index z 0 == 63 then (6, 1)
    else (if slice_index z 0 == 58 && begins_word (slice_index z 1) then (7, prefix_len continues_word (drop 1 z) + 1)
    else (if slice_index z 0 == 39 then (8, length z) else (9, 1)))

-- ---- which tokens are constants

-- what a token calls if a parenthesis follows it: nothing, if it is no word
abbrev pub called_by : Token → Called
called_by t =
    if same_kind t.kind k.Word then
    (if same_name t.text (codes "ST_GeomFromText") then called.Shape
    else (if same_name t.text (codes "ST_AsText") || same_name t.text (codes "ST_Dimension") then called.Value else called.Test))
    else called.Nothing

-- the function that was called last, behind a parenthesis with this word before it
abbrev pub last_called : Called → Called → Called
last_called called.Nothing function = function
last_called called.Shape function = function
last_called called.Value function = called.Value
last_called called.Test function = called.Test

-- what comes before the first token
abbrev pub at_first : Before
at_first = record { last = k.End; one_before = k.End; word = called.Nothing; opened = called.Nothing; function = called.Nothing }

-- what comes before the token behind this one
abbrev pub before_next : Before → Token → Before
before_next before t = record {
  last = t.kind;
  one_before = before.last;
  word = called_by t;
  opened = if same_kind t.kind k.LeftParenthesis then before.word else called.Nothing;
  function = if same_kind t.kind k.LeftParenthesis then last_called before.word before.function else before.function;
}

-- the number of a string's type in a function's parenthesis: 2, of a geometry, in ST_GeomFromText, and else 1, of a text
abbrev pub string_number_in : Called → ℕ
string_number_in called.Nothing = 1
string_number_in called.Shape = 2
string_number_in called.Value = 1
string_number_in called.Test = 1

-- the number of a string's type; 4, of none, behind a comma: a pattern of ST_Relate
abbrev pub string_number : Before → ℕ
string_number before = if same_kind before.last k.Comma then 4 else string_number_in before.opened

-- whether a function is true or false
abbrev pub is_test : Called → Bool
is_test called.Nothing = false
is_test called.Shape = false
is_test called.Value = false
is_test called.Test = true

-- whether a number says that a predicate is to be true or false: behind its parenthesis and `=`
abbrev pub is_truth : Before → Bool
is_truth before = (same_kind before.last k.Equal && same_kind before.one_before k.RightParenthesis) && is_test before.function

-- the number of the type of a constant: 0 of a number, 1 of a text, 2 of a geometry, 3 of NULL; it is 4 of a token that is no constant: a
-- pattern, the number of LIMIT, the 0 or 1 behind a predicate, the NULL of IS NULL; what begins no token, as a parameter does, has that of
-- a string in its place (SQL, ON and WHERE)
abbrev pub part_constant : Before → TokenKind → ℕ
part_constant before kind =
    if same_kind kind k.Text || same_kind kind k.Bad then string_number before
    else (if same_kind kind k.Integer then (if same_kind before.last k.Limit || is_truth before then 4 else 0)
    else (if same_kind kind k.Null then
    (if same_kind before.last k.Is || (same_kind before.last k.Not && same_kind before.one_before k.Is) then 4 else 3)
    else 4))

-- ---- parts

-- a token of a text with what it is
abbrev pub part_at : List ℕ → Before → Token → TextPart
part_at text before t =
    let is : ℕ × ℕ = if same_kind t.kind k.Bad then unread (drop t.at text) else (part_kind t.kind, token_size t) in
    record { kind = is.0; constant = part_constant before t.kind; at = t.at; size = is.1 }

-- the parts that are some tokens of a text, where what comes before them is known
abbrev pub text_parts_from : List ℕ → Before → List Token → List TextPart
text_parts_from text before [] = []
text_parts_from text before (t ∷ ts) = part_at text before t ∷ text_parts_from text (before_next before t) ts

-- the parts of a text: its tokens, and behind them the first byte that begins none, or the end (SQL, tokens)
abbrev pub text_parts : List ℕ → List TextPart
text_parts text = text_parts_from text at_first (tokens true text)
