-- Which bytes are shown as the characters that they spell, and how many columns they take.
use Rattle.std.proofs.Common.{◌≡◌, ◌∙◌, ◌+◌, ◌≤◌, ◌<◌, ◌++◌, ◌&&◌, [], ◌∷◌, ℕ, Bool, true, false, List, ap, arith, drop, length, not, refl, sym, take}
use Rattle.std.proofs.lemmas.List.{drop-append-le, drop_more, get_or-take, length-take-le, take_more}
use Rattle.std.specs.Prelude.{slice_index}
use Rattle.std.proofs.lemmas.Str.{IsUtf8-from_is_utf8, is_utf8-from_IsUtf8}
use Rattle.std.specs.List.{list_any}
use Rattle.std.specs.Str.{IsUtf8, chars, is_utf8}
use Rattle.explanations.specs.Marks.{begins_character, columns, is_hidden, is_plain, width}

-- those of a text none of whose characters is hidden
pub plain_text : (line text : List ℕ) (hidden : Bool) → text ≡ line → IsUtf8 line → hidden ≡ list_any is_hidden (chars text)
    → not hidden ≡ is_plain line
plain_text line text hidden same is found =
    ap not (found ∙ ap (λ t. list_any is_hidden (chars t)) same)
    ∙ sym (ap (λ b. b && not (list_any is_hidden (chars line))) (is_utf8-from_IsUtf8 line is))

-- not those that aren't UTF-8
pub plain_none : (line : List ℕ) → ¬ (IsUtf8 line) → false ≡ is_plain line
plain_none line isnt = go (is_utf8 line) refl
  where
    go : (b : Bool) → is_utf8 line ≡ b → false ≡ is_plain line
    go true e = absurd (isnt (IsUtf8-from_is_utf8 line e))
    go false e = sym (ap (λ b. b && not (list_any is_hidden (chars line))) e)

-- ---- columns

columns_push : (utf8 : Bool) (bytes : List ℕ) (byte : ℕ)
    → columns utf8 (bytes ++ byte ∷ []) ≡ columns utf8 bytes + width utf8 byte
columns_push utf8 [] byte =
    let all : width utf8 byte + 0 ≡ 0 + width utf8 byte = omega arith in all
columns_push utf8 (first ∷ more) byte =
    let behind = columns_push utf8 more byte in
    let all : width utf8 first + columns utf8 (more ++ byte ∷ []) ≡ (width utf8 first + columns utf8 more) + width utf8 byte =
    omega (arith, behind) in all

-- one byte more before a place
pub columns_before : (utf8 : Bool) (text : List ℕ) (from place : ℕ) → from < place → place ≤ length text
    → columns utf8 (drop from (take place text))
    ≡ width utf8 (slice_index text from) + columns utf8 (drop (from + 1) (take place text))
columns_before utf8 text from place less within =
    let size = length-take-le place text within in
    ap (columns utf8) (drop_more (take place text) from 0 (omega (arith, size, less)))
    ∙ ap (λ byte. width utf8 byte + columns utf8 (drop (from + 1) (take place text))) (get_or-take place text from 0 less)

-- and one more behind it
pub columns_behind : (utf8 : Bool) (text : List ℕ) (place to : ℕ) → place ≤ to → to < length text
    → columns utf8 (drop place (take (to + 1) text)) ≡ columns utf8 (drop place (take to text)) + width utf8 (slice_index text to)
columns_behind utf8 text place to from within =
    let size = length-take-le to text (omega (arith, within)) in
    let byte = slice_index text to in
    ap (λ bytes. columns utf8 (drop place bytes)) (take_more text to 0 within)
    ∙ ap (columns utf8) (drop-append-le place (take to text) (byte ∷ []) (omega (arith, size, from)))
    ∙ columns_push utf8 (drop place (take to text)) byte

-- a byte behind the first of a character takes none
pub inner_width : (utf8 : Bool) (byte : ℕ) → utf8 ≡ true → begins_character byte ≡ false → width utf8 byte ≡ 0
inner_width utf8 byte is inner = rw (is, inner) refl
