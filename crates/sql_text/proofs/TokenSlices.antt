-- The text of each token is the part of the whole text at its place.
use Rattle.std.proofs.Common.{◌≡◌, ℕ, zero, suc, ◌+◌, ◌-◌, Bool, true, false, if◌then◌else◌, List, [], ◌∷◌, ◌++◌, length, drop, take, Option, Some, None, refl, subst, ap, append_assoc, length-append}
use Rattle.std.proofs.Math.Seq.{drop-append_seam, drop-append-add}
use Rattle.std.specs.List.{AllByRecursion}
use Rattle.table_model.specs.declared.tokens.Token.{Token}
use Rattle.table_model.specs.declared.tokens.TokenKind.{TokenKind}
use Rattle.table_model.specs.declared.tokens.TokenKind.TheVariants as k
use Rattle.table_model.specs.Tokens.{same_kind, front, text_of, at_front, tokens_from, tokens, IsSlice}

-- what is taken is as long as itself
take_itself : (n : ℕ) (z : List ℕ) → take n z ≡ take (length (take n z)) z
take_itself zero z = refl
take_itself (suc n) [] = refl
take_itself (suc n) (b ∷ z) = ap (λ r. b ∷ r) (take_itself n z)

-- the text of a token is what is at its place: without the quotes where it is a text
text_is_slice : (before z : List ℕ) (kind : TokenKind) (len : ℕ) → IsSlice (before ++ z) (record { kind = kind; text = text_of kind len z; at = length before })
text_is_slice before z kind len = go (same_kind kind k.Text)
  where
    go : (b : Bool) → (if b then take (len - 2) (drop 1 z) else take len z)
        ≡ take (length (if b then take (len - 2) (drop 1 z) else take len z)) (drop (if b then length before + 1 else length before) (before ++ z))
    go true = rw drop-append-add (take_itself (len - 2) (drop 1 z))
    go false = rw drop-append_seam (take_itself len z)

-- a token at the front is such a part, and those behind it are so already
at_front_slices : (whole : List ℕ) (found : Option TokenKind) (len at : ℕ) (z : List ℕ) (more : List Token)
    → ((kind : TokenKind) → IsSlice whole (record { kind = kind; text = text_of kind len z; at = at })) → AllByRecursion (IsSlice whole) more
    → AllByRecursion (IsSlice whole) (at_front found len at z more)
at_front_slices whole None len at z more slice all = all
at_front_slices whole (Some kind) len at z more slice all = (slice kind, go (same_kind kind k.Bad))
  where
    go : (b : Bool) → AllByRecursion (IsSlice whole) (if b then [] else more)
    go true = tt
    go false = all

-- what holds of the tokens after one byte more before them
byte_before : (s : Bool) (left : ℕ) (before : List ℕ) (b : ℕ) (z : List ℕ)
    → AllByRecursion (IsSlice ((before ++ b ∷ []) ++ z)) (tokens_from s left (length (before ++ b ∷ [])) z)
    → AllByRecursion (IsSlice (before ++ b ∷ z)) (tokens_from s left (length before + 1) z)
byte_before s left before b z h =
    let longer : length (before ++ b ∷ []) ≡ length before + 1 = length-append before (b ∷ []) in
    subst (λ whole. AllByRecursion (IsSlice whole) (tokens_from s left (length before + 1) z)) (append_assoc before (b ∷ []) z)
    (subst (λ n. AllByRecursion (IsSlice ((before ++ b ∷ []) ++ z)) (tokens_from s left n z)) longer h)

-- so all tokens from a place on are parts of the whole text, one byte after another
slices_from : (s : Bool) (left : ℕ) (before z : List ℕ) → AllByRecursion (IsSlice (before ++ z)) (tokens_from s left (length before) z)
slices_from s left before [] = (refl, tt)
slices_from s (suc left) before (b ∷ z) = byte_before s left before b z (slices_from s left (before ++ b ∷ []) z)
slices_from s zero before (b ∷ z) =
    at_front_slices (before ++ b ∷ z) (front s (b ∷ z)).0 (front s (b ∷ z)).1 (length before) (b ∷ z) _
    (λ kind. text_is_slice before (b ∷ z) kind (front s (b ∷ z)).1)
    (byte_before s ((front s (b ∷ z)).1 - 1) before b z (slices_from s ((front s (b ∷ z)).1 - 1) (before ++ b ∷ []) z))

-- and so are all tokens of a text
pub tokens_slices : (s : Bool) (text : List ℕ) → AllByRecursion (IsSlice text) (tokens s text)
unfolding tokens
tokens_slices s text = slices_from s 0 [] text
