-- What writes a pattern is ASCII, so it is a text.
use Rattle.std.proofs.Common.{◌≡◌, ◌<◌, inl, inr, ℕ, zero, suc, Bool, true, false, if◌then◌else◌, List, [], ◌∷◌, Option, Some, None, refl, arith}
use Rattle.std.specs.Prelude.{◌||◌, ◌==◌, option_and_then}
use Rattle.std.specs.Str.{IsAscii, IsUtf8}
use Rattle.std.proofs.lemmas.Bool.{eqb-true, or_cases}
use Rattle.std.proofs.lemmas.Option.{option_and_then_some}
use Rattle.std.proofs.lemmas.Str.{IsUtf8-from_ascii}
use Rattle.geometry_model.specs.Patterns.{character_of, characters_of, pattern_of, pattern_of_text}
use Rattle.geometry_model.specs.declared.relations.PatternCharacter.{PatternCharacter}

-- a byte that is one of two is ASCII where these are
one_of : (byte a b : ℕ) → a < 128 → b < 128 → (byte == a || byte == b) ≡ true → byte < 128
one_of byte a b small too is = elim (or_cases (byte == a) (byte == b) is) [
  | inl first ↦ omega (arith, eqb-true byte a first)
  | inr second ↦ omega (arith, eqb-true byte b second)
]

-- what follows of a choice follows of each of its sides
of_choice : {X : Type 0} (test : Bool) (x y : X) (o : Option X) (P : Type 0) → (test ≡ true → P) → (o ≡ Some y → P) → (if test then Some x else o) ≡ Some y → P
of_choice true x y o P is other e = is refl
of_choice false x y o P is other e = other e

-- a byte that writes a character of a pattern is one of a few, each of which is ASCII
is_character : (byte : ℕ) (c : PatternCharacter) → character_of byte ≡ Some c → byte < 128
is_character byte c =
    of_choice (byte == 84 || byte == 116) _ c _ (byte < 128) (one_of byte 84 116 (omega arith) (omega arith))
    (of_choice (byte == 70 || byte == 102) _ c _ (byte < 128) (one_of byte 70 102 (omega arith) (omega arith))
    (of_choice (byte == 42) _ c _ (byte < 128) (λ h. omega (arith, eqb-true byte 42 h))
    (of_choice (byte == 48) _ c _ (byte < 128) (λ h. omega (arith, eqb-true byte 48 h))
    (of_choice (byte == 49) _ c _ (byte < 128) (λ h. omega (arith, eqb-true byte 49 h))
    (of_choice (byte == 50) _ c None (byte < 128) (λ h. omega (arith, eqb-true byte 50 h)) (λ e. absurd (none c e)))))))
  where
    none : (c : PatternCharacter) → None ≡ Some c → ⊥
    none c e = cc

-- so all bytes that write a pattern are ASCII
are_characters : (bytes : List ℕ) (cs : List PatternCharacter) → characters_of bytes ≡ Some cs → IsAscii bytes
are_characters [] cs e i = omega arith
are_characters (byte ∷ bytes) cs e zero =
    option_and_then_some (λ x. option_and_then (λ xs. Some (x ∷ xs)) (characters_of bytes)) (character_of byte) cs e
    (λ x is after. is_character byte x is)
are_characters (byte ∷ bytes) cs e (suc i) =
    option_and_then_some (λ x. option_and_then (λ xs. Some (x ∷ xs)) (characters_of bytes)) (character_of byte) cs e
    (λ x is after. option_and_then_some (λ xs. Some (x ∷ xs)) (characters_of bytes) cs after
    (λ xs more last. are_characters bytes xs more i))

-- what is no text writes no pattern
pub no_text-none : (bytes : List ℕ) → (IsUtf8 bytes → ⊥) → pattern_of_text bytes ≡ None
no_text-none bytes other = by_characters (characters_of bytes) refl
  where
    by_characters : (o : Option (List PatternCharacter)) → characters_of bytes ≡ o → option_and_then pattern_of o ≡ None
    by_characters None e = refl
    by_characters (Some cs) e = absurd (other (IsUtf8-from_ascii bytes (are_characters bytes cs e)))
