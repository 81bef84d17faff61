-- ASCII bytes are a text.
use Rattle.std.proofs.Common.{◌≡◌, ℕ, zero, suc, List, [], ◌∷◌, true, arith, ltb-true}
use Rattle.std.proofs.lemmas.Bool.{and_parts}
use Rattle.std.proofs.lemmas.Str.{IsUtf8-from_ascii}
use Rattle.std.specs.Str.{IsAscii, IsUtf8}
use Rattle.table_model.specs.SchemaReading.{is_ascii}

IsAscii-from_is_ascii : (bytes : List ℕ) → is_ascii bytes ≡ true → IsAscii bytes
IsAscii-from_is_ascii [] h i = omega arith
IsAscii-from_is_ascii (b ∷ bytes) h zero = ltb-true _ _ (and_parts _ _ h).0
IsAscii-from_is_ascii (b ∷ bytes) h (suc i) = IsAscii-from_is_ascii bytes (and_parts _ _ h).1 i

pub IsUtf8-from_is_ascii : (bytes : List ℕ) → is_ascii bytes ≡ true → IsUtf8 bytes
IsUtf8-from_is_ascii bytes h = IsUtf8-from_ascii bytes (IsAscii-from_is_ascii bytes h)
