-- Laws of the exclusive or.
use mathlib.Core.Bool.{Bool, true, false}
use Rattle.geometry_model.specs.Crossings.{exactly_one as xor}
use mathlib.Core.Path.{◌≡◌, refl, sym, ap, ◌∙◌}

pub xor_self : (a : Bool) → xor a a ≡ false
xor_self true = refl
xor_self false = refl

pub xor_swap : (a b : Bool) → xor a b ≡ xor b a
xor_swap true true = refl
xor_swap true false = refl
xor_swap false true = refl
xor_swap false false = refl

pub xor_false : (a : Bool) → xor a false ≡ a
xor_false true = refl
xor_false false = refl

pub false_xor : (a : Bool) → xor false a ≡ a
false_xor true = refl
false_xor false = refl

pub xor_assoc : (a b c : Bool) → xor (xor a b) c ≡ xor a (xor b c)
xor_assoc true true true = refl
xor_assoc true true false = refl
xor_assoc true false true = refl
xor_assoc true false false = refl
xor_assoc false true true = refl
xor_assoc false true false = refl
xor_assoc false false true = refl
xor_assoc false false false = refl

-- equal where the two differ by nothing
pub same_if_xor_false : (a b : Bool) → xor a b ≡ false → a ≡ b
same_if_xor_false true true e = refl
same_if_xor_false true false e = absurd (cc)
same_if_xor_false false true e = absurd (cc)
same_if_xor_false false false e = refl

pub xor_false_if_same : (a b : Bool) → a ≡ b → xor a b ≡ false
xor_false_if_same a b e = ap (λ (x : Bool). xor x b) e ∙ xor_self b

-- two pairs may be taken crosswise
pub xor_cross : (a b c d : Bool) → xor (xor a b) (xor c d) ≡ xor (xor a c) (xor b d)
xor_cross a b c d = xor_assoc a b (xor c d) ∙ ap (xor a) (sym (xor_assoc b c d) ∙ ap (λ (x : Bool). xor x d) (xor_swap b c) ∙ xor_assoc c b d) ∙ sym (xor_assoc a c (xor b d))
