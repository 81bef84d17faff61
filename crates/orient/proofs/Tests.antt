-- What several tests say together, where each is evaluated only if the ones before it don't decide.
use Rattle.std.specs.Prelude.{◌≡◌, ◌&&◌, ◌||◌, Bool, true, false}
use Rattle.std.proofs.Common.{sym, ap, ◌∙◌}

-- where the first of two tests passes the second decides, and where it fails both do
pub test_decides : (t s u : Bool) → s ≡ true → t ≡ u → t ≡ (s && u)
test_decides t s u h e = e ∙ ap (λ (b : Bool). b && u) (sym h)

pub test_fails : (t s u : Bool) → s ≡ false → t ≡ false → t ≡ (s && u)
test_fails t s u h e = e ∙ ap (λ (b : Bool). b && u) (sym h)

-- where the first of three tests passes, the others decide
pub others_decide : (r s x y : Bool) → s ≡ true → r ≡ (x && y) → r ≡ (s && x && y)
others_decide r s x y h e = e ∙ ap (λ (b : Bool). b && x && y) (sym h)

-- where it fails, so do all
pub all_fail : (r s x y : Bool) → s ≡ false → r ≡ false → r ≡ (s && x && y)
all_fail r s x y h e = e ∙ ap (λ (b : Bool). b && x && y) (sym h)

-- where the first of two that needn't both hold passes the second isn't asked, and where it fails the second decides
pub either_holds : (t s u : Bool) → t ≡ s → t ≡ true → t ≡ (s || u)
either_holds t s u e h = h ∙ sym (ap (λ (b : Bool). b || u) (sym e ∙ h))

pub second_decides : (t s q u : Bool) → t ≡ s → t ≡ false → q ≡ u → q ≡ (s || u)
second_decides t s q u e h k = k ∙ sym (ap (λ (b : Bool). b || u) (sym e ∙ h))
