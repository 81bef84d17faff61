-- Options, beyond what std has.
use Rattle.std.proofs.Common.{◌≡◌, refl, Option, None, Some, Bor, is_none, option_map, true, unwrap_or}

-- what is none
pub is_nothing : {X : Type 0} (o : Option X) → is_none o ≡ true → o ≡ None
is_nothing None e = refl
is_nothing (Some x) e = cc

-- nothing isn't something
pub nothing_there : {X Y : Type 0} (x : X) → None ≡ Some x → Y
nothing_there x e = cc

-- what a reference that may be there, or else another, refers to
pub lent : {X : Type 0} (o : Option (Bor X)) (d : Bor X) → (unwrap_or o d).now ≡ unwrap_or (option_map (λ s. s.now) o) d.now
lent None d = refl
lent (Some s) d = refl
