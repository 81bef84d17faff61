-- Elements of lists by place, and pairs of them.
use Rattle.std.proofs.Common.{ℕ, zero, suc, ◌<◌, ◌≡◌, ◌⊎◌, inl, inr, refl, sym, ap, subst, ◌∙◌, List, [], ◌∷◌, ◌++◌, None, Some, slice_get, Contains, arith}
use Rattle.std.proofs.lemmas.Option.{slice_get-get_or}
use Rattle.geometry_laws.proofs.Each.{Each, Among, each_at, each_map, each_append}

pub place_from_contains : {X : Type 0} (xs : List X) (x : X) (c : Contains xs x) → slice_get xs c.0 ≡ Some x
place_from_contains xs x c = slice_get-get_or xs c.0 x c.1 ∙ ap Some c.2

pub record Place {X : Type 0} (x : X) (xs : List X) : Type 0 where
  pub index : ℕ
  pub there : slice_get xs index ≡ Some x

pub place_of : {X : Type 0} (x : X) (xs : List X) → Among x xs → Place x xs
place_of x [] a = absurd a
place_of x (y ∷ ys) (inl e) = record { index = 0; there = ap Some (sym e) }
place_of x (y ∷ ys) (inr a) = let r : Place x ys = place_of x ys a in record { index = suc r.index; there = r.there }

pub among_at : {X : Type 0} (xs : List X) (k : ℕ) (x : X) → slice_get xs k ≡ Some x → Among x xs
among_at [] k x e = absurd (let z : None ≡ Some x = e in cc)
among_at (y ∷ ys) zero x e = inl (sym (let z : Some y ≡ Some x = e in cc))
among_at (y ∷ ys) (suc k) x e = inr (among_at ys k x e)

pub each_by : {X : Type 0} (P : X → Type 0) (xs : List X) → ((i : ℕ) (x : X) → slice_get xs i ≡ Some x → P x) → Each P xs
each_by P [] f = tt
each_by P (x ∷ xs) f = (f 0 x refl, each_by P xs (λ i y e. f (suc i) y e))

-- ---- each two, the one before the other
abbrev pub Pairs : {X : Type 0} → (X → X → Type 0) → List X → Type 0
Pairs P [] = Unit {0}
Pairs P (x ∷ xs) = Each (P x) xs × Pairs P xs

pub next_less : (i j : ℕ) → i < j → suc i < suc j
next_less i j h = omega arith

pub some_next : (j : ℕ) → 0 < suc j
some_next j = omega arith

-- a relation of each two is shown at any two places, the one before the other
pub pairs_by : {X : Type 0} (P : X → X → Type 0) (xs : List X) → ((i j : ℕ) (x y : X) → i < j → slice_get xs i ≡ Some x → slice_get xs j ≡ Some y → P x y) → Pairs P xs
pairs_by P [] f = tt
pairs_by P (x ∷ xs) f = (each_by (P x) xs (λ j y e. f 0 (suc j) x y (some_next j) refl e), pairs_by P xs (λ i j y z l e g. f (suc i) (suc j) y z (next_less i j l) e g))

each_place : {X : Type 0} (P : X → Type 0) (xs : List X) → Each P xs → (j : ℕ) (x : X) → slice_get xs j ≡ Some x → P x
each_place P [] h j x e = absurd (let z : None ≡ Some x = e in cc)
each_place {X} P (y ∷ ys) h zero x e = subst P same h.0
  where
    same : y ≡ x
    same = let z : Some y ≡ Some x = e in cc
each_place P (y ∷ ys) h (suc j) x e = each_place P ys h.1 j x e

-- and holds at any such two places
pub pairs_at : {X : Type 0} (P : X → X → Type 0) (xs : List X) → Pairs P xs → (i j : ℕ) (x y : X) → i < j → slice_get xs i ≡ Some x → slice_get xs j ≡ Some y → P x y
pairs_at P [] h i j x y l e g = absurd (let z : None ≡ Some x = e in cc)
pairs_at P (z ∷ zs) h i zero x y l e g = absurd (omega (arith, l))
pairs_at {X} P (z ∷ zs) h zero (suc j) x y l e g = subst (λ w. P w y) same (each_place (P z) zs h.0 j y g)
  where
    same : z ≡ x
    same = let w : Some z ≡ Some x = e in cc
pairs_at P (z ∷ zs) h (suc i) (suc j) x y l e g = pairs_at P zs h.1 i j x y (omega (arith, l)) e g

-- each two of joined lists: two of the first, two of the second, or one of each
pub pairs_append : {X : Type 0} (P : X → X → Type 0) (xs ys : List X) → Pairs P xs → Pairs P ys → Each (λ x. Each (P x) ys) xs → Pairs P (xs ++ ys)
pairs_append P [] ys h k b = k
pairs_append P (x ∷ xs) ys h k b = (each_append (P x) xs ys h.0 b.0, pairs_append P xs ys h.1 k b.1)

-- two elements of the list are one, or the one comes before the other
pub one_before : {X : Type 0} (P : X → X → Type 0) (xs : List X) → Pairs P xs → (x y : X) → Among x xs → Among y xs → (x ≡ y) ⊎ P x y ⊎ P y x
one_before P [] h x y a b = absurd a
one_before P (z ∷ zs) h x y (inl e) (inl g) = inl (e ∙ sym g)
one_before P (z ∷ zs) h x y (inl e) (inr b) = inr (inl (subst (λ w. P w y) (sym e) (each_at (P z) zs y h.0 b)))
one_before P (z ∷ zs) h x y (inr a) (inl g) = inr (inr (subst (λ w. P w x) (sym g) (each_at (P z) zs x h.0 a)))
one_before P (z ∷ zs) h x y (inr a) (inr b) = one_before P zs h.1 x y a b

pub pairs_map : {X : Type 0} (P Q : X → X → Type 0) (xs : List X) → ((x y : X) → P x y → Q x y) → Pairs P xs → Pairs Q xs
pairs_map P Q [] f h = tt
pairs_map P Q (x ∷ xs) f h = (each_map (P x) (Q x) xs (f x) h.0, pairs_map P Q xs f h.1)
