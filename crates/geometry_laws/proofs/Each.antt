-- Facts of each element of a list, one of a list, and the parity of how many pass a test, all by recursion on the list.
use Rattle.std.proofs.Common.{ℕ, ◌+◌, List, [], ◌∷◌, ◌++◌, Bool, true, false, cond, not, ◌||◌, ◌≡◌, ◌⊎◌, inl, inr, refl, sym, ap, ap₂, ◌∙◌, count_by, arith}
use Rattle.std.specs.List.{list_any}
use Rattle.std.proofs.lemmas.List.Sums.{sum_by-cons}
use Rattle.geometry_model.specs.Crossings.{exactly_one as xor, odd}
use Rattle.geometry_laws.proofs.Xor.{xor_assoc, xor_cross}

-- each element has the property
abbrev pub Each : {X : Type 0} → (X → Type 0) → List X → Type 0
Each P [] = Unit {0}
Each P (x ∷ xs) = P x × Each P xs

-- x is an element
abbrev pub Among : {X : Type 0} → X → List X → Type 0
Among x [] = ⊥
Among x (y ∷ ys) = (x ≡ y) ⊎ Among x ys

pub each_at : {X : Type 0} (P : X → Type 0) (xs : List X) (x : X) → Each P xs → Among x xs → P x
each_at P [] x h a = absurd a
each_at P (y ∷ ys) x h (inl e) = rw e h.0
each_at P (y ∷ ys) x h (inr a) = each_at P ys x h.1 a

pub each_of : {X : Type 0} (P : X → Type 0) (xs : List X) → ((x : X) → Among x xs → P x) → Each P xs
each_of P [] f = tt
each_of P (y ∷ ys) f = (f y (inl refl), each_of P ys (λ x a. f x (inr a)))

pub each_map : {X : Type 0} (P Q : X → Type 0) (xs : List X) → ((x : X) → P x → Q x) → Each P xs → Each Q xs
each_map P Q [] f h = tt
each_map P Q (y ∷ ys) f h = (f y h.0, each_map P Q ys f h.1)

pub each_append : {X : Type 0} (P : X → Type 0) (xs ys : List X) → Each P xs → Each P ys → Each P (xs ++ ys)
each_append P [] ys h k = k
each_append P (x ∷ xs) ys h k = (h.0, each_append P xs ys h.1 k)

pub each_left : {X : Type 0} (P : X → Type 0) (xs ys : List X) → Each P (xs ++ ys) → Each P xs
each_left P [] ys h = tt
each_left P (x ∷ xs) ys h = (h.0, each_left P xs ys h.1)

pub each_right : {X : Type 0} (P : X → Type 0) (xs ys : List X) → Each P (xs ++ ys) → Each P ys
each_right P [] ys h = h
each_right P (x ∷ xs) ys h = each_right P xs ys h.1

pub among_left : {X : Type 0} (x : X) (xs ys : List X) → Among x xs → Among x (xs ++ ys)
among_left x [] ys a = absurd a
among_left x (z ∷ xs) ys (inl e) = inl e
among_left x (z ∷ xs) ys (inr a) = inr (among_left x xs ys a)

pub among_right : {X : Type 0} (x : X) (xs ys : List X) → Among x ys → Among x (xs ++ ys)
among_right x [] ys a = a
among_right x (z ∷ xs) ys a = inr (among_right x xs ys a)

pub among_either : {X : Type 0} (x : X) (xs ys : List X) → Among x (xs ++ ys) → Among x xs ⊎ Among x ys
among_either x [] ys a = inr a
among_either x (z ∷ xs) ys (inl e) = inl (inl e)
among_either x (z ∷ xs) ys (inr a) = go (among_either x xs ys a)
  where
    go : Among x xs ⊎ Among x ys → Among x (z ∷ xs) ⊎ Among x ys
    go (inl b) = inl (inr b)
    go (inr b) = inr b

-- ---- tests
pub none_passes : {X : Type 0} (f : X → Bool) (xs : List X) → Each (λ x. f x ≡ false) xs → list_any f xs ≡ false
none_passes f [] h = refl
none_passes f (x ∷ xs) h = ap (λ (b : Bool). b || list_any f xs) h.0 ∙ none_passes f xs h.1

pub none_passed : {X : Type 0} (f : X → Bool) (xs : List X) → list_any f xs ≡ false → Each (λ x. f x ≡ false) xs
none_passed f [] e = tt
none_passed f (x ∷ xs) e = go (f x) refl e (λ h. none_passed f xs h)
  where
    go : (b : Bool) → f x ≡ b → b || list_any f xs ≡ false → (list_any f xs ≡ false → Each (λ y. f y ≡ false) xs) → Each (λ y. f y ≡ false) (x ∷ xs)
    go true g h rest = absurd (let k : true ≡ false = h in cc)
    go false g h rest = (g, rest h)

pub one_passes : {X : Type 0} (f : X → Bool) (xs : List X) (x : X) → Among x xs → f x ≡ true → list_any f xs ≡ true
one_passes f [] x a e = absurd a
one_passes f (y ∷ ys) x (inl g) e = ap (λ (b : Bool). b || list_any f ys) (ap f (sym g) ∙ e)
one_passes f (y ∷ ys) x (inr a) e = go (f y) (one_passes f ys x a e)
  where
    go : (b : Bool) → list_any f ys ≡ true → b || list_any f ys ≡ true
    go true h = refl
    go false h = h

-- an element that passes
pub record Passing {X : Type 0} (f : X → Bool) (xs : List X) : Type 0 where
  pub found : X
  pub among : Among found xs
  pub passes : f found ≡ true

pub some_passed : {X : Type 0} (f : X → Bool) (xs : List X) → list_any f xs ≡ true → Passing f xs
some_passed f [] e = absurd (let k : false ≡ true = e in cc)
some_passed f (x ∷ xs) e = go (f x) refl e (λ h. some_passed f xs h)
  where
    go : (b : Bool) → f x ≡ b → b || list_any f xs ≡ true → (list_any f xs ≡ true → Passing f xs) → Passing f (x ∷ xs)
    go true g h rest = record { found = x; among = inl refl; passes = g }
    go false g h rest = let r : Passing f xs = rest h in record { found = r.found; among = inr r.among; passes = r.passes }

pub same_any : {X : Type 0} (f g : X → Bool) (xs : List X) → Each (λ x. f x ≡ g x) xs → list_any f xs ≡ list_any g xs
same_any f g [] h = refl
same_any f g (x ∷ xs) h = ap₂ (λ (a b : Bool). a || b) h.0 (same_any f g xs h.1)

-- ---- parity
abbrev pub parity : {X : Type 0} → (X → Bool) → List X → Bool
parity f [] = false
parity f (x ∷ xs) = xor (f x) (parity f xs)

-- one more turns odd and even
odd_more : (b : Bool) (n : ℕ) → odd (cond b 1 0 + n) ≡ xor b (odd n)
odd_more true n = one n
  where
    one : (n : ℕ) → odd (1 + n) ≡ not (odd n)
    one n = grind arith
odd_more false n = none n
  where
    none : (n : ℕ) → odd (0 + n) ≡ odd n
    none n = ap odd (omega arith)

-- a count is odd exactly where the exclusive or of the single tests is true
pub odd_count : {X : Type 0} (f : X → Bool) (xs : List X) → odd (count_by f xs) ≡ parity f xs
odd_count f [] = refl
odd_count f (x ∷ xs) = ap odd (sum_by-cons (λ y. cond (f y) 1 0) x xs) ∙ odd_more (f x) (count_by f xs) ∙ ap (xor (f x)) (odd_count f xs)

-- the parity over two lists together is the exclusive or of the parities over each
pub parity_append : {X : Type 0} (f : X → Bool) (xs ys : List X) → parity f (xs ++ ys) ≡ xor (parity f xs) (parity f ys)
parity_append f [] ys = refl
parity_append f (x ∷ xs) ys = ap (xor (f x)) (parity_append f xs ys) ∙ sym (xor_assoc (f x) (parity f xs) (parity f ys))

pub same_parity : {X : Type 0} (f g : X → Bool) (xs : List X) → Each (λ x. f x ≡ g x) xs → parity f xs ≡ parity g xs
same_parity f g [] h = refl
same_parity f g (x ∷ xs) h = ap₂ xor h.0 (same_parity f g xs h.1)

-- the parity of the exclusive or of two tests is the exclusive or of their parities
pub parity_xor : {X : Type 0} (f g : X → Bool) (xs : List X) → parity (λ x. xor (f x) (g x)) xs ≡ xor (parity f xs) (parity g xs)
parity_xor f g [] = refl
parity_xor f g (x ∷ xs) = ap (xor (xor (f x) (g x))) (parity_xor f g xs) ∙ xor_cross (f x) (g x) (parity f xs) (parity g xs)

pub parity_none : {X : Type 0} (f : X → Bool) (xs : List X) → Each (λ x. f x ≡ false) xs → parity f xs ≡ false
parity_none f [] h = refl
parity_none f (x ∷ xs) h = ap₂ xor h.0 (parity_none f xs h.1)
