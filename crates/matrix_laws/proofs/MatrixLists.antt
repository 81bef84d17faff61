-- Being in a list, by recursion and by place, and in lists that are made of lists.
use Rattle.std.proofs.Common.{◌≡◌, ◌⊎◌, inl, inr, ℕ, zero, suc, ◌<◌, List, [], ◌∷◌, length, map, Bool, true, false, cond, refl, sym, ap, subst, ◌∙◌, arith, Contains, Any, All, flat_map, filter}
use Rattle.std.specs.List.{slice_index_or}
use Rattle.std.proofs.lemmas.List.Elements.{All-cons}
use Rattle.geometry_laws.proofs.Each.{Each, Among, among_left, among_right, among_either}

-- ---- by place
at_place : {X : Type 0} (xs : List X) (x : X) (k : ℕ) → k < length xs → slice_index_or xs k x ≡ x → Among x xs
at_place [] x k h e = absurd (omega (arith, h))
at_place (y ∷ ys) x zero h e = inl (sym e)
at_place (y ∷ ys) x (suc k) h e = inr (at_place ys x k (omega (arith, h)) e)

-- being in a list by recursion and by place are one
pub among_from_contains : {X : Type 0} (xs : List X) (x : X) → Contains xs x → Among x xs
among_from_contains xs x h = at_place xs x h.0 h.1 h.2

pub contains_from_among : {X : Type 0} (xs : List X) (x : X) → Among x xs → Contains xs x
contains_from_among [] x a = absurd a
contains_from_among (y ∷ ys) x (inl e) = (zero, omega arith, sym e)
contains_from_among (y ∷ ys) x (inr a) = next (contains_from_among ys x a)
  where
    next : Contains ys x → Contains (y ∷ ys) x
    next c = (suc c.0, omega (arith, c.1), c.2)

-- an element with a property
pub record Some_of {X : Type 0} (P : X → Type 0) (xs : List X) : Type 0 where
  pub found : X
  pub among : Among found xs
  pub has : P found

pub some_from_any : {X : Type 0} (P : X → Type 0) (xs : List X) → Any P xs → Some_of P xs
some_from_any P xs h = record { found = h.1; among = at_place xs h.1 h.0 h.2 h.3; has = h.4 }

pub any_from_some : {X : Type 0} (P : X → Type 0) (xs : List X) → Some_of P xs → Any P xs
any_from_some P xs h =
    let c : Contains xs h.found = contains_from_among xs h.found h.among in
    (c.0, h.found, c.1, c.2, h.has)

pub all_from_each : {X : Type 0} (P : X → Type 0) (xs : List X) → Each P xs → All P xs
all_from_each P [] h = λ k d l. absurd (omega (arith, l))
all_from_each P (x ∷ xs) h = All-cons P x xs h.0 (all_from_each P xs h.1)

-- ---- in lists of images
-- what is in a list of images is the image of an element
pub among_map : {X Y : Type 0} (f : X → Y) (xs : List X) (y : Y) → Among y (map f xs) → Some_of (λ x. y ≡ f x) xs
among_map f [] y a = absurd a
among_map f (x ∷ xs) y (inl e) = record { found = x; among = inl refl; has = e }
among_map f (x ∷ xs) y (inr a) = next (among_map f xs y a)
  where
    next : Some_of (λ z. y ≡ f z) xs → Some_of (λ z. y ≡ f z) (x ∷ xs)
    next s = record { found = s.found; among = inr s.among; has = s.has }

-- and the image of an element is in it
pub map_among : {X Y : Type 0} (f : X → Y) (xs : List X) (x : X) → Among x xs → Among (f x) (map f xs)
map_among f [] x a = absurd a
map_among f (y ∷ ys) x (inl e) = inl (ap f e)
map_among f (y ∷ ys) x (inr a) = inr (map_among f ys x a)

-- what is in joined lists is in the list of an element
pub among_flat_map : {X Y : Type 0} (f : X → List Y) (xs : List X) (y : Y) → Among y (flat_map f xs) → Some_of (λ x. Among y (f x)) xs
among_flat_map f [] y a = absurd a
among_flat_map f (x ∷ xs) y a = go (λ b. among_flat_map f xs y b) (among_either y (f x) (flat_map f xs) a)
  where
    next : Some_of (λ z. Among y (f z)) xs → Some_of (λ z. Among y (f z)) (x ∷ xs)
    next s = record { found = s.found; among = inr s.among; has = s.has }

    go : (Among y (flat_map f xs) → Some_of (λ z. Among y (f z)) xs) → Among y (f x) ⊎ Among y (flat_map f xs) → Some_of (λ z. Among y (f z)) (x ∷ xs)
    go rest (inl b) = record { found = x; among = inl refl; has = b }
    go rest (inr b) = next (rest b)

-- and what is in an element's list is in the joined one
pub flat_map_among : {X Y : Type 0} (f : X → List Y) (xs : List X) (x : X) (y : Y) → Among x xs → Among y (f x) → Among y (flat_map f xs)
flat_map_among f [] x y a b = absurd a
flat_map_among f (z ∷ xs) x y (inl e) b = among_left y (f z) (flat_map f xs) (subst (λ w. Among y (f w)) e b)
flat_map_among f (z ∷ xs) x y (inr a) b = among_right y (f z) (flat_map f xs) (flat_map_among f xs x y a b)

-- ---- in what a test keeps
-- what a test keeps is in the list and passes
pub among_filter : {X : Type 0} (f : X → Bool) (xs : List X) (x : X) → Among x (filter f xs) → Among x xs × (f x ≡ true)
among_filter f [] x a = absurd a
among_filter f (y ∷ ys) x a = go (λ b. among_filter f ys x b) (f y) refl a
  where
    behind : Among x ys × (f x ≡ true) → Among x (y ∷ ys) × (f x ≡ true)
    behind h = (inr h.0, h.1)

    go : (Among x (filter f ys) → Among x ys × (f x ≡ true)) → (b : Bool) → f y ≡ b → Among x (cond b (y ∷ filter f ys) (filter f ys)) → Among x (y ∷ ys) × (f x ≡ true)
    go rest true e (inl g) = (inl g, ap f g ∙ e)
    go rest true e (inr c) = behind (rest c)
    go rest false e c = behind (rest c)

-- and what is in the list and passes is kept
pub filter_among : {X : Type 0} (f : X → Bool) (xs : List X) (x : X) → Among x xs → f x ≡ true → Among x (filter f xs)
filter_among f [] x a e = absurd a
filter_among f (y ∷ ys) x (inl g) e = subst (λ (b : Bool). Among x (cond b (y ∷ filter f ys) (filter f ys))) (sym (ap f (sym g) ∙ e)) (inl g)
filter_among f (y ∷ ys) x (inr a) e = go (filter_among f ys x a e) (f y)
  where
    go : Among x (filter f ys) → (b : Bool) → Among x (cond b (y ∷ filter f ys) (filter f ys))
    go kept true = inr kept
    go kept false = kept
