-- Values put in ascending order, each once: which are there, and in what order.
use Rattle.std.proofs.Common.{◌≡◌, ◌⊎◌, inl, inr, List, [], ◌∷◌, Bool, true, false, cond, refl, sym, ap, subst, ◌∙◌, arith, AllPairs, filter}
use Rattle.std.specs.declared.cmp.Ordering.{Ordering}
use Rattle.std.specs.declared.cmp.Ordering.TheVariants.{Less, Equal, Greater}
use Rattle.std.proofs.lemmas.List.Kept.{AllPairs-cons}
use Rattle.geometry_model.specs.CutPoints.{placed, with_value, ascending}
use Rattle.geometry_laws.proofs.Each.{Each, Among, each_at, each_of}
use Rattle.matrix_laws.proofs.MatrixLists.{Some_of, all_from_each, among_filter}

-- each element comes before all later ones
abbrev pub Sorted : {X : Type 0} → (X → X → Ordering) → List X → Type 0
Sorted order [] = Unit {0}
Sorted order (x ∷ xs) = Each (λ y. order x y ≡ Less) xs × Sorted order xs

pub pairs_from_sorted : {X : Type 0} (order : X → X → Ordering) (xs : List X) → Sorted order xs → AllPairs (λ x y. order x y ≡ Less) xs
pairs_from_sorted order [] h = λ i j d l m. absurd (omega (arith, m))
pairs_from_sorted order (x ∷ xs) h = AllPairs-cons (λ y z. order y z ≡ Less) x xs (all_from_each (λ y. order x y ≡ Less) xs h.0) (pairs_from_sorted order xs h.1)

-- ---- which are there
-- a value put in its place adds itself at most
pub among_with : {X : Type 0} (order : X → X → Ordering) (x : X) (ys : List X) (z : X) → Among z (with_value order x ys) → (z ≡ x) ⊎ Among z ys
among_with order x [] z (inl e) = inl e
among_with order x [] z (inr a) = absurd a
among_with order x (y ∷ ys) z a = go (λ b. among_with order x ys z b) (order x y) a
  where
    behind : (z ≡ x) ⊎ Among z ys → (z ≡ x) ⊎ Among z (y ∷ ys)
    behind (inl e) = inl e
    behind (inr b) = inr (inr b)

    go : (Among z (with_value order x ys) → (z ≡ x) ⊎ Among z ys) → (o : Ordering) → Among z (placed o x y ys (with_value order x ys)) → (z ≡ x) ⊎ Among z (y ∷ ys)
    go rest Less (inl e) = inl e
    go rest Less (inr b) = inr b
    go rest Equal b = inr b
    go rest Greater (inl e) = inr (inl e)
    go rest Greater (inr b) = behind (rest b)

-- and takes nothing away
pub with_among : {X : Type 0} (order : X → X → Ordering) (x : X) (ys : List X) (z : X) → Among z ys → Among z (with_value order x ys)
with_among order x [] z a = absurd a
with_among order x (y ∷ ys) z a = go (λ b. with_among order x ys z b) (order x y) a
  where
    go : (Among z ys → Among z (with_value order x ys)) → (o : Ordering) → Among z (y ∷ ys) → Among z (placed o x y ys (with_value order x ys))
    go rest Less b = inr b
    go rest Equal b = b
    go rest Greater (inl e) = inl e
    go rest Greater (inr b) = inr (rest b)

-- x itself, or one that ties with it
abbrev pub Ties : {X : Type 0} → (X → X → Ordering) → X → X → Type 0
Ties order x z = (z ≡ x) ⊎ (order x z ≡ Equal)

-- it is there then, or one that ties with it is
pub with_itself : {X : Type 0} (order : X → X → Ordering) (x : X) (ys : List X) → Some_of (Ties order x) (with_value order x ys)
with_itself order x [] = record { found = x; among = inl refl; has = inl refl }
with_itself order x (y ∷ ys) = go (with_itself order x ys) (order x y) refl
  where
    behind : Some_of (Ties order x) (with_value order x ys) → Some_of (Ties order x) (y ∷ with_value order x ys)
    behind s = record { found = s.found; among = inr s.among; has = s.has }

    go : Some_of (Ties order x) (with_value order x ys) → (o : Ordering) → order x y ≡ o → Some_of (Ties order x) (placed o x y ys (with_value order x ys))
    go rest Less e = record { found = x; among = inl refl; has = inl refl }
    go rest Equal e = record { found = y; among = inl refl; has = inr e }
    go rest Greater e = behind rest

-- so putting values in order adds none
pub among_ascending : {X : Type 0} (order : X → X → Ordering) (xs : List X) (z : X) → Among z (ascending order xs) → Among z xs
among_ascending order [] z a = absurd a
among_ascending order (x ∷ xs) z a = go (λ b. among_ascending order xs z b) (among_with order x (ascending order xs) z a)
  where
    go : (Among z (ascending order xs) → Among z xs) → (z ≡ x) ⊎ Among z (ascending order xs) → Among z (x ∷ xs)
    go rest (inl e) = inl e
    go rest (inr b) = inr (rest b)

-- and each value is there, or one that ties with it
pub ascending_among : {X : Type 0} (order : X → X → Ordering) (xs : List X) (z : X) → Among z xs → Some_of (Ties order z) (ascending order xs)
ascending_among order [] z a = absurd a
ascending_among order (x ∷ xs) z (inl e) = subst (λ w. Some_of (Ties order w) (ascending order (x ∷ xs))) (sym e) (with_itself order x (ascending order xs))
ascending_among order (x ∷ xs) z (inr a) = behind (ascending_among order xs z a)
  where
    behind : Some_of (Ties order z) (ascending order xs) → Some_of (Ties order z) (ascending order (x ∷ xs))
    behind s = record { found = s.found; among = with_among order x (ascending order xs) s.found s.among; has = s.has }

-- ---- in what order
pub record IsOrder {X : Type 0} (V : X → Type 0) (order : X → X → Ordering) : Type 0 where
  pub through : (x y z : X) → V x → V y → V z → order x y ≡ Less → order y z ≡ Less → order x z ≡ Less
  pub turned : (x y : X) → order x y ≡ Greater → order y x ≡ Less

-- put before the first that is greater, a value leaves the list ascending
pub with-sorted : {X : Type 0} (V : X → Type 0) (order : X → X → Ordering) → IsOrder V order → (x : X) (ys : List X) → V x → Each V ys → Sorted order ys → Sorted order (with_value order x ys)
with-sorted V order o x [] v vs s = (tt, tt)
with-sorted {X} V order o x (y ∷ ys) v vs s = go (with-sorted V order o x ys v vs.1 s.1) (order x y) refl
  where
    later : order x y ≡ Less → Each (λ z. order x z ≡ Less) ys
    later e = each_of (λ z. order x z ≡ Less) ys (λ z a. o.through x y z v vs.0 (each_at V ys z vs.1 a) e (each_at (λ w. order y w ≡ Less) ys z s.0 a))

    before_each : order y x ≡ Less → Each (λ z. order y z ≡ Less) (with_value order x ys)
    before_each e = each_of (λ z. order y z ≡ Less) (with_value order x ys) (λ z a. either z (among_with order x ys z a))
      where
        either : (z : X) → (z ≡ x) ⊎ Among z ys → order y z ≡ Less
        either z (inl f) = ap (order y) f ∙ e
        either z (inr b) = each_at (λ w. order y w ≡ Less) ys z s.0 b

    go : Sorted order (with_value order x ys) → (r : Ordering) → order x y ≡ r → Sorted order (placed r x y ys (with_value order x ys))
    go rest Less e = ((e, later e), s)
    go rest Equal e = s
    go rest Greater e = (before_each (o.turned x y e), rest)

-- so values put in order, one by one, ascend
pub ascending-sorted : {X : Type 0} (V : X → Type 0) (order : X → X → Ordering) → IsOrder V order → (xs : List X) → Each V xs → Sorted order (ascending order xs)
ascending-sorted V order o [] vs = tt
ascending-sorted V order o (x ∷ xs) vs = with-sorted V order o x (ascending order xs) vs.0
    (each_of V (ascending order xs) (λ z a. each_at V xs z vs.1 (among_ascending order xs z a)))
    (ascending-sorted V order o xs vs.1)

-- a filter leaves the order as it is
pub filter-sorted : {X : Type 0} (order : X → X → Ordering) (f : X → Bool) (xs : List X) → Sorted order xs → Sorted order (filter f xs)
filter-sorted order f [] s = tt
filter-sorted order f (x ∷ xs) s = go (filter-sorted order f xs s.1) (f x)
  where
    go : Sorted order (filter f xs) → (b : Bool) → Sorted order (cond b (x ∷ filter f xs) (filter f xs))
    go rest true = (each_of (λ y. order x y ≡ Less) (filter f xs) (λ y a. each_at (λ z. order x z ≡ Less) xs y s.0 (among_filter f xs y a).0), rest)
    go rest false = rest
