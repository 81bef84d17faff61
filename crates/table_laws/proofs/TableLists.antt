-- What holds of each element of a list, and of each element and each later one.
use Rattle.std.specs.Prelude.{zero, suc, List, [], ◌∷◌, map}
use Rattle.std.proofs.Common.{arith}
use Rattle.std.specs.List.{All, AllPairs}
use Rattle.std.proofs.lemmas.List.Elements.{All-nil, All-cons, All-head, All-tail}
use Rattle.std.proofs.lemmas.List.Kept.{AllPairs-cons}

-- P holds of each
abbrev pub Each : {X : Type 0} → (X → Type 0) → List X → Type 0
Each P [] = Unit {0}
Each P (x ∷ xs) = P x × Each P xs

-- R holds of each and each later one
abbrev pub Pairs : {X : Type 0} → (X → X → Type 0) → List X → Type 0
Pairs R [] = Unit {0}
Pairs R (x ∷ xs) = Each (R x) xs × Pairs R xs

-- what holds of each element may be weakened
pub each-weaker : {X : Type 0} (P Q : X → Type 0) → ((x : X) → P x → Q x) → (xs : List X) → Each P xs → Each Q xs
each-weaker P Q f [] h = tt
each-weaker P Q f (x ∷ xs) h = (f x h.0, each-weaker P Q f xs h.1)

-- this form, by the list's parts, says what the form by places says; so for pairs, and the other way below
pub each-all : {X : Type 0} (P : X → Type 0) (xs : List X) → Each P xs → All P xs
each-all P [] h = All-nil P
each-all P (x ∷ xs) h = All-cons P x xs h.0 (each-all P xs h.1)

pub pairs-all : {X : Type 0} (R : X → X → Type 0) (xs : List X) → Pairs R xs → AllPairs R xs
pairs-all R [] h = λ i j d before within. absurd (omega (arith, within))
pairs-all R (x ∷ xs) h = AllPairs-cons R x xs (each-all (R x) xs h.0) (pairs-all R xs h.1)

-- what holds of each image holds of each element by its image
pub each-map : {X Y : Type 0} (P : Y → Type 0) (f : X → Y) (xs : List X) → Each P (map f xs) → Each (λ x. P (f x)) xs
each-map P f [] h = tt
each-map P f (x ∷ xs) h = (h.0, each-map P f xs h.1)

pub pairs-map : {X Y : Type 0} (R : Y → Y → Type 0) (f : X → Y) (xs : List X) → Pairs R (map f xs) → Pairs (λ a b. R (f a) (f b)) xs
pairs-map R f [] h = tt
pairs-map R f (x ∷ xs) h = (each-map (R (f x)) f xs h.0, pairs-map R f xs h.1)

pub all-each : {X : Type 0} (P : X → Type 0) (xs : List X) → All P xs → Each P xs
all-each P [] h = tt
all-each P (x ∷ xs) h = (All-head P x xs h, all-each P xs (All-tail P x xs h))

pub all-pairs : {X : Type 0} (R : X → X → Type 0) (xs : List X) → AllPairs R xs → Pairs R xs
all-pairs R [] h = tt
all-pairs R (x ∷ xs) h = (
  all-each (R x) xs (λ k d within. h zero (suc k) d (omega arith) (omega (arith, within))),
  all-pairs R xs (λ i j d before within. h (suc i) (suc j) d (omega (arith, before)) (omega (arith, within))),
)
