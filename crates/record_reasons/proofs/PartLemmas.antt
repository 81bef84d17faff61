-- Lines of several parts.
use Rattle.std.proofs.Common.{◌≡◌, ℕ, List, [], ◌∷◌, ◌++◌, Option, Result, Ok, Err, OnErr, OnOk, append_assoc, append-nil, subst}
use Rattle.std.specs.List.{concat}
use Rattle.std.specs.Io.KnownBytes.{Appends}
use Rattle.streams.proofs.SinkLemmas.{AppendsFront-then}
use Rattle.streams.specs.Sinks.{AppendsFront}

pub five_parts : (a x b y c : List ℕ) → concat (a ∷ x ∷ b ∷ y ∷ c ∷ []) ≡ a ++ x ++ b ++ y ++ c
five_parts a x b y c = simp (append_assoc, append-nil)

pub six_parts : (a x b y z c : List ℕ) → concat (a ∷ x ∷ b ∷ y ∷ z ∷ c ∷ []) ≡ a ++ x ++ b ++ y ++ z ++ c
six_parts a x b y z c = simp (append_assoc, append-nil)

pub seven_parts : (a x b y c z d : List ℕ) → concat (a ∷ x ∷ b ∷ y ∷ c ∷ z ∷ d ∷ []) ≡ a ++ x ++ b ++ y ++ c ++ z ++ d
seven_parts a x b y c z d = simp (append_assoc, append-nil)

pub eight_parts : (a x b y z c w d : List ℕ) → concat (a ∷ x ∷ b ∷ y ∷ z ∷ c ∷ w ∷ d ∷ []) ≡ a ++ x ++ b ++ y ++ z ++ c ++ w ++ d
eight_parts a x b y z c w d = simp (append_assoc, append-nil)

-- what was put is the same text, by its parts or whole
pub put-same : {A E : Type 0} (r : Result A E) (old new : Option (List ℕ)) (text parts : List ℕ) → parts ≡ text
    → OnOk r (Appends old new parts) → OnOk r (Appends old new text)
put-same (Ok x) old new text parts e fact = subst (λ l. Appends old new l) e fact
put-same (Err y) old new text parts e fact = tt

-- a beginning of the second of two texts
pub then-front : {A E : Type 0} (r : Result A E) (a b c : Option (List ℕ)) (x y : List ℕ) → Appends a b x → OnErr r (AppendsFront b c y)
    → OnErr r (AppendsFront a c (x ++ y))
then-front (Ok v) a b c x y first front = tt
then-front (Err v) a b c x y first front = AppendsFront-then a b c x y first front
