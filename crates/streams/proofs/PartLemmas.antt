-- How the parts of a text are written, one after another.
use Rattle.std.proofs.Common.{Result, Ok, Err, OnOk, OnErr, ◌≡◌, ◌<◌, ◌+◌, ℕ, zero, suc, List, [], ◌∷◌, ◌++◌, length, map, take, drop, get_or, Option, refl, sym, ◌∙◌, ap, subst, append_assoc, append-nil, add-one, arith}
use Rattle.std.specs.List.{concat}
use Rattle.std.specs.Io.KnownBytes.{Appends}
use Rattle.streams.specs.Sinks.{AppendsFront}
use Rattle.streams.proofs.SinkLemmas.{Appends-then, AppendsFront-then, AppendsFront-more}

-- the parts before a place, the part at that place, and those after it
pub parts-split : {X : Type 0} (v : X → List ℕ) (xs : List X) (i : ℕ) (d : X) → i < length xs
    → concat (map v xs) ≡ concat (map v (take i xs)) ++ (v (get_or xs i d) ++ concat (map v (drop (suc i) xs)))
parts-split v [] i d within = absurd (omega arith)
parts-split v (x ∷ xs) zero d within = refl
parts-split v (x ∷ xs) (suc i) d within =
    let more : i < length xs = omega arith in
    ap (λ l. v x ++ l) (parts-split v xs i d more) ∙ sym (append_assoc (v x) (concat (map v (take i xs))) (v (get_or xs i d) ++ concat (map v (drop (suc i) xs))))

-- one part more
pub parts-more : {X : Type 0} (v : X → List ℕ) (xs : List X) (i : ℕ) (d : X) → i < length xs
    → concat (map v (take (suc i) xs)) ≡ concat (map v (take i xs)) ++ v (get_or xs i d)
parts-more v [] i d within = absurd (omega arith)
parts-more v (x ∷ xs) zero d within = append-nil (v x)
parts-more v (x ∷ xs) (suc i) d within =
    let more : i < length xs = omega arith in
    ap (λ l. v x ++ l) (parts-more v xs i d more) ∙ sym (append_assoc (v x) (concat (map v (take i xs))) (v (get_or xs i d)))

-- after the parts before a place, a front of the part at that place is a front of the whole
pub parts-front : {X : Type 0} (v : X → List ℕ) (xs : List X) (i : ℕ) (d : X) (a b c : Option (List ℕ)) → i < length xs
    → Appends a b (concat (map v (take i xs))) → AppendsFront b c (v (get_or xs i d)) → AppendsFront a c (concat (map v xs))
parts-front v xs i d a b c within before front =
    let part = v (get_or xs i d) in
    let rest = concat (map v (drop (suc i) xs)) in
    subst (λ l. AppendsFront a c l) (sym (parts-split v xs i d within))
    (AppendsFront-then a b c (concat (map v (take i xs))) (part ++ rest) before (AppendsFront-more b c part rest front))

-- the parts up to a place, that one among them
pub parts-put : {X : Type 0} (v : X → List ℕ) (xs : List X) (i : ℕ) (d : X) (a b c : Option (List ℕ)) → i < length xs
    → Appends a b (concat (map v (take i xs))) → Appends b c (v (get_or xs i d)) → Appends a c (concat (map v (take (i + 1) xs)))
parts-put v xs i d a b c within before piece =
    rw add-one (subst (λ l. Appends a c l) (sym (parts-more v xs i d within))
    (Appends-then a b c (concat (map v (take i xs))) (v (get_or xs i d)) before piece))

-- a text that is the part at a place, or a front of it
pub text-front : {X : Type 0} (v : X → List ℕ) (xs : List X) (i : ℕ) (d : X) (text : List ℕ) (a b c : Option (List ℕ)) → i < length xs
    → text ≡ v (get_or xs i d) → Appends a b (concat (map v (take i xs))) → AppendsFront b c text → AppendsFront a c (concat (map v xs))
text-front v xs i d text a b c within is before front = parts-front v xs i d a b c within before (subst (λ l. AppendsFront b c l) is front)

pub text-put : {X : Type 0} (v : X → List ℕ) (xs : List X) (i : ℕ) (d : X) (text : List ℕ) (a b c : Option (List ℕ)) → i < length xs
    → text ≡ v (get_or xs i d) → Appends a b (concat (map v (take i xs))) → Appends b c text → Appends a c (concat (map v (take (i + 1) xs)))
text-put v xs i d text a b c within is before piece = parts-put v xs i d a b c within before (subst (λ l. Appends b c l) is piece)

-- a front of a text is a front of its parts, joined
pub front-same : {A E : Type 0} (r : Result A E) (old new : Option (List ℕ)) (text parts : List ℕ) → parts ≡ text
    → OnErr r (AppendsFront old new parts) → OnErr r (AppendsFront old new text)
front-same (Ok x) old new text parts e fact = tt
front-same (Err y) old new text parts e fact = subst (λ l. AppendsFront old new l) e fact

-- the last of three parts
pub last-put : {A E : Type 0} (r : Result A E) (a b c d : Option (List ℕ)) (x y z text : List ℕ) → x ++ (y ++ z) ≡ text → Appends a b x → Appends b c y
    → OnOk r (Appends c d z) → OnOk r (Appends a d text)
last-put (Ok v) a b c d x y z text e first second last =
    subst (λ l. Appends a d l) e (Appends-then a b d x (y ++ z) first (Appends-then b c d y z second last))
last-put (Err v) a b c d x y z text e first second last = tt

-- a front of the last of three parts
pub last-front : {A E : Type 0} (r : Result A E) (a b c d : Option (List ℕ)) (x y z text : List ℕ) → x ++ (y ++ z) ≡ text → Appends a b x → Appends b c y
    → OnErr r (AppendsFront c d z) → OnErr r (AppendsFront a d text)
last-front (Ok v) a b c d x y z text e first second last = tt
last-front (Err v) a b c d x y z text e first second last =
    subst (λ l. AppendsFront a d l) e (AppendsFront-then a b d x (y ++ z) first (AppendsFront-then b c d y z second last))
