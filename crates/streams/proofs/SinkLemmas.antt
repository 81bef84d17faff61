-- How what calls do to a sink composes: the bytes that it took, and its count of failures.
use Rattle.std.proofs.Common.{◌≡◌, ℕ, ◌+◌, ◌-◌, List, [], ◌++◌, length, take, drop, Option, None, Some, Result, Ok, Err, OnErr, OnOk, arith, length-drop, append-nil, refl, sym, ◌∙◌, ap, subst, append_assoc}
use Rattle.std.proofs.lemmas.List.{take-append-drop, take_all}
use Rattle.std.proofs.Math.Seq.{take-add}
use Rattle.std.specs.Io.KnownBytes.{Appends, Keeps}
use Rattle.streams.specs.Sinks.{AppendsFront, CountsFailure}

-- x, and then y, is x ++ y
pub Appends-then : (a b c : Option (List ℕ)) (x y : List ℕ) → Appends a b x → Appends b c y → Appends a c (x ++ y)
Appends-then None b c x y first then = tt
Appends-then (Some p) None c x y first then = absurd first
Appends-then (Some p) (Some q) None x y first then = then
Appends-then (Some p) (Some q) (Some r) x y first then = then ∙ ap (λ l. l ++ y) first ∙ append_assoc p x y

-- x, and then, where a call succeeded, y, is x ++ y
pub then-put : {A E : Type 0} (r : Result A E) (a b c : Option (List ℕ)) (x y text : List ℕ) → x ++ y ≡ text → Appends a b x → OnOk r (Appends b c y) → OnOk r (Appends a c text)
then-put (Ok v) a b c x y text e first last = subst (λ l. Appends a c l) e (Appends-then a b c x y first last)
then-put (Err v) a b c x y text e first last = tt

-- what stays grew by nothing
pub Keeps-Appends : (a b : Option (List ℕ)) → Keeps a b → Appends a b []
Keeps-Appends None b kept = tt
Keeps-Appends (Some p) None kept = kept
Keeps-Appends (Some p) (Some q) kept = kept ∙ sym (append-nil p)

-- no call puts nothing
pub Appends-none : (a : Option (List ℕ)) → Appends a a []
Appends-none None = tt
Appends-none (Some p) = sym (append-nil p)

-- a front of what a text begins with is a front of the text
pub AppendsFront-more : (a b : Option (List ℕ)) (x y : List ℕ) → AppendsFront a b x → AppendsFront a b (x ++ y)
AppendsFront-more a b x y (front, rest, split, put) =
    (front, rest ++ y, ap (λ l. l ++ y) split ∙ append_assoc front rest y, put)

-- x, and then a front of y, is a front of x ++ y
pub AppendsFront-then : (a b c : Option (List ℕ)) (x y : List ℕ) → Appends a b x → AppendsFront b c y → AppendsFront a c (x ++ y)
AppendsFront-then a b c x y first (front, rest, split, put) =
    (x ++ front, rest, ap (λ l. x ++ l) split ∙ sym (append_assoc x front rest), Appends-then a b c x front first put)

-- the whole of x is a front of x ++ y
pub AppendsFront-whole : (a b : Option (List ℕ)) (x y : List ℕ) → Appends a b x → AppendsFront a b (x ++ y)
AppendsFront-whole a b x y put = (x, y, refl, put)

-- what stays grew by a front of anything
pub AppendsFront-kept : (a b : Option (List ℕ)) (y : List ℕ) → Keeps a b → AppendsFront a b y
AppendsFront-kept a b y kept = ([], y, refl, Keeps-Appends a b kept)

-- a call that failed no more, and then another
pub CountsFailure-then : {A E : Type 0} (a b c : ℕ) (r : Result A E) → b ≡ a → CountsFailure b c r → CountsFailure a c r
CountsFailure-then a b c r same after = subst (λ n. CountsFailure n c r) same after

-- a fact that holds anyhow holds at an error
pub OnErr-holds : {A E P : Type 0} (r : Result A E) → P → OnErr r P
OnErr-holds (Ok a) fact = tt
OnErr-holds (Err e) fact = fact

-- what was put before a failed put is a front of the text
pub put_all-front : (a b c : Option (List ℕ)) (at : ℕ) (text : List ℕ) → Appends a b (take at text) → Keeps b c → AppendsFront a c text
put_all-front a b c at text before kept =
    subst (λ l. AppendsFront a c l) (take-append-drop at text)
    (AppendsFront-then a b c (take at text) (drop at text) before (AppendsFront-kept b c (drop at text) kept))

-- the first n bytes of what is left, the rest of a text being taken in two ways
pub take-rest : (at n : ℕ) (text : List ℕ) → take n (take (length text - at) (drop at text)) ≡ take n (drop at text)
take-rest at n text = ap (λ l. take n l) (take_all (length text - at) (drop at text) (grind (arith, length-drop)))

-- a further piece of n bytes
pub put_all-more : (a b c : Option (List ℕ)) (at n : ℕ) (text : List ℕ) → Appends a b (take at text)
    → Appends b c (take n (take (length text - at) (drop at text))) → Appends a c (take (at + n) text)
put_all-more a b c at n text before piece =
    subst (λ l. Appends a c l) (sym (take-add at n text))
    (Appends-then a b c (take at text) (take n (drop at text)) before
    (subst (λ l. Appends b c l) (take-rest at n text) piece))
