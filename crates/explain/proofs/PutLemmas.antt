-- How calls that write texts, one after another, write the whole.
use Rattle.std.proofs.Common.{◌≡◌, ℕ, List, [], ◌∷◌, ◌++◌, Option, Result, Ok, Err, OnErr, OnOk, refl, subst}
use Rattle.std.specs.Prelude.{IsErrAnd}
use Rattle.std.specs.Io.KnownBytes.{Appends}
use Rattle.streams.specs.Sinks.{AppendsFront, CountsFailure}
use Rattle.streams.proofs.SinkLemmas.{AppendsFront-more, AppendsFront-then, CountsFailure-then, then-put}
use Rattle.explain.specs.Puts.{Puts}

-- a text, and the texts after it
abbrev pub behind : List ℕ → List (List ℕ) → List ℕ
behind x [] = x
behind x (y ∷ ys) = behind (x ++ y) ys

-- the three promises together
pub puts : {S A E : Type 0} (taken : S → Option (List ℕ)) (count : S → ℕ) (a b : S) (r : Result A E) (x y : List ℕ) → x ≡ y
    → OnOk r (Appends (taken a) (taken b) x) → OnErr r (AppendsFront (taken a) (taken b) x)
    → CountsFailure (count a) (count b) r → Puts taken count a b r y
puts taken count a b r x y same ok front failures =
    subst (λ t. Puts taken count a b r t) same (record { ok = ok; front = front; failures = failures })

-- a text was put
pub put-done : {S E : Type 0} (taken : S → Option (List ℕ)) (count : S → ℕ) (a b : S) (x : List ℕ)
    → Appends (taken a) (taken b) x → count b ≡ count a → Puts {A = Unit {0}} {E = E} taken count a b (Ok tt) x
put-done taken count a b x put same = record { ok = put; front = tt; failures = same }

-- the same text
pub puts-same : {S A E : Type 0} {taken : S → Option (List ℕ)} {count : S → ℕ} {a b : S} {r : Result A E} {x y : List ℕ} → x ≡ y
    → Puts taken count a b r x → Puts taken count a b r y
puts-same {taken = taken} {count = count} {a = a} {b = b} {r = r} same put = subst (λ t. Puts taken count a b r t) same put

-- a front of a text after what was put
front-then : {A E : Type 0} (r : Result A E) (a b c : Option (List ℕ)) (x y : List ℕ) → Appends a b x → OnErr r (AppendsFront b c y)
    → OnErr r (AppendsFront a c (x ++ y))
front-then (Ok v) a b c x y first front = tt
front-then (Err e) a b c x y first front = AppendsFront-then a b c x y first front

-- one text was put, and then another
pub puts-then : {S A B E : Type 0} {taken : S → Option (List ℕ)} {count : S → ℕ} {a b c : S} {v : A} {r : Result B E} {x y : List ℕ}
    → Puts {E = E} taken count a b (Ok v) x → Puts taken count b c r y → Puts taken count a c r (x ++ y)
puts-then {taken = taken} {count = count} {a = a} {b = b} {c = c} {r = r} {x = x} {y = y} first last = record {
  ok = then-put r (taken a) (taken b) (taken c) x y (x ++ y) refl first.ok last.ok;
  front = front-then r (taken a) (taken b) (taken c) x y first.ok last.front;
  failures = CountsFailure-then (count a) (count b) (count c) r first.failures last.failures;
}

-- a text failed, and those after it weren't begun
pub puts-begun : {S A B E : Type 0} {taken : S → Option (List ℕ)} {count : S → ℕ} {a b : S} {e : E}
    (r : Result B E) (x : List ℕ) (more : List (List ℕ)) → Puts {A = A} taken count a b (Err e) x → IsErrAnd r (λ f. f ≡ e)
    → Puts taken count a b r (behind x more)
puts-begun (Ok v) x more put is = absurd is
puts-begun (Err f) x [] put is = record { ok = tt; front = put.front; failures = put.failures }
puts-begun {A = A} {taken = taken} {count = count} {a = a} {b = b} {e = e} (Err f) x (y ∷ more) put is =
    let longer : Puts {A = A} taken count a b (Err e) (x ++ y) =
    record { ok = tt; front = AppendsFront-more (taken a) (taken b) x y put.front; failures = put.failures } in
    puts-begun (Err f) (x ++ y) more longer is

-- a beginning was put, and one failure counted
pub puts-failed : {S B E : Type 0} {taken : S → Option (List ℕ)} {count : S → ℕ} {a b : S} {text : List ℕ}
    (r : Result B E) (e : E) (before : ℕ) → IsErrAnd r (λ f. f ≡ e) → AppendsFront (taken a) (taken b) text → before ≡ count a
    → CountsFailure {A = B} before (count b) (Err e) → Puts taken count a b r text
puts-failed (Ok v) e before is front same failures = absurd is
puts-failed {B = B} {count = count} {a = a} {b = b} (Err f) e before is front same failures = record {
  ok = tt;
  front = front;
  failures = CountsFailure-then {A = B} (count a) before (count b) (Err f) same failures;
}
