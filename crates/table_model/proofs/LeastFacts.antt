-- The first element of a list whose number is least.
use Rattle.std.specs.Prelude.{◌≡◌, refl, ℕ, ◌<◌, ◌≤◌, Bool, true, false, cond, nat_le, List, [], ◌∷◌, ◌++◌, length, All, Contains, find, Option, Some, None, unwrap_or, IsSome, ◌⊎◌}
use Rattle.std.specs.List.{list_all}
use Rattle.std.proofs.Common.{arith, ap, ◌∙◌, sym, inl, inr, le-leb, leb-true}
use Rattle.std.proofs.lemmas.List.Elements.{All-nil, All-cons, All-head, All-tail, All-weaker, All-contains, Contains-append_right}
use Rattle.std.proofs.lemmas.List.Sums.{AllPass-from_list_all, list_all-from_AllPass}
use Rattle.std.proofs.lemmas.Bool.{cases_lt}
use Rattle.table_model.specs.Plans.{first_of_least}
use Rattle.table_model.specs.PlanLaws.{IsFirstOfLeast}

-- where a test first passes
pub record IsFound {X : Type 0} (test : X → Bool) (xs : List X) (x : X) : Type 0 where
  pub before : List X
  pub after : List X
  pub parted : xs ≡ before ++ x ∷ after
  pub missed : All (λ y. test y ≡ false) before
  pub passed : test x ≡ true

-- what is found passes the test, and all before it fail it
pub found : {X : Type 0} (test : X → Bool) (xs : List X) (x : X) → find test xs ≡ Some x → IsFound test xs x
found test [] x e = cc
found {X = X} test (y ∷ ys) x e = go (test y) refl e (found test ys x)
  where
    go : (b : Bool) → test y ≡ b → cond b (Some y) (find test ys) ≡ Some x → (find test ys ≡ Some x → IsFound test ys x) → IsFound test (y ∷ ys) x
    go true p is rest = record {
      before = [];
      after = ys;
      parted = ap (λ z. z ∷ ys) (ap (λ o. unwrap_or o y) is);
      missed = All-nil _;
      passed = rw (sym (ap (λ o. unwrap_or o y) is)) p;
    }
    go false p is rest =
        let r = rest is in
        record {
          before = y ∷ r.before;
          after = r.after;
          parted = ap (λ zs. y ∷ zs) r.parted;
          missed = All-cons (λ z. test z ≡ false) y r.before p r.missed;
          passed = r.passed;
        }

-- an element between others is in the list
pub between : {X : Type 0} (xs before after : List X) (x : X) → xs ≡ before ++ x ∷ after → Contains xs x
between xs before after x e = rw e (Contains-append_right before (x ∷ after) x (0, omega arith, refl))

-- the test of what none undercuts
pub bound : {X : Type 0} (number : X → ℕ) (xs : List X) (x : X) → list_all (λ y. nat_le (number x) (number y)) xs ≡ true → All (λ y. number x ≤ number y) xs
bound number xs x e = All-weaker (λ y. nat_le (number x) (number y) ≡ true) (λ y. number x ≤ number y) (λ y t. leb-true (number x) (number y) t) xs (AllPass-from_list_all (λ y. nat_le (number x) (number y)) xs e)

-- and the other way round
pub bound_test : {X : Type 0} (number : X → ℕ) (xs : List X) (x : X) → All (λ y. number x ≤ number y) xs → list_all (λ y. nat_le (number x) (number y)) xs ≡ true
bound_test number xs x h = list_all-from_AllPass (λ y. nat_le (number x) (number y)) xs (All-weaker (λ y. number x ≤ number y) (λ y. nat_le (number x) (number y) ≡ true) (λ y t. le-leb (number x) (number y) t) xs h)

-- what fails the test has more than what passes it
more : {X : Type 0} (number : X → ℕ) (xs : List X) (x y : X) → All (λ z. number x ≤ number z) xs → list_all (λ z. nat_le (number y) (number z)) xs ≡ false → number x < number y
more number xs x y h fails = go (cases_lt (number x) (number y))
  where
    go : (number x < number y) ⊎ (number y ≤ number x) → number x < number y
    go (inl l) = l
    go (inr m) =
        let t : list_all (λ z. nat_le (number y) (number z)) xs ≡ true = bound_test number xs y (All-weaker (λ z. number x ≤ number z) (λ z. number y ≤ number z) (λ z l. omega (arith, l, m)) xs h) in
        cc

-- what is found is the first of least number: none has less, and those before it failed the test, so they have more
pub first_is_first : {X : Type 0} (number : X → ℕ) (xs : List X) (x : X) → first_of_least number xs ≡ Some x → IsFirstOfLeast number xs x
first_is_first number xs x e =
    let f = found (λ y. list_all (λ z. nat_le (number y) (number z)) xs) xs x e in
    let least = bound number xs x f.passed in
    record {
      before = f.before;
      after = f.after;
      parted = f.parted;
      earlier_are_more = All-weaker (λ y. list_all (λ z. nat_le (number y) (number z)) xs ≡ false) (λ y. number x < number y) (λ y t. more number xs x y least t) f.before f.missed;
      none_is_less = least;
    }

-- what a test misses is passed over
missed : {X : Type 0} (test : X → Bool) (before rest : List X) → All (λ y. test y ≡ false) before → find test (before ++ rest) ≡ find test rest
missed test [] rest h = refl
missed test (y ∷ ys) rest h = ap (λ b. cond b (Some y) (find test (ys ++ rest))) (All-head (λ z. test z ≡ false) y ys h) ∙ missed test ys rest (All-tail (λ z. test z ≡ false) y ys h)

-- an element with more than another one of the list fails the test
fails : {X : Type 0} (number : X → ℕ) (xs : List X) (x y : X) → Contains xs x → number x < number y → (b : Bool) → list_all (λ z. nat_le (number y) (number z)) xs ≡ b → list_all (λ z. nat_le (number y) (number z)) xs ≡ false
fails number xs x y c l false e = e
fails number xs x y c l true e = absurd (omega (arith, l, All-contains (λ z. number y ≤ number z) xs x (bound number xs y e) c))

-- the first of least number is what is found: those before it have more, so they fail, and it passes
pub first_is_found : {X : Type 0} (number : X → ℕ) (xs : List X) (x : X) → IsFirstOfLeast number xs x → first_of_least number xs ≡ Some x
first_is_found {X = X} number xs x f =
    ap (find test) f.parted
    ∙ missed test f.before (x ∷ f.after) (All-weaker (λ y. number x < number y) (λ y. test y ≡ false) (λ y l. fails number xs x y (between xs f.before f.after x f.parted) l (test y) refl) f.before f.earlier_are_more)
    ∙ ap (λ b. cond b (Some x) (find test f.after)) (bound_test number xs x f.none_is_less)
  where
    test : X → Bool
    test y = list_all (λ z. nat_le (number y) (number z)) xs

-- an element of least number
record Least {X : Type 0} (number : X → ℕ) (xs : List X) : Type 0 where
  least : X
  place : Contains xs least
  none_is_less : All (λ y. number least ≤ number y) xs

-- among some elements one has the least number: the first one, or the least of the others
least_there : {X : Type 0} (number : X → ℕ) (x : X) (xs : List X) → Least number (x ∷ xs)
least_there number x [] = record { least = x; place = (0, omega arith, refl); none_is_less = All-cons (λ y. number x ≤ number y) x [] (omega arith) (All-nil _) }
least_there number x (y ∷ ys) = go (least_there number y ys)
  where
    pick : (r : Least number (y ∷ ys)) → (number x < number r.least) ⊎ (number r.least ≤ number x) → Least number (x ∷ y ∷ ys)
    pick r (inl l) = record {
      least = x;
      place = (0, omega arith, refl);
      none_is_less = All-cons (λ z. number x ≤ number z) x (y ∷ ys) (omega arith) (All-weaker (λ z. number r.least ≤ number z) (λ z. number x ≤ number z) (λ z m. omega (arith, l, m)) (y ∷ ys) r.none_is_less);
    }
    pick r (inr m) = record {
      least = r.least;
      place = Contains-append_right (x ∷ []) (y ∷ ys) r.least r.place;
      none_is_less = All-cons (λ z. number r.least ≤ number z) x (y ∷ ys) m r.none_is_less;
    }

    go : Least number (y ∷ ys) → Least number (x ∷ y ∷ ys)
    go r = pick r (cases_lt (number x) (number r.least))

-- where nothing is found all fail the test
none_found : {X : Type 0} (test : X → Bool) (xs : List X) → find test xs ≡ None → All (λ y. test y ≡ false) xs
none_found test [] e = All-nil _
none_found {X = X} test (y ∷ ys) e = go (test y) refl e (none_found test ys)
  where
    go : (b : Bool) → test y ≡ b → cond b (Some y) (find test ys) ≡ None → (find test ys ≡ None → All (λ z. test z ≡ false) ys) → All (λ z. test z ≡ false) (y ∷ ys)
    go true p is rest = cc
    go false p is rest = All-cons (λ z. test z ≡ false) y ys p (rest is)

-- where something passes a test, something is found
some_found : {X : Type 0} (test : X → Bool) (xs : List X) (x : X) → Contains xs x → test x ≡ true → IsSome (find test xs)
some_found {X = X} test xs x c e = go (find test xs) refl
  where
    go : (o : Option X) → find test xs ≡ o → IsSome o
    go (Some z) is = refl
    go None is =
        let f : test x ≡ false = All-contains (λ z. test z ≡ false) xs x (none_found test xs is) c in
        cc

-- so among some elements a first of least number is found, since one of least number passes the test
pub first_is_there : {X : Type 0} (number : X → ℕ) (x : X) (xs : List X) → IsSome (first_of_least number (x ∷ xs))
first_is_there number x xs =
    let r = least_there number x xs in
    some_found (λ y. list_all (λ z. nat_le (number y) (number z)) (x ∷ xs)) (x ∷ xs) r.least r.place (bound_test number (x ∷ xs) r.least r.none_is_less)

-- of some elements one is the first of least number
pub some_least : {X : Type 0} (number : X → ℕ) (xs : List X) → 1 ≤ length xs → IsSome (first_of_least number xs)
some_least number [] l = absurd (omega (arith, l))
some_least number (x ∷ xs) l = first_is_there number x xs
