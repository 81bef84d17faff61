-- The first of least cost, when accesses are taken into account one after another.
use Rattle.std.specs.Prelude.{◌≡◌, refl, ℕ, ◌<◌, ◌≤◌, ◌+◌, true, false, cond, nat_le, List, [], ◌∷◌, ◌++◌, flat_map, get_or, length, map, take, Option, Some, None, IsSome}
use Rattle.std.specs.Option.{option_map}
use Rattle.std.proofs.Common.{arith, ap, ◌∙◌, append_assoc, sym, subst}
use Rattle.std.proofs.lemmas.List.{append-nil, map-append, take_more}
use Rattle.std.proofs.lemmas.List.Concat.{flat_map-append}
use Rattle.table_model.proofs.LeastFacts.{first_is_there}
use Rattle.table_model.specs.Plans.{cost, first_of_least}
use Rattle.table_model.specs.declared.plans.Access.{Access}
use Rattle.planner.proofs.LeastStep.{one_more}
use Rattle.planner.specs.Nestings.{IsLeastOf, Takes, accesses_in, cheaper}
use Rattle.planner.specs.declared.lawful_accesses.Nesting.{Nesting}

-- ---- one more

le_test : (a b : ℕ) → a ≤ b → nat_le a b ≡ true
le_test a b l = grind arith

more_test : (a b : ℕ) → b < a → nat_le a b ≡ false
more_test a b l = grind arith

-- the least of some accesses and of one behind them
next_is : (counts : List ℕ) (least : Option Nesting) (next : Nesting) (before : List (List Access))
    → IsLeastOf counts least before
    → first_of_least (cost counts) (before ++ accesses_in next ∷ [])
    ≡ Some (cheaper (cost counts) (option_map accesses_in least) (accesses_in next))
next_is counts least next before h =
    one_more (cost counts) before (accesses_in next) ∙ ap (λ o. Some (cheaper (cost counts) o (accesses_in next))) (sym h)

-- it stays where the next costs no less
pub least_stays : (counts : List ℕ) (least next : Nesting) → cost counts (accesses_in least) ≤ cost counts (accesses_in next)
    → Takes counts (Some least) (Some least) (accesses_in next ∷ [])
least_stays counts least next l = λ before h.
    sym (next_is counts (Some least) next before h
    ∙ ap (λ b. Some (cond b (accesses_in least) (accesses_in next))) (le_test (cost counts (accesses_in least)) (cost counts
    (accesses_in next)) l))

-- the next takes over where it costs less
pub least_changes : (counts : List ℕ) (least next : Nesting) → cost counts (accesses_in next) < cost counts (accesses_in least)
    → Takes counts (Some least) (Some next) (accesses_in next ∷ [])
least_changes counts least next l = λ before h.
    sym (next_is counts (Some least) next before h
    ∙ ap (λ b. Some (cond b (accesses_in least) (accesses_in next))) (more_test (cost counts (accesses_in least)) (cost counts
    (accesses_in next)) l))

-- or where there was none
pub least_begins : (counts : List ℕ) (next : Nesting) → Takes counts None (Some next) (accesses_in next ∷ [])
least_begins counts next = λ before h. sym (next_is counts None next before h)

-- ---- several

-- some, and then others
pub takes_twice : (counts : List ℕ) (a b c : Option Nesting) (xs ys : List (List Access)) → Takes counts a b xs
    → Takes counts b c ys → Takes counts a c (xs ++ ys)
takes_twice counts a b c xs ys p q = λ before h. subst (λ zs. IsLeastOf counts c zs) (append_assoc before xs ys) (q (before ++ xs)
    (p before h))

-- those of the elements of a list, and of one element more
pub one_taken : (counts : List ℕ) (f : Access → List Access) (xs : List Access) (i : ℕ) (d : Access) (first old new : Option
    Nesting)
    → i < length xs → Takes counts first old (map f (take i xs)) → Takes counts old new (f (get_or xs i d) ∷ [])
    → Takes counts first new (map f (take (i + 1) xs))
one_taken counts f xs i d first old new l p q =
    subst (λ zs. Takes counts first new zs)
    (sym (ap (map f) (take_more xs i d l) ∙ map-append f (take i xs) (get_or xs i d ∷ [])))
    (takes_twice counts first old new (map f (take i xs)) (f (get_or xs i d) ∷ []) p q)

-- the same, where each element has several
pub some_taken : (counts : List ℕ) (f : Access → List (List Access)) (xs : List Access) (i : ℕ) (d : Access)
    (first old new : Option Nesting)
    → i < length xs → Takes counts first old (flat_map f (take i xs)) → Takes counts old new (f (get_or xs i d))
    → Takes counts first new (flat_map f (take (i + 1) xs))
some_taken counts f xs i d first old new l p q =
    subst (λ zs. Takes counts first new zs)
    (sym (ap (flat_map f) (take_more xs i d l) ∙ flat_map-append f (take i xs) (get_or xs i d ∷ [])
    ∙ ap (λ zs. flat_map f (take i xs) ++ zs) (append-nil (f (get_or xs i d)))))
    (takes_twice counts first old new (flat_map f (take i xs)) (f (get_or xs i d)) p q)

-- ---- all

-- where nothing was taken before, the least is that of those that were taken
pub least_of_taken : (counts : List ℕ) (least : Option Nesting) (xs : List (List Access)) → Takes counts None least xs
    → option_map accesses_in least ≡ first_of_least (cost counts) xs
least_of_taken counts least xs h = h [] refl

-- where some were taken, there is one
pub some_taken_is : (counts : List ℕ) (old new : Option Nesting) (x : List Access) (xs : List (List Access))
    → Takes counts old new (x ∷ xs) → new ≡ None → ⊥
some_taken_is counts old new x xs h e = go old refl
  where
    none_there : (before : List (List Access)) → IsLeastOf counts old before → first_of_least (cost counts) (before ++ x ∷ xs)
        ≡ None
    none_there before b = sym (h before b) ∙ ap (option_map accesses_in) e

    clash : (ys : List (List Access)) (y : List Access) → first_of_least (cost counts) (y ∷ ys) ≡ None → ⊥
    clash ys y none = let some : IsSome (first_of_least (cost counts) (y ∷ ys)) = first_is_there (cost counts) y ys in cc

    go : (o : Option Nesting) → old ≡ o → ⊥
    go None is = clash xs x (none_there [] (ap (option_map accesses_in) is))
    go (Some n) is =
        clash (x ∷ xs) (accesses_in n)
        (none_there (accesses_in n ∷ []) (subst (λ o. IsLeastOf counts o (accesses_in n ∷ [])) (sym is) (least_begins counts n []
        refl)))
