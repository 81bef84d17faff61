-- The first element of least number, when one element more is looked at.
use Rattle.std.specs.Prelude.{◌≡◌, refl, ℕ, ◌<◌, ◌≤◌, Bool, true, false, cond, nat_le, List, [], ◌∷◌, ◌++◌, All, Option, Some, None, IsSome}
use Rattle.std.proofs.Common.{arith, ap, ◌∙◌, leb-true, leb-false}
use Rattle.std.proofs.lemmas.List.{append_assoc}
use Rattle.std.proofs.lemmas.List.Elements.{All-nil, All-cons, All-append, All-weaker}
use Rattle.table_model.specs.Plans.{first_of_least}
use Rattle.table_model.specs.PlanLaws.{IsFirstOfLeast}
use Rattle.table_model.proofs.LeastFacts.{first_is_first, first_is_found, first_is_there}
use Rattle.planner.specs.Nestings.{cheaper}

-- the first of least number stays the first where the element behind all has no less
stays : {X : Type 0} (number : X → ℕ) (xs : List X) (x y : X) → IsFirstOfLeast number xs x → number x ≤ number y → IsFirstOfLeast number (xs ++ y ∷ []) x
stays number xs x y f l = record {
  before = f.before;
  after = f.after ++ y ∷ [];
  parted = ap (λ zs. zs ++ y ∷ []) f.parted ∙ append_assoc f.before (x ∷ f.after) (y ∷ []);
  earlier_are_more = f.earlier_are_more;
  none_is_less = All-append (λ z. number x ≤ number z) xs (y ∷ []) f.none_is_less (All-cons (λ z. number x ≤ number z) y [] l (All-nil _));
}

-- an element with less than all before it is the first of least number
takes_over : {X : Type 0} (number : X → ℕ) (xs : List X) (y : X) → All (λ z. number y < number z) xs → IsFirstOfLeast number (xs ++ y ∷ []) y
takes_over number xs y l = record {
  before = xs;
  after = [];
  parted = refl;
  earlier_are_more = l;
  none_is_less = All-append (λ z. number y ≤ number z) xs (y ∷ []) (All-weaker (λ z. number y < number z) (λ z. number y ≤ number z) (λ z m. omega (arith, m)) xs l)
      (All-cons (λ z. number y ≤ number z) y [] (omega arith) (All-nil _));
}

-- of one element more the first of least number is the cheaper one
pub one_more : {X : Type 0} (number : X → ℕ) (xs : List X) (y : X) → first_of_least number (xs ++ y ∷ []) ≡ Some (cheaper number (first_of_least number xs) y)
one_more {X = X} number xs y = go (first_of_least number xs) refl
  where
    pick : (x : X) → first_of_least number xs ≡ Some x → (b : Bool) → nat_le (number x) (number y) ≡ b → first_of_least number (xs ++ y ∷ []) ≡ Some (cond b x y)
    pick x is true l = first_is_found number (xs ++ y ∷ []) x (stays number xs x y (first_is_first number xs x is) (leb-true (number x) (number y) l))
    pick x is false l =
        let less : number y < number x = leb-false (number x) (number y) l in
        first_is_found number (xs ++ y ∷ []) y
        (takes_over number xs y (All-weaker (λ z. number x ≤ number z) (λ z. number y < number z) (λ z m. omega (arith, m, less)) xs (first_is_first number xs x is).none_is_less))

    nothing : (zs : List X) → first_of_least number zs ≡ None → first_of_least number (zs ++ y ∷ []) ≡ Some y
    nothing [] is = first_is_found number (y ∷ []) y (takes_over number [] y (All-nil _))
    nothing (z ∷ zs) is =
        let some : IsSome (first_of_least number (z ∷ zs)) = first_is_there number z zs in
        cc

    go : (o : Option X) → first_of_least number xs ≡ o → first_of_least number (xs ++ y ∷ []) ≡ Some (cheaper number o y)
    go None is = nothing xs is
    go (Some x) is = pick x is (nat_le (number x) (number y)) refl
