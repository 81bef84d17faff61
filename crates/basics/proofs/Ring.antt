-- Identities of sums, differences and products of whole numbers, solved by computation: an expression is brought to a
-- sum of terms (a coefficient and the sorted list of its variables), and two expressions are equal at all values of the
-- variables where every coefficient of the difference of their terms is 0.
use Prim.Native.Nat.{ℕ, zero, suc}
use mathlib.Core.Bool.{Bool, true, false, ◌&&◌}
use mathlib.Core.List.{List, [], ◌∷◌}
use mathlib.Core.Path.{◌≡◌, refl, sym, ap, ap₂, ◌∙◌}
use native.Mathlib.Omega.{arith}
use lib.Dec.{T, leb, eqb, eqb→eq}
use lib.IntN.{ℤ, pos, negsuc, ◌+ℤ◌, ◌-ℤ◌, ◌*ℤ◌, +ℤ_assoc, +ℤ_idl, *ℤ_comm, zero-*ℤ}
use borrow.Author.Differences.{ints}
use Rattle.basics.proofs.IntRing.{distributes, associates}
use Rattle.basics.proofs.Orders.{no_difference}

infixl 6 ◌⊕◌ ◌⊖◌
infixl 7 ◌⊗◌
-- an expression over numbered variables
pub data Expr : Type 0 where
  var : ℕ → Expr
  lit : ℤ → Expr
  ◌⊕◌ : Expr → Expr → Expr
  ◌⊖◌ : Expr → Expr → Expr
  ◌⊗◌ : Expr → Expr → Expr

-- the value of the variable i
abbrev pub at : List ℤ → ℕ → ℤ
at [] i = pos 0
at (x ∷ xs) zero = x
at (x ∷ xs) (suc i) = at xs i

abbrev pub eval : List ℤ → Expr → ℤ
eval ρ (var i) = at ρ i
eval ρ (lit z) = z
eval ρ (l ⊕ r) = eval ρ l +ℤ eval ρ r
eval ρ (l ⊖ r) = eval ρ l -ℤ eval ρ r
eval ρ (l ⊗ r) = eval ρ l *ℤ eval ρ r

-- a coefficient and the variables of its product, in order
pub record Term : Type 0 where
  pub coefficient : ℤ
  pub variables : List ℕ

-- ---- values
abbrev product : List ℤ → List ℕ → ℤ
product ρ [] = pos 1
product ρ (i ∷ m) = at ρ i *ℤ product ρ m

abbrev term_value : List ℤ → Term → ℤ
term_value ρ t = t.coefficient *ℤ product ρ t.variables

abbrev value : List ℤ → List Term → ℤ
value ρ [] = pos 0
value ρ (t ∷ p) = term_value ρ t +ℤ value ρ p

-- ---- the normal form
abbrev same_variables : List ℕ → List ℕ → Bool
same_variables [] [] = true
same_variables (i ∷ m) (j ∷ n) = eqb i j && same_variables m n
same_variables _ _ = false

abbrev put_variable : ℕ → List ℕ → List ℕ
put_variable i [] = i ∷ []
put_variable i (j ∷ m) = elim (leb i j) [ true ↦ i ∷ (j ∷ m) | false ↦ j ∷ put_variable i m ]

abbrev join : List ℕ → List ℕ → List ℕ
join [] n = n
join (i ∷ m) n = put_variable i (join m n)

abbrev put_term : Term → List Term → List Term
put_term t [] = t ∷ []
put_term t (u ∷ p) = elim (same_variables t.variables u.variables) [ true ↦ record { coefficient = t.coefficient +ℤ u.coefficient; variables = u.variables } ∷ p | false ↦ u ∷ put_term t p ]

abbrev add : List Term → List Term → List Term
add [] q = q
add (t ∷ p) q = put_term t (add p q)

abbrev scale : Term → List Term → List Term
scale t [] = []
scale t (u ∷ p) = record { coefficient = t.coefficient *ℤ u.coefficient; variables = join t.variables u.variables } ∷ scale t p

abbrev multiply : List Term → List Term → List Term
multiply [] q = []
multiply (t ∷ p) q = add (scale t q) (multiply p q)

abbrev minus_one : Term
minus_one = record { coefficient = negsuc 0; variables = [] }

abbrev normal : Expr → List Term
normal (var i) = record { coefficient = pos 1; variables = i ∷ [] } ∷ []
normal (lit z) = record { coefficient = z; variables = [] } ∷ []
normal (l ⊕ r) = add (normal l) (normal r)
normal (l ⊖ r) = add (normal l) (scale minus_one (normal r))
normal (l ⊗ r) = multiply (normal l) (normal r)

abbrev is_nothing : ℤ → Bool
is_nothing (pos zero) = true
is_nothing _ = false

abbrev all_nothing : List Term → Bool
all_nothing [] = true
all_nothing (t ∷ p) = is_nothing t.coefficient && all_nothing p

-- ---- their laws
and_true : (a b : Bool) → T (a && b) → T a × T b
and_true true true h = (tt, tt)
and_true true false h = absurd h
and_true false b h = absurd h

-- products that the test takes for the same have the same variables
same_is : (m n : List ℕ) → T (same_variables m n) → m ≡ n
same_is [] [] h = refl
same_is [] (j ∷ n) h = absurd h
same_is (i ∷ m) [] h = absurd h
same_is (i ∷ m) (j ∷ n) h = let both : T (eqb i j) × T (same_variables m n) = and_true (eqb i j) (same_variables m n) h in ap₂ (λ (k : ℕ) (l : List ℕ). k ∷ l) (eqb→eq i j both.0) (same_is m n both.1)

pub swap_factors : (a b c : ℤ) → a *ℤ (b *ℤ c) ≡ b *ℤ (a *ℤ c)
swap_factors a b c = sym (associates a b c) ∙ ap (λ (x : ℤ). x *ℤ c) (*ℤ_comm a b) ∙ associates b a c

swap_summands : (a b c : ℤ) → a +ℤ (b +ℤ c) ≡ b +ℤ (a +ℤ c)
swap_summands a b c = omega (arith, ints)

-- a product distributes over a sum on its left
distributes_right : (a b c : ℤ) → (a +ℤ b) *ℤ c ≡ a *ℤ c +ℤ b *ℤ c
distributes_right a b c = *ℤ_comm (a +ℤ b) c ∙ distributes c a b ∙ ap₂ (λ (x y : ℤ). x +ℤ y) (*ℤ_comm c a) (*ℤ_comm c b)

-- a choice has the value of the side that was taken
choose_variables : (ρ : List ℤ) (v : ℤ) (b : Bool) (x y : List ℕ) → product ρ x ≡ v → product ρ y ≡ v → product ρ (elim b [ true ↦ x | false ↦ y ]) ≡ v
choose_variables ρ v true x y e f = e
choose_variables ρ v false x y e f = f

-- a variable put at its place in a product multiplies it
put_variable_is : (ρ : List ℤ) (i : ℕ) (m : List ℕ) → product ρ (put_variable i m) ≡ at ρ i *ℤ product ρ m
put_variable_is ρ i [] = refl
put_variable_is ρ i (j ∷ m) = choose_variables ρ (at ρ i *ℤ (at ρ j *ℤ product ρ m)) (leb i j) (i ∷ (j ∷ m)) (j ∷ put_variable i m) refl
    (ap (λ (x : ℤ). at ρ j *ℤ x) (put_variable_is ρ i m) ∙ swap_factors (at ρ j) (at ρ i) (product ρ m))

-- two products joined are the product of both
join_is : (ρ : List ℤ) (m n : List ℕ) → product ρ (join m n) ≡ product ρ m *ℤ product ρ n
join_is ρ [] n = sym (*ℤ_comm (pos 1) (product ρ n) ∙ one_right (product ρ n))
  where
    one_right : (z : ℤ) → z *ℤ pos 1 ≡ z
    one_right z = omega (arith, ints)
join_is ρ (i ∷ m) n = put_variable_is ρ i (join m n) ∙ ap (λ (x : ℤ). at ρ i *ℤ x) (join_is ρ m n) ∙ sym (associates (at ρ i) (product ρ m) (product ρ n))

-- the same of a choice of sums
choose_terms : (ρ : List ℤ) (v : ℤ) (b : Bool) (x y : List Term) → (T b → value ρ x ≡ v) → value ρ y ≡ v → value ρ (elim b [ true ↦ x | false ↦ y ]) ≡ v
choose_terms ρ v true x y e f = e tt
choose_terms ρ v false x y e f = f

-- a term put into a sum adds its value, also where it is merged with one of the same variables
put_term_is : (ρ : List ℤ) (t : Term) (p : List Term) → value ρ (put_term t p) ≡ term_value ρ t +ℤ value ρ p
put_term_is ρ t [] = refl
put_term_is ρ t (u ∷ p) = choose_terms ρ (term_value ρ t +ℤ (term_value ρ u +ℤ value ρ p)) (same_variables t.variables u.variables)
    (record { coefficient = t.coefficient +ℤ u.coefficient; variables = u.variables } ∷ p) (u ∷ put_term t p)
    (λ h. ap (λ (x : ℤ). x +ℤ value ρ p) (distributes_right t.coefficient u.coefficient (product ρ u.variables)) ∙ +ℤ_assoc (t.coefficient *ℤ product ρ u.variables) (term_value ρ u) (value ρ p)
    ∙ ap (λ (m : List ℕ). t.coefficient *ℤ product ρ m +ℤ (term_value ρ u +ℤ value ρ p)) (sym (same_is t.variables u.variables h)))
    (ap (λ (x : ℤ). term_value ρ u +ℤ x) (put_term_is ρ t p) ∙ swap_summands (term_value ρ u) (term_value ρ t) (value ρ p))

-- the value of two sums added is the sum of theirs
add_is : (ρ : List ℤ) (p q : List Term) → value ρ (add p q) ≡ value ρ p +ℤ value ρ q
add_is ρ [] q = sym (+ℤ_idl (value ρ q))
add_is ρ (t ∷ p) q = put_term_is ρ t (add p q) ∙ ap (λ (x : ℤ). term_value ρ t +ℤ x) (add_is ρ p q) ∙ sym (+ℤ_assoc (term_value ρ t) (value ρ p) (value ρ q))

cross : (a b x y : ℤ) → (a *ℤ b) *ℤ (x *ℤ y) ≡ (a *ℤ x) *ℤ (b *ℤ y)
cross a b x y = associates a b (x *ℤ y) ∙ ap (λ (z : ℤ). a *ℤ z) (swap_factors b x y) ∙ sym (associates a x (b *ℤ y))

-- that of a sum times a term is the product of theirs
scale_is : (ρ : List ℤ) (t : Term) (p : List Term) → value ρ (scale t p) ≡ term_value ρ t *ℤ value ρ p
scale_is ρ t [] = sym (*ℤ_comm (term_value ρ t) (pos 0) ∙ zero-*ℤ (term_value ρ t))
scale_is ρ t (u ∷ p) = ap₂ (λ (x y : ℤ). x +ℤ y)
    (ap (λ (x : ℤ). (t.coefficient *ℤ u.coefficient) *ℤ x) (join_is ρ t.variables u.variables) ∙ cross t.coefficient u.coefficient (product ρ t.variables) (product ρ u.variables))
    (scale_is ρ t p) ∙ sym (distributes (term_value ρ t) (term_value ρ u) (value ρ p))

-- and that of two sums multiplied is the product of theirs
multiply_is : (ρ : List ℤ) (p q : List Term) → value ρ (multiply p q) ≡ value ρ p *ℤ value ρ q
multiply_is ρ [] q = sym (zero-*ℤ (value ρ q))
multiply_is ρ (t ∷ p) q = add_is ρ (scale t q) (multiply p q) ∙ ap₂ (λ (x y : ℤ). x +ℤ y) (scale_is ρ t q) (multiply_is ρ p q) ∙ sym (distributes_right (term_value ρ t) (value ρ p) (value ρ q))

-- the normal form of an expression has its value, whatever the variables are
normal_is : (ρ : List ℤ) (e : Expr) → value ρ (normal e) ≡ eval ρ e
normal_is ρ (var i) = plain (at ρ i)
  where
    plain : (z : ℤ) → pos 1 *ℤ (z *ℤ pos 1) +ℤ pos 0 ≡ z
    plain z = omega (arith, ints)
normal_is ρ (lit z) = plain z
  where
    plain : (z : ℤ) → z *ℤ pos 1 +ℤ pos 0 ≡ z
    plain z = omega (arith, ints)
normal_is ρ (l ⊕ r) = add_is ρ (normal l) (normal r) ∙ ap₂ (λ (x y : ℤ). x +ℤ y) (normal_is ρ l) (normal_is ρ r)
normal_is ρ (l ⊖ r) = add_is ρ (normal l) (scale minus_one (normal r)) ∙ ap₂ (λ (x y : ℤ). x +ℤ y) (normal_is ρ l) (scale_is ρ minus_one (normal r) ∙ ap (λ (x : ℤ). term_value ρ minus_one *ℤ x) (normal_is ρ r)) ∙ turned (eval ρ l) (eval ρ r)
  where
    turned : (x y : ℤ) → x +ℤ (negsuc 0 *ℤ pos 1) *ℤ y ≡ x -ℤ y
    turned x y = omega (arith, ints)
normal_is ρ (l ⊗ r) = multiply_is ρ (normal l) (normal r) ∙ ap₂ (λ (x y : ℤ). x *ℤ y) (normal_is ρ l) (normal_is ρ r)

nothing_is : (z : ℤ) → T (is_nothing z) → z ≡ pos 0
nothing_is (pos zero) h = refl
nothing_is (pos (suc n)) h = absurd h
nothing_is (negsuc n) h = absurd h

-- a sum whose coefficients are all 0 has the value 0
all_nothing_is : (ρ : List ℤ) (p : List Term) → T (all_nothing p) → value ρ p ≡ pos 0
all_nothing_is ρ [] h = refl
all_nothing_is ρ (t ∷ p) h = let both : T (is_nothing t.coefficient) × T (all_nothing p) = and_true (is_nothing t.coefficient) (all_nothing p) h in
    ap₂ (λ (x y : ℤ). x *ℤ product ρ t.variables +ℤ y) (nothing_is t.coefficient both.0) (all_nothing_is ρ p both.1) ∙ ap (λ (x : ℤ). x +ℤ pos 0) (zero-*ℤ (product ρ t.variables))

-- two expressions are equal at all values where every coefficient of their difference is 0
pub solve : (ρ : List ℤ) (l r : Expr) → T (all_nothing (normal (l ⊖ r))) → eval ρ l ≡ eval ρ r
solve ρ l r h = no_difference (eval ρ l) (eval ρ r) (sym (normal_is ρ (l ⊖ r)) ∙ all_nothing_is ρ (normal (l ⊖ r)) h)
