-- Tests of whole numbers that the code's words are made of: equality and order as answers.
use mathlib.Core.Bool.{Bool, true, false, cond}
use mathlib.Core.Logic.{◌⊎◌, inl, inr}
use mathlib.Core.Path.{◌≡◌, refl, sym, ap, ◌∙◌, ap₂}
use native.Mathlib.Omega.{arith}
use lib.IntN.{ℤ, pos, ◌*ℤ◌}
use lib.Signed.{◌≤ℤ◌, ◌<ℤ◌, lt_z as int_lt, le_z as int_le}
use borrow.Author.Differences.{ints}
use Rattle.std.specs.declared.cmp.Ordering.TheVariants.{Less, Equal, Greater}
use Rattle.std.specs.Ordering.{int_cmp, int_eq, is_eq}
use Rattle.basics.proofs.Quotients.{less_scaled}
use Rattle.basics.proofs.Signs.{less_yes, less_no, three_ways, same_less, same_at_most, strict_plus_plus, strict_plus_minus, plus_minus, cancel_positive, cancel_negative, cancel_nonpositive}
use Rattle.basics.proofs.Orders.{weak_positive}

-- ---- which of three
-- a comparison answers with the order of the two numbers
pub cmp_less : (a b : ℤ) → a <ℤ b → int_cmp a b ≡ Less
cmp_less a b h = ap (λ (t : Bool). cond t Less (cond (int_lt b a) Greater Equal)) (less_yes a b h)

pub cmp_greater : (a b : ℤ) → b <ℤ a → int_cmp a b ≡ Greater
cmp_greater a b h = ap (λ (t : Bool). cond t Less (cond (int_lt b a) Greater Equal)) (less_no a b (weak a b h)) ∙ ap (λ (t : Bool). cond t Greater Equal) (less_yes b a h)
  where
    weak : (a b : ℤ) → b <ℤ a → b ≤ℤ a
    weak a b h = omega (arith, ints)

pub cmp_equal : (a b : ℤ) → a ≡ b → int_cmp a b ≡ Equal
cmp_equal a b e = ap (λ (t : Bool). cond t Less (cond (int_lt b a) Greater Equal)) (less_no a b (weak a b e)) ∙ ap (λ (t : Bool). cond t Greater Equal) (less_no b a (weak b a (sym e)))
  where
    weak : (a b : ℤ) → a ≡ b → b ≤ℤ a
    weak a b e = omega (arith, ints)

-- ---- and what each answer says
pub cmp_less_from : (a b : ℤ) → int_cmp a b ≡ Less → a <ℤ b
cmp_less_from a b e = go (three_ways a b)
  where
    go : (a <ℤ b) ⊎ ((a ≡ b) ⊎ (b <ℤ a)) → a <ℤ b
    go (inl h) = h
    go (inr (inl h)) = absurd (let f = cmp_equal a b h in cc)
    go (inr (inr h)) = absurd (let f = cmp_greater a b h in cc)

pub cmp_equal_from : (a b : ℤ) → int_cmp a b ≡ Equal → a ≡ b
cmp_equal_from a b e = go (three_ways a b)
  where
    go : (a <ℤ b) ⊎ ((a ≡ b) ⊎ (b <ℤ a)) → a ≡ b
    go (inl h) = absurd (let f = cmp_less a b h in cc)
    go (inr (inl h)) = h
    go (inr (inr h)) = absurd (let f = cmp_greater a b h in cc)

pub cmp_greater_from : (a b : ℤ) → int_cmp a b ≡ Greater → b <ℤ a
cmp_greater_from a b e = go (three_ways a b)
  where
    go : (a <ℤ b) ⊎ ((a ≡ b) ⊎ (b <ℤ a)) → b <ℤ a
    go (inl h) = absurd (let f = cmp_less a b h in cc)
    go (inr (inl h)) = absurd (let f = cmp_equal a b h in cc)
    go (inr (inr h)) = h

-- ---- equality as a test
-- the test passes at equal numbers and fails at others, and each answer says so
pub equal_yes : (a b : ℤ) → a ≡ b → int_eq a b ≡ true
equal_yes a b e = ap is_eq (cmp_equal a b e)

pub equal_no : (a b : ℤ) → (a ≡ b → ⊥) → int_eq a b ≡ false
equal_no a b f = go (three_ways a b)
  where
    go : (a <ℤ b) ⊎ ((a ≡ b) ⊎ (b <ℤ a)) → int_eq a b ≡ false
    go (inl h) = ap is_eq (cmp_less a b h)
    go (inr (inl h)) = absurd (f h)
    go (inr (inr h)) = ap is_eq (cmp_greater a b h)

pub equal_from : (a b : ℤ) → int_eq a b ≡ true → a ≡ b
equal_from a b e = go (three_ways a b)
  where
    go : (a <ℤ b) ⊎ ((a ≡ b) ⊎ (b <ℤ a)) → a ≡ b
    go (inl h) = absurd (let f = equal_no a b (λ k. apart k h) in cc)
      where
        apart : a ≡ b → a <ℤ b → ⊥
        apart k h = omega (arith, ints)
    go (inr (inl h)) = h
    go (inr (inr h)) = absurd (let f = equal_no a b (λ k. apart k h) in cc)
      where
        apart : a ≡ b → b <ℤ a → ⊥
        apart k h = omega (arith, ints)

pub not_equal_from : (a b : ℤ) → int_eq a b ≡ false → a ≡ b → ⊥
not_equal_from a b e h = let f = equal_yes a b h in cc

-- two tests with the same meaning give the same
pub same_equal : (a b c d : ℤ) → (a ≡ b → c ≡ d) → (c ≡ d → a ≡ b) → int_eq a b ≡ int_eq c d
same_equal a b c d f g = go (int_eq a b) refl
  where
    go : (t : Bool) → int_eq a b ≡ t → int_eq a b ≡ int_eq c d
    go true e = e ∙ sym (equal_yes c d (f (equal_from a b e)))
    go false e = e ∙ sym (equal_no c d (λ h. not_equal_from a b e (g h)))

-- two comparisons with the same meaning give the same
pub same_cmp : (a b c d : ℤ) → (a <ℤ b → c <ℤ d) → (a ≡ b → c ≡ d) → (b <ℤ a → d <ℤ c) → int_cmp a b ≡ int_cmp c d
same_cmp a b c d f g h = go (three_ways a b)
  where
    go : (a <ℤ b) ⊎ ((a ≡ b) ⊎ (b <ℤ a)) → int_cmp a b ≡ int_cmp c d
    go (inl e) = cmp_less a b e ∙ sym (cmp_less c d (f e))
    go (inr (inl e)) = cmp_equal a b e ∙ sym (cmp_equal c d (g e))
    go (inr (inr e)) = cmp_greater a b e ∙ sym (cmp_greater c d (h e))

-- ---- a number times one above 0 has its sign
pub positive_scaled : (k a : ℤ) → pos 0 <ℤ k → int_lt (pos 0) (k *ℤ a) ≡ int_lt (pos 0) a
positive_scaled k a h = same_less (pos 0) (k *ℤ a) (pos 0) a (λ l. cancel_positive k a (weak_positive k h) l) (λ l. strict_plus_plus k a h l)

pub negative_scaled : (k a : ℤ) → pos 0 <ℤ k → int_lt (k *ℤ a) (pos 0) ≡ int_lt a (pos 0)
negative_scaled k a h = same_less (k *ℤ a) (pos 0) a (pos 0) (λ l. cancel_negative k a (weak_positive k h) l) (λ l. strict_plus_minus k a h l)

pub nonpositive_scaled : (k a : ℤ) → pos 0 <ℤ k → int_le (k *ℤ a) (pos 0) ≡ int_le a (pos 0)
nonpositive_scaled k a h = same_at_most (k *ℤ a) (pos 0) a (pos 0) (λ l. cancel_nonpositive k a h l) (λ l. plus_minus k a (weak_positive k h) l)

-- so it compares with 0 as that number does
pub cmp_scaled : (k a : ℤ) → pos 0 <ℤ k → int_cmp (k *ℤ a) (pos 0) ≡ int_cmp a (pos 0)
cmp_scaled k a h = ap (λ (t : Bool). cond t Less (cond (int_lt (pos 0) (k *ℤ a)) Greater Equal)) (negative_scaled k a h) ∙ ap (λ (t : Bool). cond (int_lt a (pos 0)) Less (cond t Greater Equal)) (positive_scaled k a h)

-- and it is 0 exactly where that number is
pub zero_scaled : (k a : ℤ) → pos 0 <ℤ k → int_eq (k *ℤ a) (pos 0) ≡ int_eq a (pos 0)
zero_scaled k a h = ap is_eq (cmp_scaled k a h)

-- two numbers times one above 0 compare as they did
pub cmp_two_scaled : (k a b : ℤ) → pos 0 <ℤ k → int_cmp (k *ℤ a) (k *ℤ b) ≡ int_cmp a b
cmp_two_scaled k a b h = ap₂ (λ (s t : Bool). cond s Less (cond t Greater Equal)) (less_scaled k a b h) (less_scaled k b a h)
