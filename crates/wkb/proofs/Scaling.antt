-- A size as a quotient with many digits, and the exponent of the nearest double.
use Rattle.std.proofs.Common.{◌≡◌, ◌⊎◌, inl, inr, sym, ap, ap₂, ◌∙◌, subst, ℕ, zero, suc, ◌+◌, ◌-◌, ◌*◌, ◌/◌, ◌%◌, ◌^◌, ◌<◌, ◌≤◌, ◌==◌, Bool, true, false, ◌&&◌, ◌||◌, arith, lit<, refl, add-one}
use Rattle.std.specs.Prelude.{cond, nat_le, nat_lt, if◌then◌else◌}
use Rattle.std.proofs.Math.Nat.{mod-eq_of_lt, div-eq_of_lt, pow-le-pow_right, eq-or-lt_of_le}
use Rattle.std.proofs.lemmas.Nat.{pow_pos, pow-add, mul-le, div-add-mod'}
use Rattle.std.proofs.lemmas.Bool.{le-leb, lt-leb, eq-eqb, ne_eqb, cases_lt, cases_order}
use Rattle.wkb.specs.Doubles.{one}
use Rattle.wkb.specs.Grids.{unit_limit}
use Rattle.wkb.specs.NearestDoubles.{exponent_of, nearest_size, double_of_exponent, most_exponent, rounded_to_even, goes_up}
use Rattle.wkb.specs.Scales.{IsAlike, IsScaled, IsSignificand}
use Rattle.wkb.specs.declared.nearest_doubles.Scaled.{Scaled}
use Rattle.wkb.proofs.Sizes.{div_both, mod_both, one_is}

pub some_power : (k : ℕ) → 0 < 2 ^ k
some_power k = omega (arith, pow_pos k)

pub same : (n : ℕ) → n ≤ n
same n = omega arith

-- ---- powers of 2
-- a number with so many binary digits, which is doubled so often that it has so many more
grown_least : (n k a m : ℕ) → 2 ^ k ≤ n → k + a ≡ m → 2 ^ m ≤ n * 2 ^ a
grown_least n k a m least is = subst (λ (j : ℕ). 2 ^ j ≤ n * 2 ^ a) is
    (subst (λ (p : ℕ). p ≤ n * 2 ^ a) (sym (pow-add 2 k a)) (mul-le _ _ _ _ least (same (2 ^ a))))

grown_most : (n k a m : ℕ) → n < 2 * 2 ^ k → k + a ≡ m → n * 2 ^ a < 2 * 2 ^ m
grown_most n k a m most is = subst (λ (j : ℕ). n * 2 ^ a < 2 * 2 ^ j) is
    (subst (λ (p : ℕ). n * 2 ^ a < 2 * p) (sym (pow-add 2 k a)) (from n (2 ^ k) (2 ^ a) most (some_power a)))
  where
    from : (n p q : ℕ) → n < 2 * p → 0 < q → n * q < 2 * (p * q)
    from n p q h s = let product : (n + 1) * q ≤ 2 * p * q = mul-le _ _ _ _ (next n p h) (same q) in omega (arith, product, s)
      where
        next : (n p : ℕ) → n < 2 * p → n + 1 ≤ 2 * p
        next n p h = omega (arith, h)

-- how many binary digits a number has at most
pub short_by : (n k m : ℕ) → 2 ^ k ≤ n → n < 2 ^ m → k < m
short_by n k m least short = go (cases_lt k m)
  where
    go : (k < m) ⊎ (m ≤ k) → k < m
    go (inl h) = h
    go (inr h) = let grown : 2 ^ m ≤ 2 ^ k = pow-le-pow_right (lit< tt) h in absurd (omega (arith, grown, least, short))

-- ---- the quotient with many digits
alike : (n parts a b m u : ℕ) → a ≤ 1074 → m ≡ n * 2 ^ a → u ≡ parts * 2 ^ b → 0 < u → u < 2 ^ 126 → b < 100
    → IsAlike n parts (record { number = m; shift = a; unit = u; exponent = 1074 + b - a })
alike n parts a b m u within is of some short few = record {
  short_shift = within;
  doubled = ap (λ (k : ℕ). n * k) (one_is a within) ∙ (joined n (2 ^ a) (2 ^ (1074 - a))
      ∙ ap (λ (k : ℕ). k * 2 ^ (1074 - a)) (sym is));
  measured = ap (λ (k : ℕ). parts * 2 ^ k) (together a b within) ∙ (ap (λ (k : ℕ). parts * k) (pow-add 2 (1074 - a) b)
      ∙ (swapped parts (2 ^ (1074 - a)) (2 ^ b) ∙ ap (λ (k : ℕ). 2 ^ (1074 - a) * k) (sym of)));
  some = some;
  short = short;
  few = omega (arith, few);
}
  where
    joined : (n p q : ℕ) → n * (p * q) ≡ n * p * q
    joined n p q = omega arith

    swapped : (n p q : ℕ) → n * (p * q) ≡ p * (n * q)
    swapped n p q = omega arith

    together : (a b : ℕ) → a ≤ 1074 → 1074 + b - a ≡ 1074 - a + b
    together a b h = omega (arith, h)

from_bounds : (n parts a b m u : ℕ) → a ≤ 1074 → m ≡ n * 2 ^ a → u ≡ parts * 2 ^ b → 2 ^ 127 ≤ m → m < 2 ^ 128
    → 2 ^ 74 ≤ u → u < 2 ^ 75 → b < 100
    → IsScaled n parts (record { number = m; shift = a; unit = u; exponent = 1074 + b - a })
from_bounds n parts a b m u within is of least most some short few = record {
  alike = alike n parts a b m u within is of (omega (arith, some)) (omega (arith, short)) few;
  least = omega (arith, least, short);
  most = omega (arith, most, some);
  tiny = short;
  low = omega (arith, few);
}

pub is_scaled : (n parts from k j : ℕ) → from ≡ parts → n < 2 ^ 98 → parts ≤ unit_limit → 2 ^ k ≤ n → n < 2 * 2 ^ k
    → 2 ^ j ≤ parts → parts < 2 * 2 ^ j
    → IsScaled n parts (record {
      number = n * 2 ^ (127 - k) % 2 ^ 128;
      shift = 127 - k;
      unit = from * 2 ^
          (74 - j) % 2 ^ 128;
      exponent = 1074 + (74 - j) - (127 - k);
    })
is_scaled n parts from k j e short few least most some below =
    let digits : k < 98 = short_by n k 98 least short in
    let more : j < 50 = short_by parts j 50 some (omega (arith, few)) in
    let low : 2 ^ 127 ≤ n * 2 ^ (127 - k) = grown_least n k (127 - k) 127 least (omega (arith, digits)) in
    let high : n * 2 ^ (127 - k) < 2 * 2 ^ 127 = grown_most n k (127 - k) 127 most (omega (arith, digits)) in
    let least_unit : 2 ^ 74 ≤ parts * 2 ^ (74 - j) = grown_least parts j (74 - j) 74 some (omega (arith, more)) in
    let most_unit : parts * 2 ^ (74 - j) < 2 * 2 ^ 74 = grown_most parts j (74 - j) 74 below (omega (arith, more)) in
    let is : n * 2 ^ (127 - k) % 2 ^ 128 ≡ n * 2 ^ (127 - k) = mod-eq_of_lt (within _ high) in
    let of : from * 2 ^ (74 - j) % 2 ^ 128 ≡ parts * 2 ^ (74 - j)
    = ap (λ (m : ℕ). m * 2 ^ (74 - j) % 2 ^ 128) e ∙ mod-eq_of_lt (fits _ most_unit) in
    from_bounds n parts (127 - k) (74 - j) _ _ (omega arith) is of (subst (λ (m : ℕ). 2 ^ 127 ≤ m) (sym is) low)
    (subst (λ (m : ℕ). m < 2 ^ 128) (sym is) (within _ high)) (subst (λ (m : ℕ). 2 ^ 74 ≤ m) (sym of) least_unit)
    (subst (λ (m : ℕ). m < 2 ^ 75) (sym of) (short_unit _ most_unit)) (omega arith)
  where
    within : (m : ℕ) → m < 2 * 2 ^ 127 → m < 2 ^ 128
    within m h = omega (arith, h)

    fits : (m : ℕ) → m < 2 * 2 ^ 74 → m < 2 ^ 128
    fits m h = omega (arith, h)

    short_unit : (m : ℕ) → m < 2 * 2 ^ 74 → m < 2 ^ 75
    short_unit m h = omega (arith, h)

-- ---- below 2 to the power of 53
quotient_above : (x u m : ℕ) → m ≤ x / u → m * u ≤ x
quotient_above x u m h = let product : m * u ≤ x / u * u = mul-le _ _ _ _ h (same u) in omega (arith, product, div-add-mod' x u)

pub halved_significand : (n parts : ℕ) (s : Scaled) → IsScaled n parts s → 2 ^ 53 ≤ s.number / s.unit
    → IsSignificand n parts (record { number = s.number; shift = s.shift; unit = s.unit * 2; exponent = s.exponent + 1 })
halved_significand n parts s found long = record {
  alike = record {
    short_shift = found.alike.short_shift;
    doubled = found.alike.doubled;
    measured = ap (λ (k : ℕ). parts * k) (pow-add 2 s.exponent 1) ∙ (further parts (2 ^ s.exponent)
        ∙ (ap (λ (k : ℕ). k * 2) found.alike.measured ∙ joined (2 ^ (1074 - s.shift)) s.unit));
    some = omega (arith, found.alike.some);
    short = omega (arith, found.tiny);
    few = omega (arith, found.low);
  };
  least = omega (arith, quotient_above s.number s.unit (2 ^ 53) long);
  most = omega (arith, found.most);
}
  where
    further : (n p : ℕ) → n * (p * 2 ^ 1) ≡ n * p * 2
    further n p = omega arith

    joined : (n p : ℕ) → n * p * 2 ≡ n * (p * 2)
    joined n p = omega arith

-- ---- the exponent
pub no_exponent : (most parts : ℕ) → 0 < parts → exponent_of most parts 0 ≡ 0
unfolding exponent_of
no_exponent zero parts some = refl
no_exponent (suc most) parts some = ap (λ (b : Bool). if b then suc most else exponent_of most parts 0)
    (lt-leb (2 ^ 52 * (parts * 2 ^ suc most)) 0 (positive parts (2 ^ suc most) some (some_power (suc most))))
    ∙ no_exponent most parts some
  where
    positive : (n p : ℕ) → 0 < n → 0 < p → 0 < 2 ^ 52 * (n * p)
    positive n p h k = let product : 1 * 1 ≤ n * p = mul-le 1 1 n p h k in omega (arith, product)

exponent_is : (most e parts size : ℕ) → e ≤ most → 2 ^ 52 * (parts * 2 ^ e) ≤ size → size < 2 ^ 52 * (parts * 2 ^ suc e)
    → exponent_of most parts size ≡ e
unfolding exponent_of
exponent_is zero e parts size within least short = omega (arith, within)
exponent_is (suc most) e parts size within least short =
    go (λ few. exponent_is most e parts size few least short) (eq-or-lt_of_le within)
  where
    go : (e ≤ most → exponent_of most parts size ≡ e) → (e ≡ suc most) ⊎ (e < suc most)
        → (if nat_le (2 ^ 52 * (parts * 2 ^ suc most)) size then suc most else exponent_of most parts size) ≡ e
    go before (inl is) = ap (λ (b : Bool). if b then suc most else exponent_of most parts size)
        (le-leb (2 ^ 52 * (parts * 2 ^ suc most)) size (subst (λ (k : ℕ). 2 ^ 52 * (parts * 2 ^ k) ≤ size) is least)) ∙ sym is
    go before (inr less) = ap (λ (b : Bool). if b then suc most else exponent_of most parts size)
        (lt-leb (2 ^ 52 * (parts * 2 ^ suc most)) size (later parts (2 ^ suc e) (2 ^ suc most) size short
        (pow-le-pow_right (lit< tt) (above less))))
        ∙ before (up_to less)
      where
        above : e < suc most → suc e ≤ suc most
        above h = omega (arith, h)

        up_to : e < suc most → e ≤ most
        up_to h = omega (arith, h)

        later : (n p q size : ℕ) → size < 2 ^ 52 * (n * p) → p ≤ q → size < 2 ^ 52 * (n * q)
        later n p q size h more = let product : n * p ≤ n * q = mul-le _ _ _ _ (same n) more in omega (arith, h, product)

-- ---- the nearest double
times_lt : (p a b : ℕ) → 0 < p → nat_lt (p * a) (p * b) ≡ nat_lt a b
times_lt p a b some = go (cases_lt a b)
  where
    go : (a < b) ⊎ (b ≤ a) → nat_lt (p * a) (p * b) ≡ nat_lt a b
    go (inl h) = le-leb _ _ (less p a b some h) ∙ sym (le-leb _ _ h)
      where
        less : (p a b : ℕ) → 0 < p → a < b → p * a < p * b
        less p a b some h = let product : p * suc a ≤ p * b = mul-le _ _ _ _ (same p) h in omega (arith, product, some)
    go (inr h) = lt-leb _ _ (at_most p a b h) ∙ sym (lt-leb _ _ (next a b h))
      where
        at_most : (p a b : ℕ) → b ≤ a → p * b < suc (p * a)
        at_most p a b h = let product : p * b ≤ p * a = mul-le _ _ _ _ (same p) h in omega (arith, product)

        next : (a b : ℕ) → b ≤ a → b < suc a
        next a b h = omega (arith, h)

apart : (p a b : ℕ) → 0 < p → a < b → p * a ≡ p * b → ⊥
apart p a b some h e = let product : p * suc a ≤ p * b = mul-le _ _ _ _ (same p) h in omega (arith, product, some, e)

times_eq : (p a b : ℕ) → 0 < p → (p * a == p * b) ≡ (a == b)
times_eq p a b some = go (cases_order a b)
  where
    go : (a ≡ b) ⊎ ((a < b) ⊎ (b < a)) → (p * a == p * b) ≡ (a == b)
    go (inl h) = eq-eqb _ _ (ap (λ (n : ℕ). p * n) h) ∙ sym (eq-eqb _ _ h)
    go (inr (inl h)) = ne_eqb _ _ (λ e. apart p a b some h e) ∙ sym (ne_eqb _ _ (λ e. omega (arith, h, e)))
    go (inr (inr h)) = ne_eqb _ _ (λ e. apart p b a some h (sym e)) ∙ sym (ne_eqb _ _ (λ e. omega (arith, h, e)))

rounds_alike : (t p u : ℕ) → 0 < p → rounded_to_even (t * p) (p * u) ≡ rounded_to_even t u
rounds_alike t p u some = ap₂ (λ (q r : ℕ). q + cond (goes_up q r (p * u)) 1 0) (div_both t p u some) (mod_both t p u some)
    ∙ ap₂ (λ (b c : Bool). t / u + cond (b || (c && (t / u % 2 == 1))) 1 0)
    (ap (λ (n : ℕ). nat_lt (p * u) n) (doubled p (t % u)) ∙ times_lt p u (t % u * 2) some)
    (ap (λ (n : ℕ). n == p * u) (doubled p (t % u)) ∙ times_eq p (t % u * 2) u some)
  where
    doubled : (p r : ℕ) → p * r * 2 ≡ p * (r * 2)
    doubled p r = omega arith

pub nearest_is : (n parts : ℕ) (s : Scaled) → IsSignificand n parts s
    → nearest_size n parts ≡ s.exponent * 2 ^ 52 + rounded_to_even s.number s.unit
unfolding nearest_size
nearest_is n parts s found =
    let p = 2 ^ (1074 - s.shift) in
    ap (λ (e : ℕ). double_of_exponent e parts (n * one)) (exponent_is most_exponent s.exponent parts (n * one)
    (few s.exponent found.alike.few)
    (subst (λ (m : ℕ). 2 ^ 52 * m ≤ n * one) (sym found.alike.measured)
    (subst (λ (m : ℕ). 2 ^ 52 * (p * s.unit) ≤ m) (sym found.alike.doubled)
    (times_le s.number s.unit p found.least)))
    (subst (λ (m : ℕ). n * one < m) (sym (next parts s.exponent))
    (subst (λ (m : ℕ). n * one < 2 ^ 53 * m) (sym found.alike.measured)
    (subst (λ (m : ℕ). m < 2 ^ 53 * (p * s.unit)) (sym found.alike.doubled)
    (times_less s.number s.unit p (some_power (1074 - s.shift)) found.most)))))
    ∙ ap (λ (m : ℕ). s.exponent * 2 ^ 52 + m) (ap₂ rounded_to_even found.alike.doubled found.alike.measured
    ∙ rounds_alike s.number p s.unit (some_power (1074 - s.shift)))
  where
    few : (e : ℕ) → e < 2000 → e ≤ 2045
    few e h = omega (arith, h)

    times_le : (t u p : ℕ) → 2 ^ 52 * u ≤ t → 2 ^ 52 * (p * u) ≤ t * p
    times_le t u p h = let product : 2 ^ 52 * u * p ≤ t * p = mul-le _ _ _ _ h (same p) in omega (arith, product)

    times_less : (t u p : ℕ) → 0 < p → t < 2 ^ 53 * u → t * p < 2 ^ 53 * (p * u)
    times_less t u p some h = let product : suc t * p ≤ 2 ^ 53 * u * p = mul-le _ _ _ _ h (same p) in omega (arith, product, some)

    next : (n e : ℕ) → 2 ^ 52 * (n * 2 ^ suc e) ≡ 2 ^ 53 * (n * 2 ^ e)
    next n e = subst (λ (k : ℕ). 2 ^ 52 * (n * 2 ^ k) ≡ 2 ^ 53 * (n * 2 ^ e)) (add-one e)
        (ap (λ (k : ℕ). 2 ^ 52 * (n * k)) (pow-add 2 e 1) ∙ turned n (2 ^ e))
      where
        turned : (n p : ℕ) → 2 ^ 52 * (n * (p * 2 ^ 1)) ≡ 2 ^ 53 * (n * p)
        turned n p = omega arith

pub rounded_up : (n parts from : ℕ) (s : Scaled) → IsSignificand n parts s → from ≡ s.exponent
    → goes_up (s.number / s.unit) (s.number % s.unit) s.unit ≡ true → from * 2 ^ 52 + s.number / s.unit + 1 ≡ nearest_size n parts
rounded_up n parts from s found is up = sums from (s.number / s.unit) ∙ (ap (λ (e : ℕ). e * 2 ^ 52 + (s.number / s.unit + 1)) is
    ∙ (ap (λ (b : Bool). s.exponent * 2 ^ 52 + (s.number / s.unit + cond b 1 0)) (sym up) ∙ sym (nearest_is n parts s found)))
  where
    sums : (a b : ℕ) → a * 2 ^ 52 + b + 1 ≡ a * 2 ^ 52 + (b + 1)
    sums a b = omega arith

pub rounded_down : (n parts from : ℕ) (s : Scaled) → IsSignificand n parts s → from ≡ s.exponent
    → goes_up (s.number / s.unit) (s.number % s.unit) s.unit ≡ false → from * 2 ^ 52 + s.number / s.unit ≡ nearest_size n parts
rounded_down n parts from s found is up = sums from (s.number / s.unit) ∙ (ap (λ (e : ℕ). e * 2 ^ 52 + (s.number / s.unit + 0)) is
    ∙ (ap (λ (b : Bool). s.exponent * 2 ^ 52 + (s.number / s.unit + cond b 1 0)) (sym up) ∙ sym (nearest_is n parts s found)))
  where
    sums : (a b : ℕ) → a * 2 ^ 52 + b ≡ a * 2 ^ 52 + (b + 0)
    sums a b = omega arith

rounded_none : (u : ℕ) → 0 < u → rounded_to_even 0 u ≡ 0
rounded_none u some = ap₂ (λ (q r : ℕ). q + cond (goes_up q r u) 1 0) (div-eq_of_lt some) (mod-eq_of_lt some)
    ∙ ap₂ (λ (b c : Bool). 0 + cond (b || (c && (0 % 2 == 1))) 1 0) (lt-leb (suc u) 0 (above u))
    (ne_eqb 0 u (λ e. omega (arith, some, e)))
  where
    above : (u : ℕ) → 0 < suc u
    above u = omega arith

pub no_size : (n parts : ℕ) → n ≡ 0 → 0 < parts → 0 ≡ nearest_size n parts
unfolding nearest_size
no_size n parts is some = sym (ap (λ (m : ℕ). double_of_exponent (exponent_of most_exponent parts m) parts m) (none n is)
    ∙ (ap (λ (e : ℕ). double_of_exponent e parts 0) (no_exponent most_exponent parts some)
    ∙ (plain (rounded_to_even 0 (parts * 2 ^ 0)) ∙ rounded_none (parts * 2 ^ 0) (bare parts some))))
  where
    none : (n : ℕ) → n ≡ 0 → n * one ≡ 0
    none n is = ap (λ (m : ℕ). m * one) is ∙ nothing one
      where
        nothing : (u : ℕ) → 0 * u ≡ 0
        nothing u = omega arith

    plain : (n : ℕ) → 0 * 2 ^ 52 + n ≡ n
    plain n = omega arith

    bare : (n : ℕ) → 0 < n → 0 < n * 2 ^ 0
    bare n h = omega (arith, h)
