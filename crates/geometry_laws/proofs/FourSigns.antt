-- Signs of four areas, over plain numbers. a and b are the areas of p and of q with the edge u v, c and d those of u and of v with the stretch p q;
-- up, uq, pv, qv, uv and pq are distances to the right.
use Rattle.std.proofs.Common.{ℤ, pos, ◌+ℤ◌, ◌-ℤ◌, ◌*ℤ◌, ◌≤ℤ◌, ◌<ℤ◌, ◌≡◌, arith}
use borrow.Author.Differences.{ints}
use Rattle.basics.proofs.Signs.{plus_plus, plus_minus, minus_plus, minus_minus, strict_plus_plus, strict_plus_minus, strict_minus_plus, strict_minus_minus, cancel_nonnegative, cancel_positive, cancel_nonpositive, cancel_negative}

pub record Areas (a b c d up uq pv qv uv pq : ℤ) : Type 0 where
  pub by_v : qv *ℤ a ≡ pv *ℤ b +ℤ uv *ℤ d
  pub by_u : up *ℤ b ≡ uq *ℤ a +ℤ uv *ℤ c
  pub by_q : qv *ℤ c +ℤ uq *ℤ d +ℤ pq *ℤ b ≡ pos 0
  pub by_p : pv *ℤ c +ℤ up *ℤ d +ℤ pq *ℤ a ≡ pos 0

abbrev Weak : ℤ → Type 0
Weak x = pos 0 ≤ℤ x

abbrev Strict : ℤ → Type 0
Strict x = pos 0 <ℤ x

weaken : (x : ℤ) → Strict x → Weak x
weaken x h = omega (arith, ints)

-- a below 0 ≤ b, c ≥ 0 ≥ d: what makes the stretches meet; and the same with all signs turned
pub record Crosses (a b c d : ℤ) : Type 0 where
  pub of_a : a ≤ℤ pos 0
  pub of_b : pos 0 ≤ℤ b
  pub of_c : pos 0 ≤ℤ c
  pub of_d : d ≤ℤ pos 0
  pub some : pos 0 <ℤ (b -ℤ a)

pub record CrossesBack (a b c d : ℤ) : Type 0 where
  pub of_a : pos 0 ≤ℤ a
  pub of_b : b ≤ℤ pos 0
  pub of_c : c ≤ℤ pos 0
  pub of_d : pos 0 ≤ℤ d
  pub some : pos 0 <ℤ (a -ℤ b)

-- p and q both over the edge
pub edge_spans : (a b c d up uq pv qv uv pq : ℤ) → Areas a b c d up uq pv qv uv pq → Weak up → Weak uq → Strict pv → Strict qv → Strict uv → a <ℤ pos 0 → pos 0 ≤ℤ b → Crosses a b c d
edge_spans a b c d up uq pv qv uv pq r hup huq hpv hqv huv ha hb = record {
  of_a = omega (arith, ints);
  of_b = hb;
  of_c = cancel_nonnegative uv c huv (omega (arith, ints, r.by_u, plus_plus up b hup hb, plus_minus uq a huq (omega (arith, ints))));
  of_d = cancel_nonpositive uv d huv (omega (arith, ints, r.by_v, plus_plus pv b (weaken pv hpv) hb, plus_minus qv a (weaken qv hqv) (omega (arith, ints))));
  some = omega (arith, ints);
}

-- the same with all signs turned
pub edge_spans_back : (a b c d up uq pv qv uv pq : ℤ) → Areas a b c d up uq pv qv uv pq → Weak up → Weak uq → Strict pv → Strict qv → Strict uv → pos 0 ≤ℤ a → b <ℤ pos 0 → CrossesBack a b c d
edge_spans_back a b c d up uq pv qv uv pq r hup huq hpv hqv huv ha hb = record {
  of_a = ha;
  of_b = omega (arith, ints);
  of_c = cancel_nonpositive uv c huv (omega (arith, ints, r.by_u, plus_minus up b hup (omega (arith, ints)), plus_plus uq a huq ha));
  of_d = cancel_nonnegative uv d huv (omega (arith, ints, r.by_v, plus_minus pv b (weaken pv hpv) (omega (arith, ints)), plus_plus qv a (weaken qv hqv) ha));
  some = omega (arith, ints);
}

-- u and v both over the stretch
pub stretch_spans : (a b c d up uq pv qv uv pq : ℤ) → Areas a b c d up uq pv qv uv pq → up <ℤ pos 0 → Weak uq → Strict pv → qv ≤ℤ pos 0 → Strict pq → pos 0 <ℤ c → d ≤ℤ pos 0 → Crosses a b c d
stretch_spans a b c d up uq pv qv uv pq r hup huq hpv hqv hpq hc hd =
    let low : a <ℤ pos 0 = cancel_negative pq a (weaken pq hpq) (omega (arith, ints, r.by_p, strict_plus_plus pv c hpv hc, minus_minus up d (omega (arith, ints)) hd)) in record {
      of_a = omega (arith, ints);
      of_b = cancel_nonnegative pq b hpq (omega (arith, ints, r.by_q, minus_plus qv c hqv (weaken c hc), plus_minus uq d huq hd));
      of_c = weaken c hc;
      of_d = hd;
      some = let high : pos 0 ≤ℤ b = cancel_nonnegative pq b hpq (omega (arith, ints, r.by_q, minus_plus qv c hqv (weaken c hc), plus_minus uq d huq hd)) in omega (arith, ints);
    }

-- the same with all signs turned
pub stretch_spans_back : (a b c d up uq pv qv uv pq : ℤ) → Areas a b c d up uq pv qv uv pq → up <ℤ pos 0 → Weak uq → Strict pv → qv ≤ℤ pos 0 → Strict pq → c ≤ℤ pos 0 → pos 0 <ℤ d → CrossesBack a b c d
stretch_spans_back a b c d up uq pv qv uv pq r hup huq hpv hqv hpq hc hd =
    let high : pos 0 <ℤ a = cancel_positive pq a (weaken pq hpq) (omega (arith, ints, r.by_p, plus_minus pv c (weaken pv hpv) hc, strict_minus_plus up d hup hd)) in
    let low : b ≤ℤ pos 0 = cancel_nonpositive pq b hpq (omega (arith, ints, r.by_q, minus_minus qv c hqv hc, plus_plus uq d huq (weaken d hd))) in record {
      of_a = weaken a high;
      of_b = low;
      of_c = hc;
      of_d = weaken d hd;
      some = omega (arith, ints);
    }

-- p, u, q, v from left to right
pub u_between : (a b c d up uq pv qv uv pq : ℤ) → Areas a b c d up uq pv qv uv pq → up <ℤ pos 0 → Weak uq → Strict pv → Strict qv → Strict pq → pos 0 ≤ℤ b → pos 0 <ℤ c → Crosses a b c d
u_between a b c d up uq pv qv uv pq r hup huq hpv hqv hpq hb hc =
    let low : d <ℤ pos 0 = cancel_negative uq d huq (omega (arith, ints, r.by_q, strict_plus_plus qv c hqv hc, plus_plus pq b (weaken pq hpq) hb)) in
    let left : a <ℤ pos 0 = cancel_negative pq a (weaken pq hpq) (omega (arith, ints, r.by_p, strict_plus_plus pv c hpv hc, strict_minus_minus up d hup low)) in record {
      of_a = omega (arith, ints);
      of_b = hb;
      of_c = weaken c hc;
      of_d = omega (arith, ints);
      some = omega (arith, ints);
    }

-- the same with all signs turned
pub u_between_back : (a b c d up uq pv qv uv pq : ℤ) → Areas a b c d up uq pv qv uv pq → up <ℤ pos 0 → Weak uq → Strict pv → Strict qv → Strict pq → b <ℤ pos 0 → c ≤ℤ pos 0 → CrossesBack a b c d
u_between_back a b c d up uq pv qv uv pq r hup huq hpv hqv hpq hb hc =
    let high : pos 0 <ℤ d = cancel_positive uq d huq (omega (arith, ints, r.by_q, plus_minus qv c (weaken qv hqv) hc, strict_plus_minus pq b hpq hb)) in
    let left : pos 0 <ℤ a = cancel_positive pq a (weaken pq hpq) (omega (arith, ints, r.by_p, plus_minus pv c (weaken pv hpv) hc, strict_minus_plus up d hup high)) in record {
      of_a = weaken a left;
      of_b = omega (arith, ints);
      of_c = hc;
      of_d = weaken d high;
      some = omega (arith, ints);
    }

-- u, p, v, q from left to right
pub v_between : (a b c d up uq pv qv uv pq : ℤ) → Areas a b c d up uq pv qv uv pq → Weak up → Strict pv → qv ≤ℤ pos 0 → Strict uv → Weak pq → a <ℤ pos 0 → d ≤ℤ pos 0 → Crosses a b c d
v_between a b c d up uq pv qv uv pq r hup hpv hqv huv hpq ha hd =
    let high : pos 0 ≤ℤ b = cancel_nonnegative pv b hpv (omega (arith, ints, r.by_v, minus_minus qv a hqv (omega (arith, ints)), plus_minus uv d (weaken uv huv) hd)) in
    let over : pos 0 ≤ℤ c = cancel_nonnegative pv c hpv (omega (arith, ints, r.by_p, plus_minus up d hup hd, plus_minus pq a hpq (omega (arith, ints)))) in record {
      of_a = omega (arith, ints);
      of_b = high;
      of_c = over;
      of_d = hd;
      some = omega (arith, ints);
    }

-- the same with all signs turned
pub v_between_back : (a b c d up uq pv qv uv pq : ℤ) → Areas a b c d up uq pv qv uv pq → Weak up → Strict pv → qv ≤ℤ pos 0 → Strict uv → Weak pq → pos 0 ≤ℤ a → pos 0 <ℤ d → CrossesBack a b c d
v_between_back a b c d up uq pv qv uv pq r hup hpv hqv huv hpq ha hd =
    let low : b <ℤ pos 0 = cancel_negative pv b (weaken pv hpv) (omega (arith, ints, r.by_v, minus_plus qv a hqv ha, strict_plus_plus uv d huv hd)) in
    let under : c ≤ℤ pos 0 = cancel_nonpositive pv c hpv (omega (arith, ints, r.by_p, plus_plus up d hup (weaken d hd), plus_plus pq a hpq ha)) in record {
      of_a = ha;
      of_b = omega (arith, ints);
      of_c = under;
      of_d = weaken d hd;
      some = omega (arith, ints);
    }
