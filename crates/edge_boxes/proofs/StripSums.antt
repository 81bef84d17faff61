-- Strips that are widened position by position.
use Rattle.std.proofs.Common.{ℕ, ◌+◌, ◌*◌, ◌<◌, ◌≤◌, ℤ, pos, negsuc, ◌-ℤ◌, ◌*ℤ◌, ◌≤ℤ◌, ◌<ℤ◌, ◌≡◌, ◌⊎◌, inl, inr, ap, ◌∙◌, subst, List, [], ◌∷◌, ◌++◌, length, take, get_or, arith}
use Rattle.std.proofs.lemmas.Int.{ints, clamps}
use Rattle.std.proofs.lemmas.List.{take_more}
use Rattle.std.specs.Prelude.{unsigned_abs}
use Rattle.std.specs.Int.{int_min, int_max}
use Rattle.std.specs.List.{AllByRecursion}
use mir.Syntax.{w32, w64}
use mir.Val.{SFits}
use Rattle.geometry_model.specs.Points.{Position}
use Rattle.geometry_model.specs.Geometries.{Edge}
use Rattle.basics.proofs.Signs.{at_most_or_less, minus_minus}
use Rattle.basics.proofs.Numbers.{product_within}
use Rattle.basics.proofs.Orders.{weak_negative}
use Rattle.edge_boxes.specs.Strips.{rise, IsInStrip, LiesInStrip, IsWider}
use Rattle.edge_boxes.specs.declared.strips.Direction.{Direction}
use Rattle.edge_boxes.specs.declared.strips.Strip.{Strip}

-- ---- the numbers of a rise fit 64 bits
-- a product of two numbers of 32 bits
record IsShortProduct (z : ℤ) : Type 0 where
  low : negsuc 4611686016279904255 ≤ℤ z
  high : z ≤ℤ pos 4611686018427387904

-- a product of two numbers of 32 bits is so small that the difference of two such products fits 64 bits
short_product : (a b : ℤ) → SFits w32 a → SFits w32 b → IsShortProduct (a *ℤ b)
short_product a b h k = go (at_most_or_less (pos 0) a) (at_most_or_less (pos 0) b)
  where
    whole : (z : ℤ) → SFits w32 z → unsigned_abs z ≤ 2147483648
    whole z f = omega (arith, ints, f)

    less : (z : ℤ) → SFits w32 z → pos 0 ≤ℤ z → unsigned_abs z ≤ 2147483647
    less z f l = omega (arith, ints, f, l)

    small : (z : ℤ) → unsigned_abs z ≤ 2147483648 * 2147483647 → IsShortProduct z
    small z f = record { low = omega (arith, ints, f); high = omega (arith, ints, f) }

    large : (z : ℤ) → pos 0 ≤ℤ z → unsigned_abs z ≤ 2147483648 * 2147483648 → IsShortProduct z
    large z l f = record { low = omega (arith, ints, f, l); high = omega (arith, ints, f, l) }

    go : (pos 0 ≤ℤ a) ⊎ (a <ℤ pos 0) → (pos 0 ≤ℤ b) ⊎ (b <ℤ pos 0) → IsShortProduct (a *ℤ b)
    go (inl l) m = small (a *ℤ b) (product_within a b 2147483647 2147483648 (less a h l) (whole b k))
    go (inr l) (inl m) = small (a *ℤ b) (product_within a b 2147483648 2147483647 (whole a h) (less b k m))
    go (inr l) (inr m) = large (a *ℤ b) (minus_minus a b (weak_negative a l) (weak_negative b m)) (product_within a b 2147483648 2147483648 (whole a h) (whole b k))

pub record RiseFits (dx dy x y : ℤ) : Type 0 where
  pub first : SFits w64 (dx *ℤ y)
  pub second : SFits w64 (dy *ℤ x)
  pub difference : SFits w64 (dx *ℤ y -ℤ dy *ℤ x)

-- the rise of numbers of 32 bits is computed in 64: both products fit, and so does their difference
pub rise_fits : (dx dy x y : ℤ) → SFits w32 dx → SFits w32 dy → SFits w32 x → SFits w32 y → RiseFits dx dy x y
rise_fits dx dy x y hdx hdy hx hy =
    let s = short_product dx y hdx hy in
    let t = short_product dy x hdy hx in
    record { first = fits (dx *ℤ y) s.low s.high; second = fits (dy *ℤ x) t.low t.high; difference = differ (dx *ℤ y) (dy *ℤ x) s.low s.high t.low t.high }
  where
    fits : (z : ℤ) → negsuc 4611686016279904255 ≤ℤ z → z ≤ℤ pos 4611686018427387904 → SFits w64 z
    fits z l h = omega (arith, ints, l, h)

    differ : (y z : ℤ) → negsuc 4611686016279904255 ≤ℤ y → y ≤ℤ pos 4611686018427387904 → negsuc 4611686016279904255 ≤ℤ z → z ≤ℤ pos 4611686018427387904 → SFits w64 (y -ℤ z)
    differ y z l h m k = omega (arith, ints, l, h, m, k)

-- ---- one position more
-- a strip that takes in one more rise keeps its direction and all that lies in it
pub is_wider : (s t : Strip) (z : ℤ) → t.direction ≡ s.direction → t.least ≡ int_min s.least z → t.greatest ≡ int_max s.greatest z → IsWider s t
is_wider s t z e f g = record { same = ap (λ (d : Direction). d.dx) e; holds = λ a h. holds (rise s.direction a.x a.y) (rise t.direction a.x a.y) a (ap (λ d. rise d a.x a.y) e) h }
  where
    below : (l m z r u : ℤ) → m ≡ int_min l z → u ≡ r → l ≤ℤ r → m ≤ℤ u
    below l m z r u e f h = omega (arith, ints, clamps, e, f, h)

    above : (g h z r u : ℤ) → h ≡ int_max g z → u ≡ r → r ≤ℤ g → u ≤ℤ h
    above g h z r u e f k = omega (arith, ints, clamps, e, f, k)

    holds : (r u : ℤ) (a : Position) → rise t.direction a.x a.y ≡ rise s.direction a.x a.y → IsInStrip s a → IsInStrip t a
    holds r u a d h = record {
      least = below s.least t.least z (rise s.direction a.x a.y) (rise t.direction a.x a.y) f d h.least;
      greatest = above s.greatest t.greatest z (rise s.direction a.x a.y) (rise t.direction a.x a.y) g d h.greatest;
    }

-- ---- one edge more
-- edges that lie in a strip lie in each wider one
all_wider : (s t : Strip) (es : List Edge) → IsWider s t → AllByRecursion (LiesInStrip s) es → AllByRecursion (LiesInStrip t) es
all_wider s t [] w h = tt
all_wider s t (e ∷ es) w h = (record { start = w.holds e.start h.0.start; end = w.holds e.end h.0.end }, all_wider s t es w h.1)

-- edges in a strip, and one more that lies in it
all_more : (s : Strip) (es : List Edge) (e : Edge) → AllByRecursion (LiesInStrip s) es → LiesInStrip s e → AllByRecursion (LiesInStrip s) (es ++ e ∷ [])
all_more s [] e h k = (k, tt)
all_more s (d ∷ es) e h k = (h.0, all_more s es e h.1 k)

-- once its two ends are taken in, one after the other, the next edge lies in the strip with those before it
pub one_edge_more : (s m t : Strip) (es : List Edge) (i : ℕ) (e : Edge) (a b : Position) → IsWider s m → IsInStrip m a → IsWider m t → IsInStrip t b → a ≡ e.start → b ≡ e.end
    → i < length es → e ≡ get_or es i e → AllByRecursion (LiesInStrip s) (take i es) → AllByRecursion (LiesInStrip t) (take (i + 1) es)
one_edge_more s m t es i e a b w ha v hb ea eb within is h =
    let more : AllByRecursion (LiesInStrip t) (take i es ++ e ∷ []) = all_more t (take i es) e (all_wider m t (take i es) v (all_wider s m (take i es) w h))
    (record { start = subst (IsInStrip t) ea (v.holds a ha); end = subst (IsInStrip t) eb hb }) in
    rw (take_more es i e within, ← is) more
