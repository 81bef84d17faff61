-- What is kept of a run holds of two runs, one after the other.
use Rattle.std.proofs.Common.{ℤ, ◌*ℤ◌, int_le, ◌≡◌, Bool, true, false, refl, sym, ap, ap₂, ◌∙◌, List, [], ◌∷◌, ◌++◌, count_by, arith}
use Rattle.std.proofs.lemmas.Int.{ints, clamps}
use Rattle.std.specs.List.{AllByRecursion}
use Rattle.geometry_model.specs.Points.{Position}
use Rattle.geometry_model.specs.Geometries.{Edge}
use Rattle.geometry_model.specs.Envelopes.{Envelope, joined}
use Rattle.geometry_model.specs.Crossings.{exactly_one as xor, spans, odd}
use Rattle.geometry_laws.proofs.Xor.{xor_self, xor_false}
use Rattle.geometry_laws.proofs.Each.{odd_count, parity_append}
use Rattle.edge_boxes.specs.RunLaws.{box_of}
use Rattle.edge_boxes.specs.EdgeRuns.{IsWithin, LiesIn, Telescopes}

-- ---- bounds
-- a position within bounds is within these joined with others
within_first : (b c : Envelope) (a : Position) → IsWithin b a → IsWithin (joined b c) a
within_first b c a h = record { left = omega (arith, ints, clamps, h.left); right = omega (arith, ints, clamps, h.right); low = omega (arith, ints, clamps, h.low); high = omega (arith, ints, clamps, h.high) }

-- and one within the others is too
within_second : (b c : Envelope) (a : Position) → IsWithin c a → IsWithin (joined b c) a
within_second b c a h = record { left = omega (arith, ints, clamps, h.left); right = omega (arith, ints, clamps, h.right); low = omega (arith, ints, clamps, h.low); high = omega (arith, ints, clamps, h.high) }

-- an edge lies within its own rectangle
pub own_bounds : (e : Edge) → LiesIn (box_of e) e
own_bounds e = record {
  start = record { left = omega (arith, ints, clamps); right = omega (arith, ints, clamps); low = omega (arith, ints, clamps); high = omega (arith, ints, clamps) };
  end = record { left = omega (arith, ints, clamps); right = omega (arith, ints, clamps); low = omega (arith, ints, clamps); high = omega (arith, ints, clamps) };
}

-- edges within bounds lie within wider ones
lie_wider : (b c : Envelope) (es : List Edge) → ((a : Position) → IsWithin b a → IsWithin c a) → AllByRecursion (LiesIn b) es → AllByRecursion (LiesIn c) es
lie_wider b c [] f h = tt
lie_wider b c (e ∷ es) f h = (record { start = f e.start h.0.start; end = f e.end h.0.end }, lie_wider b c es f h.1)

-- two lists of edges within the same bounds, one behind the other
lie_both : (b : Envelope) (xs ys : List Edge) → AllByRecursion (LiesIn b) xs → AllByRecursion (LiesIn b) ys → AllByRecursion (LiesIn b) (xs ++ ys)
lie_both b [] ys h k = k
lie_both b (x ∷ xs) ys h k = (h.0, lie_both b xs ys h.1 k)

-- the edges of two runs lie within the joined bounds of both
pub lie_joined : (b c : Envelope) (xs ys : List Edge) → AllByRecursion (LiesIn b) xs → AllByRecursion (LiesIn c) ys → AllByRecursion (LiesIn (joined b c)) (xs ++ ys)
lie_joined b c xs ys h k = lie_both (joined b c) xs ys (lie_wider b (joined b c) xs (within_first b c) h) (lie_wider c (joined b c) ys (within_second b c) k)

-- ---- telescoping
-- the number that pass in two lists together is odd exactly where one of the two numbers is
pub odd_joined : {X : Type 0} (f : X → Bool) (xs ys : List X) → odd (count_by f (xs ++ ys)) ≡ xor (odd (count_by f xs)) (odd (count_by f ys))
odd_joined f xs ys = odd_count f (xs ++ ys) ∙ parity_append f xs ys ∙ sym (ap₂ xor (odd_count f xs) (odd_count f ys))

-- the test at the end that two runs have in common cancels
between_cancels : (a b c : Bool) → xor (xor a b) (xor b c) ≡ xor a c
between_cancels true true true = refl
between_cancels true true false = refl
between_cancels true false true = refl
between_cancels true false false = refl
between_cancels false true true = refl
between_cancels false true false = refl
between_cancels false false true = refl
between_cancels false false false = refl

-- the second goes on from the first
pub goes_on : (xs ys : List Edge) (a b c d : ℤ) → b ≡ c → Telescopes xs a b → Telescopes ys c d → Telescopes (xs ++ ys) a d
goes_on xs ys a b c d e h k p = odd_joined (λ f. spans f p) xs ys ∙ ap₂ xor (h p) (k p)
    ∙ ap (λ (z : ℤ). xor (xor (int_le (a *ℤ p.W) p.X) (int_le (b *ℤ p.W) p.X)) (xor (int_le (z *ℤ p.W) p.X) (int_le (d *ℤ p.W) p.X))) (sym e)
    ∙ between_cancels (int_le (a *ℤ p.W) p.X) (int_le (b *ℤ p.W) p.X) (int_le (d *ℤ p.W) p.X)

-- the first is closed
pub first_closed : (xs ys : List Edge) (a b c d : ℤ) → a ≡ b → Telescopes xs a b → Telescopes ys c d → Telescopes (xs ++ ys) c d
first_closed xs ys a b c d e h k p = odd_joined (λ f. spans f p) xs ys ∙ ap₂ xor (h p) (k p)
    ∙ ap (λ (z : ℤ). xor (xor (int_le (z *ℤ p.W) p.X) (int_le (b *ℤ p.W) p.X)) (xor (int_le (c *ℤ p.W) p.X) (int_le (d *ℤ p.W) p.X))) e
    ∙ ap (λ (z : Bool). xor z (xor (int_le (c *ℤ p.W) p.X) (int_le (d *ℤ p.W) p.X))) (xor_self (int_le (b *ℤ p.W) p.X))

-- the second is closed
pub second_closed : (xs ys : List Edge) (a b c d : ℤ) → c ≡ d → Telescopes xs a b → Telescopes ys c d → Telescopes (xs ++ ys) a b
second_closed xs ys a b c d e h k p = odd_joined (λ f. spans f p) xs ys ∙ ap₂ xor (h p) (k p)
    ∙ ap (λ (z : ℤ). xor (xor (int_le (a *ℤ p.W) p.X) (int_le (b *ℤ p.W) p.X)) (xor (int_le (z *ℤ p.W) p.X) (int_le (d *ℤ p.W) p.X))) e
    ∙ ap (λ (z : Bool). xor (xor (int_le (a *ℤ p.W) p.X) (int_le (b *ℤ p.W) p.X)) z) (xor_self (int_le (d *ℤ p.W) p.X))
    ∙ xor_false (xor (int_le (a *ℤ p.W) p.X) (int_le (b *ℤ p.W) p.X))
