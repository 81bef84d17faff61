-- A law of the texts of fractions.
use Rattle.std.specs.Prelude.{◌≡◌, ℕ, ℤ, pos, ◌*ℤ◌, ◌<ℤ◌, unsigned_abs}
use Prim.Native.Nat.{◌∣◌}
use Rattle.fraction.specs.Fractions.{Fraction, IsFraction}
use Rattle.witnesses.specs.PointTexts.{fraction_text, quotient_text}

-- n/d is the fraction in least form: d is at least 1, n/d has the fraction's value, and only 1 divides both
pub record IsLeastForm (f : Fraction) (n d : ℤ) : Type 0 where
  pub positive : pos 0 <ℤ d
  pub same : n *ℤ f.denominator ≡ f.numerator *ℤ d
  pub least : (k : ℕ) → k ∣ unsigned_abs n → k ∣ unsigned_abs d → k ≡ 1

-- a fraction has a least form, and what is written of it is that one
abbrev pub WritesLeastForm : Type 0
WritesLeastForm = (f : Fraction) → IsFraction f →
    ((n : ℤ) × (d : ℤ) × IsLeastForm f n d) × ((n d : ℤ) → IsLeastForm f n d → fraction_text f ≡ quotient_text n d)
