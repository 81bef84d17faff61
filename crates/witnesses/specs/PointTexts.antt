-- How fractions and points are written: each coordinate as `n` or `n/d` in least form.
use Rattle.std.specs.Prelude.{ℕ, ℤ, pos, List, ◌++◌, codes, decimal, unsigned_abs, int_div, if◌then◌else◌}
use Rattle.std.specs.Fmt.{signed_decimal}
use Rattle.std.specs.Ordering.{int_eq}
use Rattle.geometry_model.specs.CanonicalText.{position_text}
use Rattle.geometry_model.specs.Points.{Point, gcd}
use Rattle.fraction.specs.Fractions.{Fraction, x_of, y_of}
use Rattle.witnesses.specs.declared.pieces.Piece.{Piece}
use Rattle.witnesses.specs.declared.pieces.Piece.TheVariants as pieces

-- two whole numbers with a stroke between, the first alone if the second is 1
abbrev pub quotient_text : ℤ → ℤ → List ℕ
quotient_text n d = if int_eq d (pos 1) then signed_decimal n else (signed_decimal n ++ codes "/" ++ signed_decimal d)

-- the quotient of two numbers, both divided by a third
abbrev pub divided_text : Fraction → ℕ → List ℕ
divided_text f g = quotient_text (int_div f.numerator (pos g)) (int_div f.denominator (pos g))

-- a fraction in least form: both numbers divided by their greatest common divisor
abbrev pub fraction_text : Fraction → List ℕ
fraction_text f = divided_text f (gcd (unsigned_abs f.numerator) (unsigned_abs f.denominator))

-- a point: its two coordinates with a space between, each in least form
abbrev pub fractions_text : Point → List ℕ
fractions_text p = fraction_text (x_of p) ++ codes " " ++ fraction_text (y_of p)

-- a piece of a line: words as they are, a number, a position or point by its coordinates
abbrev pub piece_text : Piece → List ℕ
piece_text (pieces.Words words) = words.now
piece_text (pieces.Number n) = decimal n
piece_text (pieces.Position at) = position_text at
piece_text (pieces.Point p) = fractions_text p
piece_text (pieces.Face p) = fractions_text p
