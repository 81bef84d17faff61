-- Laws of two closed rings that share no point.
use Rattle.std.specs.Prelude.{◌≡◌, true, false, List, [], ◌∷◌}
use Rattle.geometry_model.specs.Points.{Position, Point, IsPoint}
use Rattle.geometry_model.specs.Crossings.{odd_above}
use Rattle.geometry_model.specs.Validity.{RingsShare, inside}
use Rattle.geometry_laws.specs.RingLaws.{IsClosed}

-- two closed rings that share no point (06-103r4, 6.1.11.1)
pub record AreSeparate (r s : List Position) : Type 0 where
  pub first_closed : IsClosed r
  pub second_closed : IsClosed s
  pub apart : RingsShare r s → ⊥

-- where the second is inside the first, what has an odd number of the second's edges above it has an odd number of the first's (06-103r4, 6.1.11.1)
abbrev pub InnerIsWithinOuter : Type 0
InnerIsWithinOuter = (outer inner : List Position) → AreSeparate outer inner → inside outer inner ≡ true → (p : Point) → IsPoint p → odd_above (inner ∷ []) p ≡ true → odd_above (outer ∷ []) p ≡ true

-- where neither is inside the other, no point has an odd number of both rings' edges above it (06-103r4, 6.1.11.1)
abbrev pub NothingIsOddOverBoth : Type 0
NothingIsOddOverBoth = (r s : List Position) → AreSeparate r s → inside r s ≡ false → inside s r ≡ false → (p : Point) → IsPoint p → odd_above (r ∷ []) p ≡ true → odd_above (s ∷ []) p ≡ true → ⊥

-- not each of them is inside the other (06-103r4, 6.1.11.1)
abbrev pub NotEachIsInside : Type 0
NotEachIsInside = (r s : List Position) → AreSeparate r s → inside r s ≡ true → inside s r ≡ true → ⊥
