-- What two edges have in common.
use Rattle.std.specs.Prelude.{◌≡◌, Bool, false, true, not, ◌&&◌, ◌||◌, List, [], ◌∷◌, Any, pos}
use Rattle.std.specs.declared.cmp.Ordering.TheVariants.{Less}
use Rattle.std.specs.Ordering.{int_eq, is_le}
use Rattle.geometry_model.specs.Points.{Point, IsPoint, same_point, compare}
use Rattle.geometry_model.specs.Geometries.{Edge}
use Rattle.geometry_model.specs.Sides.{on, on_one_line}
use Rattle.geometry_model.specs.Dimensions.{area}
use Rattle.geometry_model.specs.CutPoints.{is_end}
use Rattle.geometry_model.specs.Pieces.{Piece}
use Rattle.noding.specs.declared.answers.Meet.{Meet}
use Rattle.noding.specs.declared.answers.Meet.TheVariants.{Apart, At, Along}

-- both edges hold the point (06-103r4, 6.1.15.2: intersection)
abbrev pub on_both : Edge → Edge → Point → Bool
on_both e f p = on e p && on f p

-- the stretch holds the point: it is on the line of the ends, and neither before the lesser nor after the greater
abbrev pub on_stretch : Piece → Point → Bool
on_stretch c p = int_eq (area c.lesser c.greater p) (pos 0) && is_le (compare c.lesser p) && is_le (compare p c.greater)

-- a straight stretch, its lesser end first, holds exactly the points that both edges hold
pub record IsCommonStretch (e f : Edge) (c : Piece) : Type 0 where
  pub in_order : compare c.lesser c.greater ≡ Less
  pub exact : (p : Point) → IsPoint p → on_both e f p ≡ on_stretch c p

-- what the two edges have in common: no point, this point alone, or exactly the stretch between these (06-103r4, 6.1.15.2: intersection)
abbrev pub IsMeeting : Edge → Edge → Meet → Type 0
IsMeeting e f Apart = (p : Point) → IsPoint p → on_both e f p ≡ false
IsMeeting e f (At p) = (q : Point) → IsPoint q → on_both e f q ≡ same_point p q
IsMeeting e f (Along p q) = IsCommonStretch e f (record { lesser = p; greater = q })

-- the points that a value of `Meet` names
abbrev pub named : Meet → List Point
named Apart = []
named (At p) = p ∷ []
named (Along p q) = p ∷ q ∷ []

-- both hold the point, and one of them ends there or they aren't on one line: so it is a cut of the two
abbrev pub is_common_cut : Edge → Edge → Point → Bool
is_common_cut e f p = on_both e f p && (is_end e p || is_end f p || not (on_one_line e f))

-- each such cut is among the points that the value names
abbrev pub NamesCommonCuts : Edge → Edge → Meet → Type 0
NamesCommonCuts e f m = (p : Point) → IsPoint p → is_common_cut e f p ≡ true → Any (λ q. same_point q p ≡ true) (named m)
