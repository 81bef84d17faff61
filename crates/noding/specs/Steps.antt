-- Steps by which the gaps of an edge are found.
use Rattle.std.specs.Prelude.{◌≡◌, ℕ, ◌<◌, true, not, List, [], ◌∷◌, ◌++◌, get_or, filter, Any, Contains, pos, ◌≤ℤ◌}
use Rattle.std.specs.Ordering.{ord_min, ord_max}
use Rattle.geometry_model.specs.Points.{Point, IsPoint, point_at}
use Rattle.geometry_model.specs.Geometries.{Edge}
use Rattle.geometry_model.specs.Sides.{on}
use Rattle.geometry_model.specs.CutPoints.{IsCut, is_end}
use Rattle.fraction.specs.Ranges.{meeting_limit}
use Rattle.fraction.specs.Orders.{position_order}
use Rattle.noding.specs.Meetings.{is_common_cut}
use Rattle.noding.specs.Nodings.{ListsPoint}

-- the edge shares the point with another; it is a cut of the two, and its denominator is within the limit
pub record IsSharedPoint (e : Edge) (others : List Edge) (p : Point) : Type 0 where
  pub on_edge : on e p ≡ true
  pub on_other : Any (λ f. on f p ≡ true) others
  pub is_cut : IsCut (e ∷ others) [] p
  pub limit : p.W ≤ℤ pos meeting_limit

-- each cut that is on both edges is one of the points
abbrev pub ListsCommonCuts : Edge → Edge → List Point → Type 0
ListsCommonCuts e f points = (p : Point) → IsPoint p → is_common_cut e f p ≡ true → ListsPoint points p

-- shared points, among them the common cuts with each edge that was asked so far
pub record AreSharedSoFar (e : Edge) (others : List Edge) (IsAsked : ℕ → Edge → Type 0) (count : ℕ) (points : List Point) : Type 0 where
  pub from : (p : Point) → Contains points p → IsSharedPoint e others p
  pub found : (k : ℕ) (f : Edge) → k < count → IsAsked k f → ListsCommonCuts e f points

-- the edge is the one at a place
abbrev pub IsAt : List Edge → ℕ → Edge → Type 0
IsAt others k f = get_or others k f ≡ f

-- the edge is the one at one of the places of a list
abbrev pub IsAtPlace : List Edge → List ℕ → ℕ → Edge → Type 0
IsAtPlace others places k f = IsAt others (get_or places k 0) f

-- shared points, among them the common cuts with each of the others
pub record AreShared (e : Edge) (others : List Edge) (points : List Point) : Type 0 where
  pub from : (p : Point) → Contains points p → IsSharedPoint e others p
  pub found : (f : Edge) → Contains others f → ListsCommonCuts e f points

-- the lesser end of the edge, those of the points that don't end it, and its greater end
abbrev pub stops_of : Edge → List Point → List Point
stops_of e points = point_at (ord_min position_order e.start e.end) ∷ filter (λ p. not (is_end e p)) points ++ point_at (ord_max position_order e.start e.end) ∷ []
