-- The steps of a sweep over edges from left to right.
use Rattle.std.specs.Prelude.{◌≡◌, ◌≢◌, ◌⊎◌, ℕ, ◌+◌, ◌<◌, ◌≤◌, true, List, [], ◌∷◌, ◌++◌, length, get_or, map, filter, All, Contains, ◌≤ℤ◌}
use Rattle.std.specs.List.Sorted.{IsPermutation}
use Rattle.geometry_model.specs.Points.{Position, Point, IsPoint, point_at}
use Rattle.geometry_model.specs.Geometries.{Edge}
use Rattle.geometry_model.specs.Sides.{on}
use Rattle.noding.specs.Meetings.{is_common_cut}
use Rattle.noding.specs.Nodings.{ListsPoint, IsBreak, AllBreaks, AreBreaks, PutsPointsInOrder}
use Rattle.noding.specs.NodeRanges.{least_x}

-- no edge begins to the left of one before it
abbrev pub Ascends : List Edge → Type 0
Ascends es = (i j : ℕ) (d : Edge) → i ≤ j → j < length es → least_x (get_or es i d) ≤ℤ least_x (get_or es j d)

-- the edges of the first list by their least x
pub record IsSweepOrder (given ordered : List Edge) : Type 0 where
  pub permutation : IsPermutation given ordered
  pub ascend : Ascends ordered

-- no position is to the left of one before it
abbrev pub AscendPositions : List Position → Type 0
AscendPositions ps = (i j : ℕ) (d : Position) → i ≤ j → j < length ps → (get_or ps i d).x ≤ℤ (get_or ps j d).x

-- the positions of the first list by x
pub record IsListedOrder (given ordered : List Position) : Type 0 where
  pub permutation : IsPermutation given ordered
  pub ascend : AscendPositions ordered

-- the ends of an edge and the listed positions on it
abbrev pub own_breaks : List Position → Edge → List Point
own_breaks ps e = point_at e.start ∷ point_at e.end ∷ filter (on e) (map point_at ps)

-- an edge has two different ends
abbrev pub IsWide : Edge → Type 0
IsWide e = e.start ≢ e.end

-- one of the lists has grown by these points, at its end
pub record GrowsAt (place : ℕ) (points : List Point) (before after : List (List Point)) : Type 0 where
  pub same_length : length after ≡ length before
  pub there : get_or after place [] ≡ get_or before place [] ++ points
  pub elsewhere : (k : ℕ) → k ≢ place → get_or after k [] ≡ get_or before k []

-- the edges up to place i were tried with all that follow, and edge i with those before place j
abbrev pub IsTried : ℕ → ℕ → ℕ → ℕ → Type 0
IsTried i j a b = (a < i) ⊎ ((a ≡ i) × (b < j))

-- for each edge break points on it, with its own and what it has in common with each edge that it was tried with
pub record SweptTo (es : List Edge) (ps : List Position) (i j : ℕ) (breaks : List (List Point)) : Type 0 where
  pub same_length : length breaks ≡ length es
  pub wide : (k : ℕ) (d : Edge) → k < length es → IsWide (get_or es k d)
  pub own : (k : ℕ) (d : Edge) → k < length es → (p : Point) → Contains (own_breaks ps (get_or es k d)) p → Contains (get_or breaks k []) p
  pub from : (k : ℕ) (d : Edge) → k < length es → (p : Point) → Contains (get_or breaks k []) p → IsBreak es ps (get_or es k d) p
  pub first_found : (a b : ℕ) (d : Edge) → IsTried i j a b → a < b → b < length es → (p : Point) → IsPoint p → is_common_cut (get_or es a d) (get_or es b d) p ≡ true → ListsPoint (get_or breaks a []) p
  pub second_found : (a b : ℕ) (d : Edge) → IsTried i j a b → a < b → b < length es → (p : Point) → IsPoint p → is_common_cut (get_or es a d) (get_or es b d) p ≡ true → ListsPoint (get_or breaks b []) p

-- lists that were swept up to this pair of places are now swept past it
abbrev pub SweepsPair : List Edge → ℕ → ℕ → List (List Point) → List (List Point) → Type 0
SweepsPair es first second before after = (ps : List Position) → SweptTo es ps first second before → SweptTo es ps first (second + 1) after

-- lists that were swept up to this place are now swept past it
abbrev pub SweepsOn : List Edge → ℕ → List (List Point) → List (List Point) → Type 0
SweepsOn es place before after = (ps : List Position) → SweptTo es ps place (place + 1) before → SweptTo es ps (place + 1) (place + 1 + 1) after

-- lists that were swept up to the first place are now swept up to the last
abbrev pub SweepsAll : List Edge → List (List Point) → List (List Point) → Type 0
SweepsAll es before after = (ps : List Position) → SweptTo es ps 0 1 before → SweptTo es ps (length es) (length es + 1) after

-- for each edge all its break points, in no order
pub record AllSwept (es : List Edge) (ps : List Position) (breaks : List (List Point)) : Type 0 where
  pub same_length : length breaks ≡ length es
  pub all : (k : ℕ) (d : Edge) → k < length es → AllBreaks es ps (get_or es k d) (get_or breaks k [])

-- the lists hold points
abbrev pub HavePoints : List (List Point) → Type 0
HavePoints breaks = (k : ℕ) → k < length breaks → All IsPoint (get_or breaks k [])

-- one of the lists is put in order
pub record OrdersAt (place : ℕ) (before after : List (List Point)) : Type 0 where
  pub same_length : length after ≡ length before
  pub there : PutsPointsInOrder (get_or before place []) (get_or after place [])
  pub elsewhere : (k : ℕ) → k ≢ place → get_or after k [] ≡ get_or before k []

-- each of the lists is put in order
pub record OrdersEach (before after : List (List Point)) : Type 0 where
  pub same_length : length after ≡ length before
  pub ordered : (k : ℕ) → k < length before → PutsPointsInOrder (get_or before k []) (get_or after k [])

-- the first of the lists are put in order
pub record OrdersFirst (count : ℕ) (before after : List (List Point)) : Type 0 where
  pub same_length : length after ≡ length before
  pub ordered : (k : ℕ) → k < count → PutsPointsInOrder (get_or before k []) (get_or after k [])
  pub rest : (k : ℕ) → count ≤ k → get_or after k [] ≡ get_or before k []

-- for each edge its break points, ascending, each once
pub record AllCut (es : List Edge) (ps : List Position) (breaks : List (List Point)) : Type 0 where
  pub same_length : length breaks ≡ length es
  pub all : (k : ℕ) (d : Edge) → k < length es → AreBreaks es ps (get_or es k d) (get_or breaks k [])
