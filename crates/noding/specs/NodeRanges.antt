-- The ranges of the coordinates of edges, and how many pairs of edges have overlapping ones.
use Rattle.std.specs.Prelude.{ℕ, ◌+◌, Bool, ◌&&◌, List, [], ◌∷◌, ℤ, int_le, if◌then◌else◌, count_by}
use Rattle.geometry_model.specs.Geometries.{Edge}

-- the lesser of two coordinates
unfoldable pub lesser : ℤ → ℤ → ℤ
lesser a b = if int_le a b then a else b

-- the greater of two coordinates
unfoldable pub greater : ℤ → ℤ → ℤ
greater a b = if int_le a b then b else a

-- the least x of an edge
abbrev pub least_x : Edge → ℤ
least_x e = lesser e.start.x e.end.x

-- its greatest x
abbrev pub greatest_x : Edge → ℤ
greatest_x e = greater e.start.x e.end.x

-- the ranges between a and b and between c and d share a number, be it an end; either may be the lesser one
abbrev pub overlap : ℤ → ℤ → ℤ → ℤ → Bool
overlap a b c d = int_le (lesser a b) (greater c d) && int_le (lesser c d) (greater a b)

-- the ranges of x of two edges share a number
abbrev pub x_ranges_overlap : Edge → Edge → Bool
x_ranges_overlap e f = overlap e.start.x e.end.x f.start.x f.end.x

-- the ranges of y of two edges share a number
abbrev pub y_ranges_overlap : Edge → Edge → Bool
y_ranges_overlap e f = overlap e.start.y e.end.y f.start.y f.end.y

-- the number of the later edges whose ranges of x overlap that of the first of the list
abbrev pub overlaps_with_first : List Edge → List Edge → ℕ
overlaps_with_first [] later = 0
overlaps_with_first (e ∷ es) later = count_by (x_ranges_overlap e) later

-- the number of edges after the first whose ranges of x overlap that of the first
abbrev pub overlaps_of_first : List Edge → ℕ
overlaps_of_first [] = 0
overlaps_of_first (e ∷ es) = count_by (x_ranges_overlap e) es

-- the number of pairs of places i < j of the list at which the ranges of x overlap
abbrev pub overlapping_pairs : List Edge → ℕ
overlapping_pairs [] = 0
overlapping_pairs (e ∷ es) = count_by (x_ranges_overlap e) es + overlapping_pairs es
