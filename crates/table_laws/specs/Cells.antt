-- Cells: the boxes that cut the grid, to which of them an envelope is copied, what marks it there, and which of them owns a pair of
-- envelopes. So each pair of rows is found in exactly one tile.
use Rattle.std.specs.Prelude.{◌≡◌, Bool, true, false, ◌&&◌, if◌then◌else◌, List, ◌∷◌, map, count_by, Option, Some, None, ℤ, pos, int_le, int_lt}
use Rattle.std.specs.Int.{int_max}
use Rattle.geometry_model.specs.Points.{Position}
use Rattle.geometry_model.specs.Envelopes.{Envelope, envelope, meets}
use Rattle.geometry_model.specs.Geometries.{Geometry}
use Rattle.fraction.specs.Ranges.{IsOnGrid}

-- ---- the cut

-- a box holds a position: each coordinate is between the two ends of the box, or is one of them (06-103r4, 6.1.2.2: Envelope)
abbrev pub is_within : Envelope → Position → Bool
is_within box p = int_le box.least_x p.x && int_le p.x box.greatest_x && int_le box.least_y p.y && int_le p.y box.greatest_y

-- boxes cut the grid: each of its positions is in exactly one of them (this project's choice)
abbrev pub CutsGrid : List Envelope → Type 0
CutsGrid boxes = (p : Position) → IsOnGrid p → count_by (λ box. is_within box p) boxes ≡ 1

-- ---- cells

-- a cell: a box, or the cell of the empty geometries, which have no position (this project's choice)
abbrev pub Cell : Type 0
Cell = Option Envelope

-- the cells of boxes, in the order of their numbers: 0 is that of the empty geometries, then the boxes follow (this project's choice)
abbrev pub cells_of : List Envelope → List Cell
cells_of boxes = None ∷ map Some boxes

-- a geometry is copied to a cell: its envelope meets the cell; null is copied to none (this project's choice)
abbrev pub is_copied : Cell → Option Geometry → Bool
is_copied cell None = false
is_copied cell (Some g) = meets cell (envelope g)

-- ---- marks

-- 1 where a test is true, else 0
abbrev pub mark : Bool → ℤ
mark test = if test then pos 1 else pos 0

-- the mark w: 1 where an envelope begins west of the cell, else 0; in the cell of the empty geometries 0 (this project's choice)
abbrev pub west_mark : Cell → Option Envelope → ℤ
west_mark (Some box) (Some e) = mark (int_lt e.least_x box.least_x)
west_mark (Some box) None = pos 0
west_mark None e = pos 0

-- the mark s: 1 where an envelope begins south of the cell, else 0; in the cell of the empty geometries 0 (this project's choice)
abbrev pub south_mark : Cell → Option Envelope → ℤ
south_mark (Some box) (Some e) = mark (int_lt e.least_y box.least_y)
south_mark (Some box) None = pos 0
south_mark None e = pos 0

-- ---- owners

-- where a pair of envelopes belongs: at the greatest of their least x and the greatest of their least y, which is the least corner of
-- what they share; nowhere if one is absent (this project's choice)
abbrev pub owner : Option Envelope → Option Envelope → Option Position
owner (Some e) (Some f) = Some (record { x = int_max e.least_x f.least_x; y = int_max e.least_y f.least_y })
owner (Some e) None = None
owner None f = None

-- a cell owns what belongs at this position; that of the empty geometries owns what belongs nowhere (this project's choice)
abbrev pub owns : Cell → Option Position → Bool
owns (Some box) (Some p) = is_within box p
owns (Some box) None = false
owns None (Some p) = false
owns None None = true
