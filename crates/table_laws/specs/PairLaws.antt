-- Each pair of rows whose envelopes meet is found in exactly one tile.
use Rattle.std.specs.Prelude.{◌≡◌, Bool, true, ◌&&◌, ◌||◌, List, [], ◌∷◌, All, count_by, Option, pos, negsuc}
use Rattle.std.specs.Ordering.{int_eq}
use Rattle.geometry_model.specs.Envelopes.{Envelope, envelope, meets}
use Rattle.geometry_model.specs.Geometries.{Geometry, positions}
use Rattle.fraction.specs.Ranges.{IsOnGrid}
use Rattle.table_laws.specs.Cells.{Cell, cells_of, CutsGrid, west_mark, south_mark, owner, owns}

-- the positions of a geometry are on the grid (this project's choice)
abbrev pub LiesOnGrid : Geometry → Type 0
LiesOnGrid g = All IsOnGrid (positions g)

-- not both envelopes begin west of the cell, and not both begin south of it: of each mark one of the two is 0 (this project's choice)
abbrev pub is_kept : Cell → Option Envelope → Option Envelope → Bool
is_kept cell e f =
    (int_eq (west_mark cell e) (pos 0) || int_eq (west_mark cell f) (pos 0)) && (int_eq (south_mark cell e) (pos 0) || int_eq (south_mark cell f) (pos 0))

-- a pair of envelopes is found in a cell: both are copied to it, and the marks keep the pair
abbrev pub is_found : Cell → Option Envelope → Option Envelope → Bool
is_found cell e f = meets cell e && (meets cell f && is_kept cell e f)

-- a pair whose envelopes meet is found in the cell that owns it, and in no other
abbrev pub OwnersFind : Type 0
OwnersFind = (cell : Cell) (a b : Geometry) → meets (envelope a) (envelope b) ≡ true → is_found cell (envelope a) (envelope b) ≡ owns cell (owner (envelope a) (envelope b))

-- where boxes cut the grid, a pair whose envelopes meet is found in exactly one cell
abbrev pub PairsAreOnce : Type 0
PairsAreOnce = (boxes : List Envelope) (a b : Geometry) → CutsGrid boxes → LiesOnGrid a → LiesOnGrid b → meets (envelope a) (envelope b) ≡ true
    → count_by (λ cell. is_found cell (envelope a) (envelope b)) (cells_of boxes) ≡ 1

-- the grid in one box (this project's choice)
abbrev pub grid : Envelope
grid = record { least_x = negsuc 9999999; greatest_x = pos 10000000; least_y = negsuc 9999999; greatest_y = pos 10000000 }

-- a cut: the grid in one box
abbrev pub GridIsCut : Type 0
GridIsCut = CutsGrid (grid ∷ [])
