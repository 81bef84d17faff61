-- The laws of what a matrix shows, each by its name.
use Rattle.matrix_laws.specs.CellLaws.{PointIsThere, PieceIsThere, SidesAreThere, CoveringIsWhole, GrowingKeeps, RaisedGrows, PartsAreOrdered, CoversTurned}
use Rattle.matrix_laws.proofs.Growing as growing
use Rattle.matrix_laws.proofs.There as there
use Rattle.matrix_laws.proofs.Whole as whole

-- at each point the label matrix shows at least a point
pub point_is_there : PointIsThere
point_is_there = there.point_is_there

-- at each point of an edge that is no cut it shows at least a stretch
pub piece_is_there : PieceIsThere
piece_is_there = there.piece_is_there

-- and beside an edge that isn't vertical it shows an area on both sides
pub sides_are_there : SidesAreThere
sides_are_there = there.sides_are_there

-- a sound matrix that covers all edges and listed positions is the label matrix
pub covering_is_whole : CoveringIsWhole
covering_is_whole = whole.covering_is_whole

-- what is covered stays covered
pub growing_keeps : GrowingKeeps
growing_keeps = growing.growing_keeps

-- raising a cell is the least growth that shows the dimension
pub raised_grows : RaisedGrows
raised_grows = growing.raised_grows_enough

-- being part of is an order of matrices
pub parts_are_ordered : PartsAreOrdered
parts_are_ordered = growing.parts_are_ordered

-- the transposed matrix covers the same of the geometries the other way round
pub covers_turned : CoversTurned
covers_turned = whole.covers_turned
