use Rattle.std.proofs.Common.{rules}
use Rattle.de9im.proofs.matrix_cells.MatrixCells.shows.Goals as goal

pub returns : goal.returns
returns c = search rules
