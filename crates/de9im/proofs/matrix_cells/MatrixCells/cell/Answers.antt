use Rattle.std.proofs.Common.{rules}
use Rattle.de9im.proofs.matrix_cells.MatrixCells.cell.Goals as goal

pub returns-in-Interior-Exterior : goal.returns-in-Interior-Exterior
returns-in-Interior-Exterior c = search rules
