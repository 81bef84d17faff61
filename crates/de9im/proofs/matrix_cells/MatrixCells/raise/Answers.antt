use Rattle.std.proofs.Common.{rules}
use Rattle.de9im.proofs.matrix_cells.MatrixCells.raise.Goals as goal

pub returns-in-Interior-Interior : goal.returns-in-Interior-Interior
returns-in-Interior-Interior c = search rules

pub returns-in-Interior-Boundary : goal.returns-in-Interior-Boundary
returns-in-Interior-Boundary c = search rules

pub returns-in-Interior-Exterior : goal.returns-in-Interior-Exterior
returns-in-Interior-Exterior c = search rules

pub returns-in-Boundary-Interior : goal.returns-in-Boundary-Interior
returns-in-Boundary-Interior c = search rules

pub returns-in-Boundary-Boundary : goal.returns-in-Boundary-Boundary
returns-in-Boundary-Boundary c = search rules

pub returns-in-Boundary-Exterior : goal.returns-in-Boundary-Exterior
returns-in-Boundary-Exterior c = search rules

pub returns-in-Exterior-Interior : goal.returns-in-Exterior-Interior
returns-in-Exterior-Interior c = search rules

pub returns-in-Exterior-Boundary : goal.returns-in-Exterior-Boundary
returns-in-Exterior-Boundary c = search rules

pub returns-in-Exterior-Exterior : goal.returns-in-Exterior-Exterior
returns-in-Exterior-Exterior c = search rules
