use Rattle.matrix_laws.proofs.FullCovering.{full_off_at}
use Rattle.de9im.proofs.GapCells.{held_shows_off}
use Rattle.de9im.proofs.gap_cells.is_done_off.Goals as goal

pub returns-then-is_held : goal.returns-then-is_held
returns-then-is_held c = λ _. held_shows_off c.args.first.now c.args.second.now c.args.matrix.now c.args.edge.now (c.requires c.if-is_held.true)

pub returns-else-is_held : goal.returns-else-is_held
returns-else-is_held c = λ full y _ _. full_off_at c.args.first.now c.args.second.now c.args.matrix.now c.args.edge.now (c.is_full_off_by.ensures full) y
