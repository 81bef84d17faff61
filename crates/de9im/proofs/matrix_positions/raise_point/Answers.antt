use Rattle.de9im.proofs.Growth.{grows_point}
use Rattle.de9im.proofs.matrix_positions.raise_point.Goals as goal

pub returns-clause-grows : goal.returns-clause-grows
returns-clause-grows c = grows_point c.args.first.now c.args.second.now c.args.p.now c.locate.result c.locate-2.result c.args.matrix.now c.raise.new.self c.requires c.locate.ensures c.locate-2.ensures c.raise.ensures
