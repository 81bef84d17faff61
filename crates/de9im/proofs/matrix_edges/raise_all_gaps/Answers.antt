use Rattle.geometry_model.specs.Pieces.{stretches}
use Rattle.de9im.proofs.GapCells.{gaps_apart, gaps_of_first}
use Rattle.de9im.proofs.matrix_edges.raise_all_gaps.Goals as goal

pub returns-then-is_apart-clause-shows : goal.returns-then-is_apart-clause-shows
returns-then-is_apart-clause-shows c = gaps_apart c.args.first.now c.args.second.now c.raise_gaps.new.matrix c.args.edge.now (stretches c.args.stops.now)
    (c.is_apart.ensures c.if-is_apart.true) c.requires.gaps c.raise_gaps.ensures.shows

pub returns-clause-shows : goal.returns-clause-shows
returns-clause-shows c = gaps_of_first c.args.first.now c.args.second.now c.raise_gaps-2.new.matrix c.args.edge.now (stretches c.args.stops.now) c.raise_gaps-2.ensures.shows
