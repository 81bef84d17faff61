use Rattle.de9im.proofs.OddEnds.{odd_ends_lie, shows_odd_ends}
use Rattle.de9im.proofs.matrix_positions.raise_odd_ends.Goals as goal

pub returns-clause-grows : goal.returns-clause-grows
returns-clause-grows c = c.raise_positions.ensures.grows c.args.first.now (odd_ends_lie c.args.first.now c.odd_ends-ends.result.now c.odd_ends-ends.ensures)

pub returns-clause-shows : goal.returns-clause-shows
returns-clause-shows c =
    let a = c.args.first.now in
    let ends = c.odd_ends-ends.result.now in
    shows_odd_ends a c.args.second.now c.raise_positions.new.matrix ends c.odd_ends-ends.ensures
    (c.raise_positions.ensures.shows a (odd_ends_lie a ends c.odd_ends-ends.ensures))
