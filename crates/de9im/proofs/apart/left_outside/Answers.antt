use Rattle.std.proofs.Common.{arith}
use Rattle.geometry_model.specs.Geometries.{edges}
use Rattle.matrix_laws.specs.Cells.{Covers}
use Rattle.de9im.proofs.ApartChains.{later_part}
use Rattle.de9im.proofs.apart.left_outside.Goals as goal

pub returns-clause-covers : goal.returns-clause-covers
returns-clause-covers c =
    let left = c.left_to_raise-left.result in
    let greater = c.max.ensures in
    let before = c.left_to_raise-left.ensures.before in
    let ordered = c.requires.ordered in
    later_part (Covers c.args.first.now c.args.second.now c.args.matrix.now) (edges c.args.first.now) left c.max.result
    c.args.end (omega (arith, greater)) (omega (arith, greater, before, ordered)) c.left_to_raise-left.ensures.covers
