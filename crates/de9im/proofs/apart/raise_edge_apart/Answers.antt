use Rattle.geometry_model.specs.Points.{point_at}
use Rattle.geometry_laws.proofs.RingParity.{position_is_point}
use Rattle.matrix_laws.proofs.Shared.{end_on}
use Rattle.de9im.proofs.ApartEdges.{apart_is_off, apart_grows, apart_covers, start_like_end}
use Rattle.de9im.proofs.EdgePoints.{ends_kept}
use Rattle.de9im.proofs.apart.raise_edge_apart.Goals as goal

pub part_of_end-part-requires-clause-off : goal.part_of_end-part-requires-clause-off
part_of_end-part-requires-clause-off c =
    let e = c.args.edge.now in
    apart_is_off c.args.second.now e c.requires.apart
    (point_at e.end) (position_is_point e.end) (end_on e)

pub returns-clause-grows : goal.returns-clause-grows
returns-clause-grows c =
    let a = c.args.first.now in
    let b = c.args.second.now in
    let e = c.args.edge.now in
    apart_grows a b e c.part_of_end-part.result c.args.matrix.now c.raise_off.new.matrix
    c.requires.apart c.requires.own c.requires.length c.part_of_end-part.ensures
    c.raise_off.ensures

pub returns-clause-covers : goal.returns-clause-covers
returns-clause-covers c =
    let a = c.args.first.now in
    let b = c.args.second.now in
    let e = c.args.edge.now in
    let n = c.raise_off.new.matrix in
    apart_covers a b e c.part_of_end-part.result n c.requires.valid c.requires.apart
    c.requires.own c.requires.length c.part_of_end-part.ensures
    (ends_kept a b c.args.matrix.now n (c.raise_off.ensures).grown c.requires.ends) (c.raise_off.ensures).shows

pub returns-clause-part : goal.returns-clause-part
returns-clause-part c = start_like_end c.args.edge.now c.args.second.now c.part_of_end-part.result c.requires.valid
    c.requires.length c.requires.apart c.part_of_end-part.ensures
