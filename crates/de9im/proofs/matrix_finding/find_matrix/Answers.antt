use Rattle.de9im.proofs.Passes.{is_matrix}
use Rattle.de9im.proofs.PointsAndArea.{turned_gives}
use Rattle.de9im.proofs.matrix_finding.find_matrix.Goals as goal

pub returns-then-has_sides-clause-point_sets : goal.returns-then-has_sides-clause-point_sets
returns-then-has_sides-clause-point_sets c = is_matrix c.args.first.now c.args.second.now c.find_beside_area.result c.find_beside_area.ensures.points_valid c.find_beside_area.ensures.area_valid c.find_beside_area.ensures.labelled

pub returns-then-has_sides-2-clause-labelled : goal.returns-then-has_sides-2-clause-labelled
returns-then-has_sides-2-clause-labelled c =
    let found = c.find_beside_area-then-has_sides-2 in
    turned_gives c.args.first.now c.args.second.now found.result c.transposed.result found.ensures.labelled c.transposed.ensures

pub returns-then-has_sides-2-clause-point_sets : goal.returns-then-has_sides-2-clause-point_sets
returns-then-has_sides-2-clause-point_sets c =
    let found = c.find_beside_area-then-has_sides-2 in
    is_matrix c.args.first.now c.args.second.now c.transposed.result found.ensures.area_valid found.ensures.points_valid (returns-then-has_sides-2-clause-labelled c)
