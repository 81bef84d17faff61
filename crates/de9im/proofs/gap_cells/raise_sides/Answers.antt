use Rattle.std.proofs.Common.{◌∙◌, ap}
use Rattle.geometry_model.specs.Dimensions.{Matrix}
use Rattle.geometry_model.specs.declared.point_sets.Dimension.TheVariants.{Two}
use Rattle.matrix_laws.specs.Cells.{raised}
use Rattle.de9im.proofs.gap_cells.raise_sides.Goals as goal

pub returns : goal.returns
returns c = c.raise-2.ensures ∙ ap (λ (m : Matrix). raised m c.args.first.now.upper c.args.second.now.upper Two) c.raise.ensures
