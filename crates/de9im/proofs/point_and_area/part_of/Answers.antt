use Rattle.std.proofs.Common.{refl, ap, ◌∙◌}
use Rattle.geometry_model.specs.Locations.{locate}
use Rattle.de9im.specs.Raising.{beside_area}
use Rattle.de9im.proofs.PointsAndArea.{one_gives}
use Rattle.de9im.proofs.point_and_area.part_of.Goals as goal

pub returns-in-Some : goal.returns-in-Some
returns-in-Some c = record {
  is_point = c.requires.point;
  is_area = c.requires.area.is_area;
  point_valid = c.geometry-point.ensures.valid;
  area_valid = c.geometry-area.ensures.valid;
  labelled = one_gives c.args.point.now c.args.area.now c.in-Some.at c.locate.result (beside_area c.locate.result)
      c.requires.point c.requires.area c.geometry-point.ensures.valid c.geometry-area.ensures.valid c.in-Some.ensures.one
      (c.locate.ensures ∙ ap (locate c.args.area.now) c.of_grid.ensures) refl;
}
