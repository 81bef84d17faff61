use Rattle.std.proofs.Common.{refl, pos, arith}
use Rattle.std.proofs.lemmas.Int.{ints}
use mir.Syntax.{w32}
use Rattle.orient.proofs.Bounds.{read}
use Rattle.edge_boxes.proofs.Floors.{floor_over_one, ceiling_over_one}
use Rattle.edge_boxes.proofs.cells.Cell.at.Goals as goal

pub returns : goal.returns
returns c = record {
  positive = omega (arith, ints);
  floor_x = floor_over_one c.args.at.x (pos 1) _ refl (read w32 c.x.result c.args.at.x (record { sfits = c.x.type_inv }) c.x.ensures.value);
  ceiling_x = ceiling_over_one c.args.at.x (pos 1) _ refl (read w32 c.x-2.result c.args.at.x (record { sfits = c.x-2.type_inv }) c.x-2.ensures.value);
  floor_y = floor_over_one c.args.at.y (pos 1) _ refl (read w32 c.y.result c.args.at.y (record { sfits = c.y.type_inv }) c.y.ensures.value);
  ceiling_y = ceiling_over_one c.args.at.y (pos 1) _ refl (read w32 c.y-2.result c.args.at.y (record { sfits = c.y-2.type_inv }) c.y-2.ensures.value);
}
