use Rattle.std.proofs.Common.{sym, rules}
use Rattle.std.proofs.lemmas.Int.{to_z-of_z}
use mir.Syntax.{w32, w64, w128}
use mir.Val.{SFits}
use Rattle.edge_boxes.proofs.Floors.{floor_as, ceiling_as}
use Rattle.edge_boxes.proofs.cells.Cell.around.Goals as goal

pub returns : goal.returns
returns c =
    let w : SFits w64 c.denominator-denominator.result = record { sfits = c.denominator-denominator.type_inv } in
    let x : SFits w128 c.numerator_x.result = record { sfits = c.numerator_x.type_inv } in
    let y : SFits w128 c.numerator_y.result = record { sfits = c.numerator_y.type_inv } in
    let fx : SFits w32 c.neighbours-floor_x.result.0 = search rules in
    let cx : SFits w32 c.neighbours-floor_x.result.1 = search rules in
    let fy : SFits w32 c.neighbours-floor_y.result.0 = search rules in
    let cy : SFits w32 c.neighbours-floor_y.result.1 = search rules in
    let p = c.args.point.now in
    record {
      positive = c.denominator-denominator.ensures.kept.range.positive;
      floor_x = floor_as c.numerator_x.result c.denominator-denominator.result c.neighbours-floor_x.result.0 p.X p.W _ c.numerator_x.ensures.value c.denominator-denominator.ensures.value
          (sym (to_z-of_z w32 c.neighbours-floor_x.result.0 fx)) (simp to_z-of_z at c.neighbours-floor_x.ensures.floor);
      ceiling_x = ceiling_as c.numerator_x.result c.denominator-denominator.result c.neighbours-floor_x.result.1 p.X p.W _ c.numerator_x.ensures.value c.denominator-denominator.ensures.value
          (sym (to_z-of_z w32 c.neighbours-floor_x.result.1 cx)) (simp to_z-of_z at c.neighbours-floor_x.ensures.ceiling);
      floor_y = floor_as c.numerator_y.result c.denominator-denominator.result c.neighbours-floor_y.result.0 p.Y p.W _ c.numerator_y.ensures.value c.denominator-denominator.ensures.value
          (sym (to_z-of_z w32 c.neighbours-floor_y.result.0 fy)) (simp to_z-of_z at c.neighbours-floor_y.ensures.floor);
      ceiling_y = ceiling_as c.numerator_y.result c.denominator-denominator.result c.neighbours-floor_y.result.1 p.Y p.W _ c.numerator_y.ensures.value c.denominator-denominator.ensures.value
          (sym (to_z-of_z w32 c.neighbours-floor_y.result.1 cy)) (simp to_z-of_z at c.neighbours-floor_y.ensures.ceiling);
    }
