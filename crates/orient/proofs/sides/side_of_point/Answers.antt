use Rattle.std.proofs.Common.{refl, ◌∙◌, ◌*◌}
use mir.Syntax.{w32, w64, w128}
use Rattle.geometry_model.specs.WellKnownText.{coordinate_limit}
use Rattle.fraction.specs.Ranges.{denominator_limit}
use Rattle.orient.proofs.Bounds.{point_within, read, read_within, step_read, beyond_read, vector_of}
use Rattle.orient.proofs.sides.side_of_point.Goals as goal

pub step-dx-requires : goal.step-dx-requires
step-dx-requires c = record {
  first = read_within w32 coordinate_limit c.x.result c.args.from.x (record { sfits = c.x.type_inv }) c.x.ensures.value c.x.ensures.on_grid.x;
  second = read_within w32 coordinate_limit c.x-2.result c.args.to.x (record { sfits = c.x-2.type_inv }) c.x-2.ensures.value c.x-2.ensures.on_grid.x;
}

pub step-dy-requires : goal.step-dy-requires
step-dy-requires c = record {
  first = read_within w32 coordinate_limit c.y.result c.args.from.y (record { sfits = c.y.type_inv }) c.y.ensures.value c.y.ensures.on_grid.y;
  second = read_within w32 coordinate_limit c.y-2.result c.args.to.y (record { sfits = c.y-2.type_inv }) c.y-2.ensures.value c.y-2.ensures.on_grid.y;
}

pub beyond-ex-requires : goal.beyond-ex-requires
beyond-ex-requires c = record {
  numerator_bound = read_within w128 (coordinate_limit * denominator_limit) c.numerator_x.result c.args.p.now.X (record { sfits = c.numerator_x.type_inv }) c.numerator_x.ensures.value (point_within c.args.p.now c.numerator_x.ensures.kept).x;
  denominator_bound = read_within w64 denominator_limit c.denominator.result c.args.p.now.W (record { sfits = c.denominator.type_inv }) c.denominator.ensures.value (point_within c.args.p.now c.denominator.ensures.kept).denominator;
  coordinate_bound = read_within w32 coordinate_limit c.x-3.result c.args.from.x (record { sfits = c.x-3.type_inv }) c.x-3.ensures.value c.x-3.ensures.on_grid.x;
}

pub beyond-ey-requires : goal.beyond-ey-requires
beyond-ey-requires c = record {
  numerator_bound = read_within w128 (coordinate_limit * denominator_limit) c.numerator_y.result c.args.p.now.Y (record { sfits = c.numerator_y.type_inv }) c.numerator_y.ensures.value (point_within c.args.p.now c.numerator_y.ensures.kept).y;
  denominator_bound = read_within w64 denominator_limit c.denominator-2.result c.args.p.now.W (record { sfits = c.denominator-2.type_inv }) c.denominator-2.ensures.value (point_within c.args.p.now c.denominator-2.ensures.kept).denominator;
  coordinate_bound = read_within w32 coordinate_limit c.y-3.result c.args.from.y (record { sfits = c.y-3.type_inv }) c.y-3.ensures.value c.y-3.ensures.on_grid.y;
}

pub vector_product-requires : goal.vector_product-requires
vector_product-requires c = record {
  dx_bound = read_within w64 (2 * coordinate_limit) c.step-dx.result c.step-dx.result (record { sfits = c.step-dx.type_inv }) refl c.step-dx.ensures.bound;
  dy_bound = read_within w64 (2 * coordinate_limit) c.step-dy.result c.step-dy.result (record { sfits = c.step-dy.type_inv }) refl c.step-dy.ensures.bound;
  ex_bound = read_within w128 (2 * coordinate_limit * denominator_limit) c.beyond-ex.result c.beyond-ex.result (record { sfits = c.beyond-ex.type_inv }) refl c.beyond-ex.ensures.bound;
  ey_bound = read_within w128 (2 * coordinate_limit * denominator_limit) c.beyond-ey.result c.beyond-ey.result (record { sfits = c.beyond-ey.type_inv }) refl c.beyond-ey.ensures.bound;
}

pub returns-clause-value : goal.returns-clause-value
returns-clause-value c =
    let dx = step_read c.step-dx.result c.x-2.result c.x.result c.args.to.x c.args.from.x (record { sfits = c.step-dx.type_inv }) (record { sfits = c.x-2.type_inv }) (record { sfits = c.x.type_inv }) c.step-dx.ensures.value c.x-2.ensures.value c.x.ensures.value in
    let dy = step_read c.step-dy.result c.y-2.result c.y.result c.args.to.y c.args.from.y (record { sfits = c.step-dy.type_inv }) (record { sfits = c.y-2.type_inv }) (record { sfits = c.y.type_inv }) c.step-dy.ensures.value c.y-2.ensures.value c.y.ensures.value in
    let ex = beyond_read c.beyond-ex.result c.numerator_x.result c.x-3.result c.denominator.result c.args.p.now.X c.args.from.x c.args.p.now.W (record { sfits = c.beyond-ex.type_inv }) (record { sfits = c.numerator_x.type_inv }) (record { sfits = c.x-3.type_inv }) (record { sfits = c.denominator.type_inv })
    c.beyond-ex.ensures.value c.numerator_x.ensures.value c.x-3.ensures.value c.denominator.ensures.value in
    let ey = beyond_read c.beyond-ey.result c.numerator_y.result c.y-3.result c.denominator-2.result c.args.p.now.Y c.args.from.y c.args.p.now.W (record { sfits = c.beyond-ey.type_inv }) (record { sfits = c.numerator_y.type_inv }) (record { sfits = c.y-3.type_inv }) (record { sfits = c.denominator-2.type_inv })
    c.beyond-ey.ensures.value c.numerator_y.ensures.value c.y-3.ensures.value c.denominator-2.ensures.value in
    read w128 c.vector_product.result _ (record { sfits = c.vector_product.type_inv }) (c.vector_product.ensures.value ∙ vector_of _ _ _ _ _ _ _ _ dx ey dy ex)
