use Rattle.std.proofs.Common.{refl, sym, ◌∙◌, ◌*◌}
use mir.Syntax.{w32, w64}
use Rattle.geometry_model.specs.WellKnownText.{coordinate_limit}
use Rattle.orient.proofs.Bounds.{side_at, read, read_within, step_read, vector_of}
use Rattle.orient.proofs.sides.side_of_position.Goals as goal

pub step-dx-requires : goal.step-dx-requires
step-dx-requires c = record {
  first = read_within w32 coordinate_limit c.x.result c.args.from.x (record { sfits = c.x.type_inv }) c.x.ensures.value c.x.ensures.on_grid.x;
  second = read_within w32 coordinate_limit c.x-2.result c.args.to.x (record { sfits = c.x-2.type_inv }) c.x-2.ensures.value c.x-2.ensures.on_grid.x;
}

pub step-dy-requires : goal.step-dy-requires
step-dy-requires c = record {
  first = read_within w32 coordinate_limit c.y.result c.args.from.y (record { sfits = c.y.type_inv }) c.y.ensures.value c.y.ensures.on_grid.y;
  second = read_within w32 coordinate_limit c.y-2.result c.args.to.y (record { sfits = c.y-2.type_inv }) c.y-2.ensures.value c.y-2.ensures.on_grid.y;
}

pub step-ex-requires : goal.step-ex-requires
step-ex-requires c = record {
  first = read_within w32 coordinate_limit c.x-3.result c.args.from.x (record { sfits = c.x-3.type_inv }) c.x-3.ensures.value c.x-3.ensures.on_grid.x;
  second = read_within w32 coordinate_limit c.x-4.result c.args.at.x (record { sfits = c.x-4.type_inv }) c.x-4.ensures.value c.x-4.ensures.on_grid.x;
}

pub step-ey-requires : goal.step-ey-requires
step-ey-requires c = record {
  first = read_within w32 coordinate_limit c.y-3.result c.args.from.y (record { sfits = c.y-3.type_inv }) c.y-3.ensures.value c.y-3.ensures.on_grid.y;
  second = read_within w32 coordinate_limit c.y-4.result c.args.at.y (record { sfits = c.y-4.type_inv }) c.y-4.ensures.value c.y-4.ensures.on_grid.y;
}

pub short_vector_product-requires : goal.short_vector_product-requires
short_vector_product-requires c = record {
  dx_bound = read_within w64 (2 * coordinate_limit) c.step-dx.result c.step-dx.result (record { sfits = c.step-dx.type_inv }) refl c.step-dx.ensures.bound;
  dy_bound = read_within w64 (2 * coordinate_limit) c.step-dy.result c.step-dy.result (record { sfits = c.step-dy.type_inv }) refl c.step-dy.ensures.bound;
  ex_bound = read_within w64 (2 * coordinate_limit) c.step-ex.result c.step-ex.result (record { sfits = c.step-ex.type_inv }) refl c.step-ex.ensures.bound;
  ey_bound = read_within w64 (2 * coordinate_limit) c.step-ey.result c.step-ey.result (record { sfits = c.step-ey.type_inv }) refl c.step-ey.ensures.bound;
}

pub returns-clause-on_grid : goal.returns-clause-on_grid
returns-clause-on_grid c = c.x-4.ensures.on_grid

pub returns-clause-value : goal.returns-clause-value
returns-clause-value c =
    let dx = step_read c.step-dx.result c.x-2.result c.x.result c.args.to.x c.args.from.x (record { sfits = c.step-dx.type_inv }) (record { sfits = c.x-2.type_inv }) (record { sfits = c.x.type_inv }) c.step-dx.ensures.value c.x-2.ensures.value c.x.ensures.value in
    let dy = step_read c.step-dy.result c.y-2.result c.y.result c.args.to.y c.args.from.y (record { sfits = c.step-dy.type_inv }) (record { sfits = c.y-2.type_inv }) (record { sfits = c.y.type_inv }) c.step-dy.ensures.value c.y-2.ensures.value c.y.ensures.value in
    let ex = step_read c.step-ex.result c.x-4.result c.x-3.result c.args.at.x c.args.from.x (record { sfits = c.step-ex.type_inv }) (record { sfits = c.x-4.type_inv }) (record { sfits = c.x-3.type_inv }) c.step-ex.ensures.value c.x-4.ensures.value c.x-3.ensures.value in
    let ey = step_read c.step-ey.result c.y-4.result c.y-3.result c.args.at.y c.args.from.y (record { sfits = c.step-ey.type_inv }) (record { sfits = c.y-4.type_inv }) (record { sfits = c.y-3.type_inv }) c.step-ey.ensures.value c.y-4.ensures.value c.y-3.ensures.value in
    read w64 c.short_vector_product.result _ (record { sfits = c.short_vector_product.type_inv }) (c.short_vector_product.ensures ∙ vector_of _ _ _ _ _ _ _ _ dx ey dy ex) ∙ sym (side_at c.args.from c.args.to c.args.at.x c.args.at.y)
