use Rattle.std.proofs.Common.{◌≡◌, ◌∙◌, ap, arith, flat_map, length}
use Rattle.std.proofs.lemmas.List.{length-map}
use Rattle.std.proofs.lemmas.List.Elements.{All-weaker}
use Rattle.feature_table.proofs.ValueLemmas.{all_joined, joined_in_cells}
use Rattle.feature_table.specs.FlatRows.{IsWithin, row_at}
use Rattle.feature_table.specs.Values.{IsBacked, value_in, values_in}
use Rattle.feature_table.proofs.values.Values.put_in_order.Goals as goal

pub cells_in_order-requires : goal.cells_in_order-requires
cells_in_order-requires c =
    let inside = c.self.inside in
    let view = ap length c.self.view_is in
    let size : length (values_in inside.texts inside.geometries.items inside.cells.items) ≡ length inside.cells.items =
    simp length-map in
    rw c.as_slice.ensures.value
    (All-weaker (IsWithin c.args.width c.args.self.now) (IsWithin c.args.width inside.cells.items)
    (λ p h. omega (arith, view, size, h)) c.args.order.now c.requires)

pub invariant_of-self : goal.invariant_of-self
invariant_of-self c =
    let inside = c.self.inside in
    let are = rw c.as_slice.ensures.value at c.in_ok-cells.ensures in
    let IsKept = IsBacked inside.texts inside.geometries.items in
    rw are (all_joined IsKept c.args.width inside.cells.items c.args.order.now c.self.invariant)

pub returns : goal.returns
returns c =
    let inside = c.self.inside in
    let order = c.args.order.now in
    let width = c.args.width in
    let are = rw c.as_slice.ensures.value at c.in_ok-cells.ensures in
    ap (values_in inside.texts inside.geometries.items) are
    ∙ joined_in_cells (value_in inside.texts inside.geometries.items) width inside.cells.items order
    ∙ ap (λ values. flat_map (row_at width values) order) c.self.view_is
