use Rattle.std.proofs.Common.{◌≡◌, ◌∙◌, ap, arith, length}
use Rattle.std.proofs.lemmas.List.{length-map}
use Rattle.feature_table.proofs.ValueLemmas.{row_in_cells}
use Rattle.feature_table.specs.FlatRows.{row_at}
use Rattle.feature_table.specs.Values.{value_in, values_in}
use Rattle.feature_table.proofs.values.Values.row.Goals as goal

pub cells_at-requires : goal.cells_at-requires
cells_at-requires c =
    let inside = c.self.inside in
    let view = ap length c.self.view_is in
    let size : length (values_in inside.texts inside.geometries.items inside.cells.items) ≡ length inside.cells.items = simp length-map in
    rw c.as_slice.ensures.value (omega (arith, view, size, c.requires))

pub returns : goal.returns
returns c =
    let inside = c.self.inside in
    let width = c.args.width in
    let place = c.args.place in
    let value = value_in inside.texts inside.geometries.items in
    let lent = c.cells_at.ensures ∙ ap (λ cells. row_at width cells place) c.as_slice.ensures.value in
    rw (c.as_slice-2.ensures.value)
    (ap (values_in inside.texts inside.geometries.items) lent ∙ row_in_cells value width place inside.cells.items ∙ ap (λ values. row_at width values place) c.self.view_is)
