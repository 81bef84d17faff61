use Rattle.std.proofs.Common.{◌≡◌, ◌<◌, ◌∙◌, Some, ap, arith, length, slice_get, subst, sym}
use Rattle.feature_table.proofs.FlatLemmas.{row_there, rows_counted, within_first}
use Rattle.feature_table.proofs.flat_rows.FlatRows.row.Goals as goal

pub row-requires : goal.row-requires
row-requires c =
    let inside = c.self.inside in
    let view = ap length c.self.view_is in
    let size = rows_counted inside.width inside.values inside.count in
    let within : c.args.i < inside.count = omega (arith, view, size, c.requires) in
    let first = within_first inside.width inside.count c.args.i within in
    let whole = c.self.invariant in
    omega (arith, first, whole)

pub returns : goal.returns
returns c =
    let inside = c.self.inside in
    let view = ap length c.self.view_is in
    let size = rows_counted inside.width inside.values inside.count in
    let within : c.args.i < inside.count = omega (arith, view, size, c.requires) in
    subst (λ rows. slice_get rows c.args.i ≡ Some c.row.result) c.self.view_is
    (row_there inside.width inside.values inside.count c.args.i within ∙ ap Some (sym c.row.ensures))
