use Rattle.std.proofs.Common.{[], ◌∙◌, ◌++◌, ◌∷◌, ap}
use Rattle.feature_table.proofs.ValueLemmas.{values_pushed}
use Rattle.feature_table.specs.Values.{values_in}
use Rattle.feature_table.proofs.values.Values.push.Goals as goal

pub returns : goal.returns
returns c =
    let inside = c.self.inside in
    let texts = c.cell_of.new.texts in
    let geometries = c.cell_of.new.geometries.items in
    ap (values_in texts geometries) c.in_ok-push.ensures.items
    ∙ values_pushed inside.texts texts inside.geometries.items geometries inside.cells.items _ c.args.value c.cell_of.ensures.texts c.cell_of.ensures.geometries
    c.self.invariant c.in_ok-cell.ensures.value
    ∙ ap (λ values. values ++ c.args.value ∷ []) c.self.view_is
