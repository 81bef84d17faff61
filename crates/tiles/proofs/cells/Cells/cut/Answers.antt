use Rattle.std.proofs.Common.{◌≡◌, ◌∙◌, ◌+◌, ◌∷◌, ◌++◌, [], ap, sym, subst}
use Rattle.tiles.specs.Cuts.{IsCutAtMedians, LiesWithin}
use Rattle.tiles.specs.Lines.{IsInGrid, times_within, whole}
use Rattle.tiles.proofs.CutLemmas.{all_within, cuts_grid, whole_in_grid}
use Rattle.tiles.proofs.cells.Cells.cut.Goals as goal

pub returns-clause-cut : goal.returns-clause-cut
returns-clause-cut c = cuts_grid c.push_boxes.new.boxes.items
    (λ p. c.in_ok-tree.ensures.once p
    ∙ ap (λ boxes. times_within p boxes + times_within p (c.whole_grid-grid.result ∷ [])) c.new-boxes.ensures.items
    ∙ ap (λ box. times_within p [] + times_within p (box ∷ [])) c.whole_grid-grid.ensures)

pub push_boxes-requires-clause-inside : goal.push_boxes-requires-clause-inside
push_boxes-requires-clause-inside c = subst (LiesWithin c.args.sample.now) (sym c.whole_grid-grid.ensures) (all_within c.args.sample.now)

pub returns-clause-medians : goal.returns-clause-medians
returns-clause-medians c =
    let added = c.in_ok-tree.ensures.cut in
    let is : c.push_boxes.new.boxes.items ≡ added.0 = added.1 ∙ ap (λ boxes. boxes ++ added.0) c.new-boxes.ensures.items in
    subst (IsCutAtMedians 10 c.args.most c.args.sample.now whole) (sym is)
    (subst (λ box. IsCutAtMedians 10 c.args.most c.args.sample.now box added.0) c.whole_grid-grid.ensures added.2)

pub push_boxes-requires-clause-grid : goal.push_boxes-requires-clause-grid
push_boxes-requires-clause-grid c = subst IsInGrid (sym c.whole_grid-grid.ensures) whole_in_grid
