use Rattle.std.proofs.Common.{◌∙◌, ◌++◌, ap, arith, flat_map, get_or}
use Rattle.std.proofs.lemmas.List.{take_all}
use Rattle.std.proofs.lemmas.List.Elements.{All-get_or}
use Rattle.feature_table.proofs.FlatLemmas.{joined_more}
use Rattle.feature_table.specs.FlatRows.{IsWithin, row_at}
use Rattle.feature_table.proofs.values.cells_in_order.Goals as goal

pub cells_at-requires : goal.cells_at-requires
cells_at-requires c =
    All-get_or (IsWithin c.args.width c.args.cells.now) c.args.order.now c.loop-place.place-index 0
    c.loop-place-test.true c.requires

pub loop-place-preserved : goal.loop-place-preserved
loop-place-preserved c =
    let order = c.args.order.now in
    let i = c.loop-place.place-index in
    let row = row_at c.args.width c.args.cells.now (get_or order i 0) in
    c.in_ok-extend_from_slice.ensures.items
    ∙ ap (λ more. c.loop-place.moved.items ++ more) c.cells_at.ensures
    ∙ ap (λ before. before ++ row) c.loop-place.invariant
    ∙ joined_more c.args.width c.args.cells.now order i c.loop-place-test.true

pub returns : goal.returns
returns c =
    let past = c.loop-place-test.false in
    c.loop-place.invariant
    ∙ ap (flat_map (row_at c.args.width c.args.cells.now))
    (take_all c.loop-place.place-index c.args.order.now (omega (arith, past)))
