use Rattle.std.proofs.Common.{◌∙◌, ◌≡◌, ap, sym, ◌++◌, ◌∷◌, [], arith, length, take}
use Rattle.std.proofs.Math.Seq.{take-length}
use Rattle.table_model.specs.Plans as spec
use Rattle.planner.proofs.RowCounts.{one_more_count}
use Rattle.planner.proofs.chosen_plans.row_counts.Goals as goal

pub loop-reference-init : goal.loop-reference-init
loop-reference-init g c = c.in_ok-counts.ensures.items

pub loop-reference-preserved : goal.loop-reference-preserved
loop-reference-preserved g c =
    c.in_ok-push.ensures.items
    ∙ ap (λ n. c.loop-reference.counts.items ++ n ∷ []) c.row_count.ensures
    ∙ ap (λ ns. ns ++ length c.table.result.now ∷ []) c.loop-reference.invariant
    ∙ sym (one_more_count c.args.database.now.tables c.args.references.now c.loop-reference.reference-index c.reference-item.result c.table.result.now c.loop-reference-test.true c.reference-item.is c.table.ensures)

pub returns : goal.returns
returns g c =
    let all : c.loop-reference.reference-index ≡ length c.args.references.now = omega (arith, c.loop-reference-test.false, c.loop-reference.auto) in
    c.loop-reference.invariant ∙ ap (spec.row_counts c.args.database.now.tables) (ap (λ n. take n c.args.references.now) all ∙ take-length c.args.references.now)
