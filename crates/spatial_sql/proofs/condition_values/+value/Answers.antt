use Rattle.std.proofs.Common.{◌≡◌, ◌+◌, ◌∙◌, false, true, ap, arith, map, sym}
use Rattle.std.specs.Option.{option_copied}
use Rattle.table_model.proofs.CondFolds.{fold-And, fold-Or, fold-Relates}
use Rattle.table_model.specs.Arguments.{denoted}
use Rattle.table_model.specs.RunOutcomes.{kept_count}
use Rattle.table_model.specs.Truths.{all_of, any_of, related, truth, truth_by_parts}
use Rattle.table_model.specs.Work.{computed, has_as_text}
use Rattle.spatial_sql.specs.Evaluation.{joined_by}
use Rattle.spatial_sql.proofs.Parts.{counted_more, false_at, joined_more, none_at, same_truth}
use Rattle.spatial_sql.proofs.condition_values.+value.Goals as goal

pub evaluated-returns-in-Or-clause-truth : goal.evaluated-returns-in-Or-clause-truth
evaluated-returns-in-Or-clause-truth t c =
    λ matrix gives.
    let at = truth matrix denoted c.args.rows.now in
    same_truth _ _ _ (c.joined_parts.ensures.truth matrix gives)
    (ap at c.in-Or.is ∙ fold-Or _ _ (truth_by_parts matrix denoted c.args.rows.now) c.in-Or.parts ∙ sym (ap (λ parts. any_of (map at parts)) c.as_slice.ensures))

pub evaluated-returns-in-And-clause-truth : goal.evaluated-returns-in-And-clause-truth
evaluated-returns-in-And-clause-truth t c =
    λ matrix gives.
    let at = truth matrix denoted c.args.rows.now in
    same_truth _ _ _ (c.joined_parts-in-And.ensures.truth matrix gives)
    (ap at c.in-And.is ∙ fold-And _ _ (truth_by_parts matrix denoted c.args.rows.now) c.in-And.parts ∙ sym (ap (λ parts. all_of (map at parts)) c.as_slice-in-And.ensures))

pub evaluated-returns-in-Relates-clause-truth : goal.evaluated-returns-in-Relates-clause-truth
evaluated-returns-in-Relates-clause-truth t c =
    λ matrix gives.
    let p = c.in-Relates.predicate in
    same_truth _ _ _ (c.relation.ensures.truth matrix gives)
    (ap (truth matrix denoted c.args.rows.now) c.in-Relates.is
    ∙ fold-Relates _ _ (truth_by_parts matrix denoted c.args.rows.now) p c.in-Relates.a c.in-Relates.b
    ∙ sym (ap (λ g. related matrix p g (option_copied c.geometry_at-second.result)) c.geometry_at-first.ensures
    ∙ ap (related matrix p (denoted c.args.rows.now c.in-Relates.a)) c.geometry_at-second.ensures))

pub joined_parts-returns-in_err-evaluated-clause-no_memory : goal.joined_parts-returns-in_err-evaluated-clause-no_memory
joined_parts-returns-in_err-evaluated-clause-no_memory t c =
    λ none without.
    let refused : false ≡ true =
    c.in_err-evaluated.ensures.no_memory
    (ap (computed denoted c.args.rows.now) c.part-item.is
    ∙ none_at (computed denoted c.args.rows.now) c.args.parts.now c.loop-part.part-index c.part-item.result c.loop-part-test.true none)
    (ap has_as_text c.part-item.is ∙ false_at has_as_text c.args.parts.now c.loop-part.part-index c.part-item.result c.loop-part-test.true without)
    in
    cc

pub joined_parts-loop-part-preserved : goal.joined_parts-loop-part-preserved
joined_parts-loop-part-preserved t c = record {
  truth =
      λ matrix gives.
      joined_more (joined_by c.args.junction) (truth matrix denoted c.args.rows.now) _ _ _ c.args.parts.now c.loop-part.part-index c.part-item.result
      c.loop-part-test.true (c.in_ok-evaluated.ensures.truth matrix gives ∙ ap (truth matrix denoted c.args.rows.now) c.part-item.is) c.joined-truth.ensures
      ∙ c.loop-part.invariant.truth matrix gives;
  counted =
      counted_more (computed denoted c.args.rows.now) _ _ c.args.parts.now c.loop-part.part-index c.part-item.result c.loop-part-test.true
      (c.in_ok-evaluated.ensures.counted ∙ ap (λ part. kept_count (c.loop-part.work + computed denoted c.args.rows.now part)) c.part-item.is)
      ∙ c.loop-part.invariant.counted;
  kept = omega (arith, c.in_ok-evaluated.ensures.kept);
}
