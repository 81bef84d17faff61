-- The two geometries are those that the texts were read as.
use Rattle.std.proofs.Common.{inl}
use Rattle.std.proofs.lemmas.Result.{IfErr-weaker, IfOk-weaker}
use Rattle.text_commands.proofs.RelationLemmas.{relates}
use Rattle.text_commands.proofs.relate.relate_texts.Goals as goal

pub returns-clause-ok : goal.returns-clause-ok
returns-clause-ok c = λ matrix gives.
    let first = c.in_ok-first in
    let second = c.in_ok-second in
    IfOk-weaker c.matrix_of.result _ _
    (λ m h. relates matrix gives _ _ first.first second.second m first.ensures.ok second.ensures.ok first.ensures.valid second.ensures.valid h)
    c.matrix_of.ensures.point_sets

pub returns-clause-point_sets : goal.returns-clause-point_sets
returns-clause-point_sets c =
    IfOk-weaker c.matrix_of.result _ _
    (λ m h. (c.in_ok-first.first, c.in_ok-second.second, c.in_ok-first.ensures.spelled, c.in_ok-second.ensures.spelled, h))
    c.matrix_of.ensures.point_sets

pub returns-clause-failure : goal.returns-clause-failure
returns-clause-failure c = λ matrix. IfErr-weaker c.matrix_of.result _ _ (λ failure h. inl h) c.matrix_of.ensures.failure
