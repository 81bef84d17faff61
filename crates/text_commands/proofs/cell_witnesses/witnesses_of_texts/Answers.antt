-- The two geometries are those that the texts were read as.
use Rattle.std.proofs.Common.{inl}
use Rattle.std.proofs.lemmas.Result.{IfErr-weaker, IfOk-weaker}
use Rattle.text_commands.proofs.RelationLemmas.{relates}
use Rattle.text_commands.proofs.WitnessLemmas.{by_both}
use Rattle.text_commands.proofs.cell_witnesses.witnesses_of_texts.Goals as goal

pub returns-clause-ok : goal.returns-clause-ok
returns-clause-ok c = λ matrix gives.
    let first = c.in_ok-first in
    let second = c.in_ok-second in
    IfOk-weaker c.witnesses_of.result _ _
    (λ w h. relates matrix gives _ _ first.first second.second _ first.ensures.ok second.ensures.ok first.ensures.valid second.ensures.valid h)
    c.witnesses_of.ensures.matrix

pub returns-clause-shows : goal.returns-clause-shows
returns-clause-shows c =
    let first = c.in_ok-first in
    let second = c.in_ok-second in
    by_both c.witnesses_of.result _ _ _
    (λ w is_matrix shows. record {
      a = first.first;
      b = second.second;
      first_spelled = first.ensures.spelled;
      second_spelled = second.ensures.spelled;
      first_valid = first.ensures.valid;
      second_valid = second.ensures.valid;
      matrix = is_matrix;
      shows = shows;
    }) c.witnesses_of.ensures.matrix c.witnesses_of.ensures.shows

pub returns-clause-failure : goal.returns-clause-failure
returns-clause-failure c = λ matrix. IfErr-weaker c.witnesses_of.result _ _ (λ failure h. inl h) c.witnesses_of.ensures.failure
