-- Each turn cuts the next piece from the rest.
use Rattle.std.proofs.Common.{◌∙◌, map, sym}
use Rattle.sfq_web.proofs.PieceFacts.{all_cut, next_cut, no_string, none_cut}
use Rattle.sfq_web.proofs.handed_in.strings_of.Goals as goal

pub loop-length-init : goal.loop-length-init
loop-length-init c = record { cut = none_cut c.new-all.result.items c.args.text.now c.args.lengths.now c.new-all.ensures.items }

pub loop-length-preserved : goal.loop-length-preserved
loop-length-preserved c =
    let before = c.loop-length in record {
      cut = next_cut c.push.new.self.items before.all.items c.in-Ok.string before.rest.now c.split_at.result.1.now
          c.args.lengths.now before.length-index c.min.result
          c.in_ok-push.ensures.items c.loop-length-test.true c.min.ensures (c.in-Ok.ensures.cases.0 ∙ c.split_at.ensures.front)
          c.split_at.ensures.back
          ∙ before.invariant.cut;
    }

pub returns-clause-strings : goal.returns-clause-strings
returns-clause-strings c =
    let end = c.loop-length in
    sym (all_cut (map (λ one. one.now) end.all.items) end.rest.now c.args.lengths.now end.length-index c.loop-length-test.false)
    ∙ end.invariant.cut

pub returns-in_default-clause-other : goal.returns-in_default-clause-other
returns-in_default-clause-other c = λ none.
    let before = c.loop-length in
    no_string before.all.items c.split_at.result.0.now before.rest.now c.args.text.now c.args.lengths.now before.length-index
    c.min.result before.invariant.cut c.loop-length-test.true c.min.ensures c.split_at.ensures.front c.in_default.ensures.cases.0
