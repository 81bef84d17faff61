-- Each turn cuts the next piece from the rest.
use Rattle.std.proofs.Common.{◌∙◌, map, sym}
use Rattle.sfq_web.proofs.PieceFacts.{all_cut, next_cut, none_cut}
use Rattle.sfq_web.proofs.cutting.cut.Goals as goal

pub loop-length-init : goal.loop-length-init
loop-length-init c = record { cut = none_cut c.new-all.result.items c.args.text.now c.args.lengths.now c.new-all.ensures.items }

pub loop-length-preserved : goal.loop-length-preserved
loop-length-preserved c =
    let before = c.loop-length in record {
      cut = next_cut c.push.new.self.items before.all.items c.split_at.result.0 before.rest.now c.split_at.result.1.now c.args.lengths.now before.length-index c.min.result
          c.in_ok-push.ensures.items c.loop-length-test.true c.min.ensures c.split_at.ensures.front c.split_at.ensures.back ∙ before.invariant.cut;
    }

pub returns : goal.returns
returns c =
    let end = c.loop-length in
    sym (all_cut (map (λ one. one.now) end.all.items) end.rest.now c.args.lengths.now end.length-index c.loop-length-test.false) ∙ end.invariant.cut
