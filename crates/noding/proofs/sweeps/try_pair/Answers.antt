use Rattle.std.proofs.lemmas.Result.{on_ok_weaker}
use Rattle.noding.proofs.BreakPoints.{pair_swept}
use Rattle.noding.proofs.sweeps.try_pair.Goals as goal

pub returns-clause-swept : goal.returns-clause-swept
returns-clause-swept c = on_ok_weaker c.push_at-2.result (λ g ps h. pair_swept c.args.order.now ps c.args.first c.args.second c.index-order-first.result c.index-order-second.result c.tried-shared.result c.args.breaks.now c.push_at.new.breaks c.push_at-2.new.breaks
    c.requires.places.0 c.requires.places.1 c.index-order-first.is c.index-order-second.is
    (record { exact = c.tried-shared.ensures.exact; cuts = c.tried-shared.ensures.cuts; names = c.tried-shared.ensures.found; least = c.tried-shared.ensures.least; limit = c.tried-shared.ensures.limit })
    c.in_ok-push_at.ensures g h) c.push_at-2.ensures
