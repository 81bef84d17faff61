use Rattle.std.proofs.Common.{◌∙◌, ap}
use Rattle.std.proofs.lemmas.Result.{on_ok_weaker}
use Rattle.noding.specs.Steps.{stops_of}
use Rattle.noding.proofs.Shared.{shared_points, shared_in_order}
use Rattle.noding.proofs.StopFacts.{stops_are_gaps}
use Rattle.noding.proofs.gaps.Gaps.fill.Goals as goal

pub put_in_order-requires : goal.put_in_order-requires
put_in_order-requires c = shared_points c.args.edge.now c.args.others.now c.find_shared.new.points.items c.in_ok-find_shared.ensures

pub returns : goal.returns
returns c = on_ok_weaker c.set_stops.result
    (λ is. stops_are_gaps c.args.edge.now c.args.others.now c.put_in_order.new.points.items c.set_stops.new.stops.items c.set_stops.ensures.wide
    (shared_in_order c.args.edge.now c.args.others.now c.find_shared.new.points.items c.put_in_order.new.points.items c.in_ok-find_shared.ensures c.put_in_order.ensures)
    c.put_in_order.ensures.ascend (is ∙ ap (stops_of c.args.edge.now) c.as_slice.ensures))
    c.set_stops.ensures.value
