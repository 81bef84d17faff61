use Rattle.std.proofs.Common.{◌∙◌, ◌+◌, ap, drop}
use Rattle.std.proofs.lemmas.List.{drop_all}
use Rattle.edge_boxes.specs.RingEdges.{edges_share}
use Rattle.edge_boxes.proofs.Rests.{at_index}
use Rattle.validity.proofs.ApartRings.{next_run}
use Rattle.validity.proofs.apart.may_meet_later.Goals as goal

pub loop-edge-preserved : goal.loop-edge-preserved
loop-edge-preserved c = c.loop-edge.invariant
    ∙ next_run (drop c.args.from c.args.edges.now) (drop c.loop-edge.edge-index c.args.run.now)
    (drop (c.loop-edge.edge-index + 1) c.args.run.now) c.edge-item.result
    (at_index c.args.run.now c.loop-edge.edge-index _ c.edge-item.result c.loop-edge-test.true c.edge-item.is)
    (c.in_ok-may_share_later.ensures c.if-branch.false)

pub returns : goal.returns
returns c none = c.loop-edge.invariant
    ∙ ap (λ l. edges_share l (drop c.args.from c.args.edges.now))
    (drop_all c.loop-edge.edge-index c.args.run.now c.loop-edge-test.false)
