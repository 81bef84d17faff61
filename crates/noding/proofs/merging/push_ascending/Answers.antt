use Rattle.std.proofs.Common.{List, arith, subst}
use Rattle.std.proofs.lemmas.List.{take_all}
use Rattle.geometry_model.specs.Geometries.{Edge}
use Rattle.noding.specs.Merging.{AreMerged}
use Rattle.noding.proofs.Held.{pushed_all, pushed_held}
use Rattle.noding.proofs.merging.push_ascending.Goals as goal

pub loop-edge-preserved : goal.loop-edge-preserved
loop-edge-preserved c = record {
  merged = pushed_held c.args.edges.now c.loop-edge.stretches.items c.push.new.self.items c.loop-edge.edge-index c.edge-item.result c.ascending.result c.loop-edge-test.true c.edge-item.is c.ascending.ensures.held c.in_ok-push.ensures.items c.loop-edge.invariant.merged;
  all = pushed_all c.loop-edge.stretches.items c.push.new.self.items c.args.edges.now c.loop-edge.edge-index c.edge-item.result c.ascending.result c.loop-edge-test.true c.edge-item.is c.ascending.ensures.holds c.in_ok-push.ensures.items c.loop-edge.invariant.all;
}

pub returns-clause-all : goal.returns-clause-all
returns-clause-all c =
    subst (λ (es : List Edge). AreMerged c.loop-edge.stretches.items es) (take_all c.loop-edge.edge-index c.args.edges.now (omega (arith, c.loop-edge-test.false))) c.loop-edge.invariant.all
