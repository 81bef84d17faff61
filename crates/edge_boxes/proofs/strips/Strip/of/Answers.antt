use Rattle.std.proofs.Common.{◌≡◌, ◌<◌, ◌<ℤ◌, pos, length, take, sym, ap, ◌∙◌, subst, rules, ℤ}
use Rattle.std.specs.List.{AllByRecursion}
use Rattle.std.proofs.Math.Seq.{take-length}
use Rattle.edge_boxes.specs.Strips.{LiesInStrip}
use Rattle.edge_boxes.specs.declared.strips.Direction.{Direction}
use Rattle.edge_boxes.proofs.StripSums.{one_edge_more}
use Rattle.edge_boxes.proofs.strips.Strip.of.Goals as goal

pub loop-edge-init : goal.loop-edge-init
loop-edge-init c = record { rightward = subst (λ (d : Direction). pos 0 <ℤ d.dx) (sym c.through-strip.ensures) c.in_ok-direction.ensures; lies = tt }

pub loop-edge-preserved : goal.loop-edge-preserved
loop-edge-preserved c =
    let within : c.loop-edge.edge-index < length c.args.edges.now = search rules in
    record {
      rightward = subst (λ (z : ℤ). pos 0 <ℤ z) (sym (c.widened-strip.ensures.wider.same ∙ c.widened.ensures.wider.same)) c.loop-edge.invariant.rightward;
      lies = one_edge_more c.loop-edge.strip c.widened.result c.widened-strip.result c.args.edges.now c.loop-edge.edge-index c.edge-item.result c.start.result c.end.result
          c.widened.ensures.wider c.widened.ensures.holds c.widened-strip.ensures.wider c.widened-strip.ensures.holds c.start.ensures c.end.ensures.value within c.edge-item.is c.loop-edge.invariant.lies;
    }

pub returns : goal.returns
returns c = let whole : c.loop-edge.edge-index ≡ length c.args.edges.now = search rules in record {
  rightward = c.loop-edge.invariant.rightward;
  lies = subst (λ l. AllByRecursion (LiesInStrip c.loop-edge.strip) l) (ap (λ n. take n c.args.edges.now) whole ∙ take-length c.args.edges.now) c.loop-edge.invariant.lies;
}
