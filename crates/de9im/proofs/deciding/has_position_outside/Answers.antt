use Rattle.std.proofs.Common.{List, inr, subst, take}
use Rattle.std.specs.List.{All}
use Rattle.geometry_model.specs.Geometries.{Edge}
use Rattle.de9im.specs.Deciding.{StartsInside}
use Rattle.de9im.proofs.FirstEdges.{first_asked, first_of_all}
use Rattle.de9im.proofs.deciding.has_position_outside.Goals as goal

pub loop-at-preserved : goal.loop-at-preserved
loop-at-preserved c = record {
  forward = c.loop-at.invariant.forward;
  first = inr (first_asked (StartsInside c.args.second.now) c.segments-edges.result.now c.loop-at.at
      c.index-edges-at.result c.loop-at.invariant.first c.loop-at-test.true c.index-edges-at.is
      (c.starts_outside.ensures.inside c.if-starts_outside.false));
}

pub returns-clause-inside : goal.returns-clause-inside
returns-clause-inside c h =
    let inside = StartsInside c.args.second.now in
    subst (λ (es : List Edge). All inside (take 1 es)) c.segments-edges.ensures
    (first_of_all inside c.segments-edges.result.now c.loop-at.at c.loop-at.invariant.first c.loop-at-test.false)
