use Rattle.std.proofs.Common.{length}
use Rattle.basics.proofs.Numbers.{at_least_same}
use Rattle.geometry_model.specs.Geometries.{edges_of_line}
use Rattle.witnesses.proofs.ClashFacts.{later_meeting, all_meetings}
use Rattle.witnesses.proofs.rings.meeting_with.Goals as goal

pub returns-then-share-clause-first : goal.returns-then-share-clause-first
returns-then-share-clause-first c = record {
  j = c.loop-j.j;
  first = c.edge-first.ensures;
  second = c.edge-second.ensures;
  share = c.share.ensures.yes c.if-share.true;
  none_before = c.loop-j.invariant;
}

pub loop-j-preserved : goal.loop-j-preserved
loop-j-preserved c = later_meeting c.args.r.now c.args.s.now c.args.i c.loop-j.j c.edge-first.result c.edge-second.result c.edge-first.ensures c.edge-second.ensures (c.share.ensures.no c.if-share.false) c.loop-j.invariant

pub returns-clause-none : goal.returns-clause-none
returns-clause-none c = all_meetings c.args.r.now c.args.s.now c.args.i c.loop-j.j (at_least_same c.edge_count-j-end.result (length (edges_of_line c.args.s.now)) c.loop-j.j c.edge_count-j-end.ensures c.loop-j-test.false) c.loop-j.invariant
