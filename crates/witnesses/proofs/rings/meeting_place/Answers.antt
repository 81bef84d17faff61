use Rattle.std.proofs.Common.{length}
use Rattle.basics.proofs.Numbers.{at_least_same}
use Rattle.geometry_model.specs.Geometries.{edges_of_line}
use Rattle.witnesses.proofs.ClashFacts.{next_meeting, none_met_earlier, all_share}
use Rattle.witnesses.proofs.rings.meeting_place.Goals as goal

pub returns-in-Some-clause-first : goal.returns-in-Some-clause-first
returns-in-Some-clause-first c = record {
  i = c.loop-i.i;
  with = c.in-Some.ensures.first;
  none_before = none_met_earlier c.args.r.now c.args.s.now c.loop-i.i c.loop-i.invariant;
}

pub loop-i-preserved : goal.loop-i-preserved
loop-i-preserved c = next_meeting c.args.r.now c.args.s.now c.loop-i.i c.in_default.ensures.none c.loop-i.invariant

pub returns-clause-none : goal.returns-clause-none
returns-clause-none c = all_share c.args.r.now c.args.s.now c.loop-i.i (at_least_same c.edge_count-i-end.result (length (edges_of_line c.args.r.now)) c.loop-i.i c.edge_count-i-end.ensures c.loop-i-test.false) c.loop-i.invariant
