use Rattle.std.proofs.Common.{refl, length}
use Rattle.std.proofs.lemmas.Option.{slice_get_read}
use Rattle.witnesses.proofs.MeetingFacts.{next_of_polygon, none_of_polygon_before}
use Rattle.witnesses.proofs.elements.polygons_meeting.Goals as goal

pub loop-ring-preserved : goal.loop-ring-preserved
loop-ring-preserved c = next_of_polygon c.args.polygon.now c.args.other.now c.loop-ring.ring-index c.ring-item.result
    (slice_get_read c.args.polygon.now (length c.args.polygon.now) c.loop-ring.ring-index c.ring-item.result refl c.loop-ring-test.true c.ring-item.is) c.in_default.ensures.none c.loop-ring.invariant

pub returns-in-Some-clause-first : goal.returns-in-Some-clause-first
returns-in-Some-clause-first c = record {
  n = c.loop-ring.ring-index;
  r = c.ring-item.result;
  first = slice_get_read c.args.polygon.now (length c.args.polygon.now) c.loop-ring.ring-index c.ring-item.result refl
      c.loop-ring-test.true c.ring-item.is;
  with = c.in-Some.ensures.first;
  none_before = none_of_polygon_before c.args.polygon.now c.args.other.now c.loop-ring.ring-index c.loop-ring.invariant;
}
