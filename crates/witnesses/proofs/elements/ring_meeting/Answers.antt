use Rattle.std.proofs.Common.{refl, length}
use Rattle.std.proofs.lemmas.Option.{slice_get_read}
use Rattle.witnesses.proofs.MeetingFacts.{next_one, none_one_before}
use Rattle.witnesses.proofs.elements.ring_meeting.Goals as goal

pub loop-other-preserved : goal.loop-other-preserved
loop-other-preserved c = next_one c.args.ring.now c.args.others.now c.loop-other.other-index c.other-item.result
    (slice_get_read c.args.others.now (length c.args.others.now) c.loop-other.other-index c.other-item.result refl c.loop-other-test.true c.other-item.is) c.in_default.ensures.none c.loop-other.invariant

pub returns-in-Some-clause-first : goal.returns-in-Some-clause-first
returns-in-Some-clause-first c = record {
  n = c.loop-other.other-index;
  s = c.other-item.result;
  second = slice_get_read c.args.others.now (length c.args.others.now) c.loop-other.other-index c.other-item.result refl
      c.loop-other-test.true c.other-item.is;
  meeting = c.in-Some.ensures.first;
  none_before = none_one_before c.args.ring.now c.args.others.now c.loop-other.other-index c.loop-other.invariant;
}
