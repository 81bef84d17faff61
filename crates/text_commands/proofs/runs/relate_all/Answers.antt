-- Each end of a run, and one pair more.
use Rattle.std.proofs.Common.{◌∙◌, Result, Err, ap, refl, subst, sym}
use Rattle.std.proofs.lemmas.Result.{err_from_is_err_and}
use Rattle.csv.specs.Records.{fields_of}
use Rattle.failures.specs.declared.failure.Failure.{Failure}
use Rattle.text_commands.specs.Pairs.{Ends}
use Rattle.text_commands.specs.declared.runs.Pairs.{Pairs}
use Rattle.text_commands.proofs.PairLemmas.{at_first, ended_all, ended_notes, ended_other, ended_reading, ended_unequal, ended_writing}
use Rattle.text_commands.proofs.PairLemmas.{has_two, one_more_pair, has_other}
use Rattle.text_commands.proofs.runs.relate_all.Goals as goal

pub returns-in_err-found-clause-relates : goal.returns-in_err-found-clause-relates
returns-in_err-found-clause-relates g c known begins =
    let p = err_from_is_err_and c.from_residual.result c.from_residual.ensures.1 in
    subst (λ (r : Result Pairs Failure). Ends known r (g.S.Sink.taken c.args.sink.now) (g.S.Sink.taken c.loop-place.sink)) (sym (p.1 ∙ ap Err p.2))
    (ended_reading (c.loop-place.invariant.midway known begins) c.in_err-found.field-0.0 c.in_err-found.ensures.failure)

pub returns-then-not-found-clause-relates : goal.returns-then-not-found-clause-relates
returns-then-not-found-clause-relates g c known begins =
    ended_all (c.loop-place.invariant.midway known begins) c.next_record.new.reader (fields_of c.next_record.new.pair) c.ended.result
    (λ rest gives. rw c.if-not-found.true at (c.in_ok-found.ensures.takes rest gives)) c.ended.ensures

pub returns-then-fields-ne2-clause-relates : goal.returns-then-fields-ne2-clause-relates
returns-then-fields-ne2-clause-relates g c known begins =
    let fields = fields_of c.next_record.new.pair in
    ended_unequal (c.loop-place.invariant.midway known begins) c.next_record.new.reader fields
    (λ rest gives. rw c.if-not-found.false at (c.in_ok-found.ensures.takes rest gives)) c.unequal.result
    (has_other c.len-fields.result fields c.len-fields.ensures c.if-fields-ne2.true) c.unequal.ensures

pub returns-in_err-refused-clause-relates : goal.returns-in_err-refused-clause-relates
returns-in_err-refused-clause-relates g c known begins =
    let fields = fields_of c.next_record.new.pair in
    let p = err_from_is_err_and c.from_residual-in_err-refused.result c.from_residual-in_err-refused.ensures.1 in
    subst (λ (r : Result Pairs Failure). Ends known r (g.S.Sink.taken c.args.sink.now) (g.S.Sink.taken c.put_pair.new.sink)) (sym (p.1 ∙ ap Err p.2))
    (ended_writing (c.loop-place.invariant.midway known begins) c.next_record.new.reader fields
    (λ rest gives. rw c.if-not-found.false at (c.in_ok-found.ensures.takes rest gives)) _ c.in_err-refused.field-0.0
    (has_two c.len-fields.result fields c.len-fields.ensures c.if-fields-ne2.false) c.in_err-refused.ensures.failure)

pub loop-place-init : goal.loop-place-init
loop-place-init g c = record {
  steady = c.requires.steady;
  midway = λ known begins. at_first _ known c.args.records.now c.args.notes _ _ _ c.args.more.now c.requires.first begins;
  failures = refl;
  stays = λ is. is;
  closed = λ is. refl;
}

pub loop-place-preserved : goal.loop-place-preserved
loop-place-preserved g c = record {
  steady = c.in_ok-found.ensures.steady;
  midway = λ known begins.
      let fields = fields_of c.next_record.new.pair in
      one_more_pair (c.loop-place.invariant.midway known begins) c.next_record.new.reader fields
      (λ rest gives. rw c.if-not-found.false at (c.in_ok-found.ensures.takes rest gives)) c.in_ok-refused.refused
      c.either-some_refused.result _ c.note_pair-notes.result c.note_pair-notes.new.more
      (has_two c.len-fields.result fields c.len-fields.ensures c.if-fields-ne2.false) c.in_ok-refused.ensures.ok
      c.either-some_refused.ensures c.note_pair-notes.ensures.notes;
  failures = c.in_ok-refused.ensures.failures ∙ c.loop-place.invariant.failures;
  stays = λ is. c.note_pair-notes.ensures.stays (c.loop-place.invariant.stays is);
  closed = λ is. c.note_pair-notes.ensures.closed (c.loop-place.invariant.stays is) ∙ c.loop-place.invariant.closed is;
}

pub returns-clause-relates : goal.returns-clause-relates
returns-clause-relates g c known begins =
    ended_reading (c.loop-place.invariant.midway known begins) c.broken_off.result c.broken_off.ensures

pub returns-in_err-found-clause-notes : goal.returns-in_err-found-clause-notes
returns-in_err-found-clause-notes g c known begins = ended_notes (c.loop-place.invariant.midway known begins) _

pub returns-then-not-found-clause-notes : goal.returns-then-not-found-clause-notes
returns-then-not-found-clause-notes g c known begins = ended_notes (c.loop-place.invariant.midway known begins) _

pub returns-in_err-refused-clause-notes : goal.returns-in_err-refused-clause-notes
returns-in_err-refused-clause-notes g c known begins = ended_notes (c.loop-place.invariant.midway known begins) _

pub returns-clause-notes : goal.returns-clause-notes
returns-clause-notes g c known begins = ended_notes (c.loop-place.invariant.midway known begins) _

pub returns-then-fields-ne2-clause-notes : goal.returns-then-fields-ne2-clause-notes
returns-then-fields-ne2-clause-notes g c known begins =
    let fields = fields_of c.next_record.new.pair in
    ended_other (c.loop-place.invariant.midway known begins) c.next_record.new.reader fields
    (λ rest gives. rw c.if-not-found.false at (c.in_ok-found.ensures.takes rest gives)) c.unequal.result
    (has_other c.len-fields.result fields c.len-fields.ensures c.if-fields-ne2.true) c.unequal.ensures c.len-fields.result
    c.explain_unequal.new.more c.len-fields.ensures c.explain_unequal.ensures.closed c.explain_unequal.ensures.explains

pub returns-then-fields-ne2-clause-closed : goal.returns-then-fields-ne2-clause-closed
returns-then-fields-ne2-clause-closed g c is =
    c.explain_unequal.ensures.closed (c.loop-place.invariant.stays is) ∙ c.loop-place.invariant.closed is
