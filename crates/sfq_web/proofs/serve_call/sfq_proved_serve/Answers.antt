-- What is handed out is what came of the words, if the room is enough for it or not.
use Rattle.std.proofs.Common.{inl, inr}
use Rattle.sfq_web.proofs.ServingFacts.{given_path, given_texts, misused_texts}
use Rattle.sfq_web.proofs.serve_call.sfq_proved_serve.Goals as goal

pub returns-in-Ok-Some-Done-clause-served : goal.returns-in-Ok-Some-Done-clause-served
returns-in-Ok-Some-Done-clause-served c = λ done.
    given_texts c.args.handed.now c.in-Ok-Some-Done.written c.args.room.now c.hand_out_texts.new.room c.hand_out_texts.new.said _
    (rw (c.in-Ok-Some-Done.field-0-is, c.in-Ok-Some-Done.field-0-0-is) at c.in-Ok-Some-Done.ensures.served)
    (c.hand_out_texts.ensures.texts done)

pub returns-in-Ok-Some-Done-clause-size : goal.returns-in-Ok-Some-Done-clause-size
returns-in-Ok-Some-Done-clause-size c = λ small. inl
    (given_texts c.args.handed.now c.in-Ok-Some-Done.written c.args.room.now c.hand_out_texts.new.room c.hand_out_texts.new.said _
    (rw (c.in-Ok-Some-Done.field-0-is, c.in-Ok-Some-Done.field-0-0-is) at c.in-Ok-Some-Done.ensures.served)
    (c.hand_out_texts.ensures.size small))

pub returns-in-Ok-Some-Misused-clause-size : goal.returns-in-Ok-Some-Misused-clause-size
returns-in-Ok-Some-Misused-clause-size c = λ small. inr (inl
    (misused_texts c.args.handed.now c.in-Ok-Some-Misused.written c.args.room.now
    c.hand_out_texts-in-Ok-Some-Misused.new.room c.hand_out_texts-in-Ok-Some-Misused.new.said _
    (rw (c.in-Ok-Some-Misused.field-0-is, c.in-Ok-Some-Misused.field-0-0-is) at c.in-Ok-Some-Misused.ensures.served)
    (c.hand_out_texts-in-Ok-Some-Misused.ensures.size small)))

pub returns-in-Ok-Some-Missing-clause-missing : goal.returns-in-Ok-Some-Missing-clause-missing
returns-in-Ok-Some-Missing-clause-missing c = λ missing.
    given_path c.args.handed.now c.in-Ok-Some-Missing.missed c.args.room.now c.hand_out_path.new.room c.hand_out_path.new.said _
    (rw (c.in-Ok-Some-Missing.field-0-is, c.in-Ok-Some-Missing.field-0-0-is) at c.in-Ok-Some-Missing.ensures.served)
    (c.hand_out_path.ensures.path missing)

pub returns-in-Ok-Some-Missing-clause-size : goal.returns-in-Ok-Some-Missing-clause-size
returns-in-Ok-Some-Missing-clause-size c = λ small. inr (inr
    (given_path c.args.handed.now c.in-Ok-Some-Missing.missed c.args.room.now c.hand_out_path.new.room c.hand_out_path.new.said _
    (rw (c.in-Ok-Some-Missing.field-0-is, c.in-Ok-Some-Missing.field-0-0-is) at c.in-Ok-Some-Missing.ensures.served)
    (c.hand_out_path.ensures.size small)))
