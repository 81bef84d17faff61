use Rattle.sql_text.proofs.operand_reader.other_operand.Goals as goal

pub returns-then-calls-2 : goal.returns-then-calls-2
returns-then-calls-2 c =
    rw (← c.place-at.ensures, ← c.calls.ensures, c.if-calls.false, ← c.calls-else-calls.ensures, c.if-calls-2.true) c.dimension_operand.ensures

pub returns-else-calls-2 : goal.returns-else-calls-2
returns-else-calls-2 c =
    rw (← c.calls.ensures, c.if-calls.false, ← c.calls-else-calls.ensures, c.if-calls-2.false) c.column_operand.ensures
