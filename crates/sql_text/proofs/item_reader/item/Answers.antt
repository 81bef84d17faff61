use Rattle.table_model.specs.QueryReading.{item}
use Rattle.sql_text.proofs.item_reader.item.Goals as goal

pub returns-then-calls-3 : goal.returns-then-calls-3
unfolding item
returns-then-calls-3 c =
    rw (
      ← c.place-at.ensures,
      ← c.calls.ensures,
      c.if-calls.false,
      ← c.calls-else-calls.ensures,
      c.if-calls-2.false,
      ← c.calls-else-calls-2.ensures,
      c.if-calls-3.true,
    ) c.emptiness_item.ensures

pub returns-else-calls-3 : goal.returns-else-calls-3
unfolding item
returns-else-calls-3 c =
    rw (← c.calls.ensures, c.if-calls.false, ← c.calls-else-calls.ensures, c.if-calls-2.false, ← c.calls-else-calls-2.ensures, c.if-calls-3.false) c.column_item.ensures
