use Rattle.std.proofs.Common.{Some}
use Rattle.table_model.specs.QueryReading.{condition, where_condition}
use Rattle.sql_text.proofs.QueryParts.{mapped_reads}
use Rattle.sql_text.proofs.select_reader.where_condition.Goals as goal

pub returns-then-eat : goal.returns-then-eat
unfolding where_condition
returns-then-eat c =
    rw (c.present.ensures, ← c.eat.ensures.found, c.if-eat.true, ← c.eat.ensures.after) (mapped_reads Some (condition c.eat.new.self) c.condition.result c.condition.new.tokens c.condition.ensures)
