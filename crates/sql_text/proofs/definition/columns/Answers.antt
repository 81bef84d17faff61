use Rattle.std.proofs.Common.{rules, arith}
use Rattle.std.proofs.lemmas.Grind.{common_steps}
use Rattle.table_model.specs.SchemaReading.{columns_from}
use Rattle.sql_text.proofs.Counts.{one_turn}
use Rattle.sql_text.proofs.definition.columns.Goals as goal
use Rattle.table_model.specs.GeometryColumns.{shape_named}

pub returns-in_err-column : goal.returns-in_err-column
unfolding columns_from
returns-in_err-column c =
    let e = one_turn (λ n. columns_from shape_named n c.loop-turn.columns c.loop-turn.key c.loop-turn.tokens) _ c.loop-turn._turn c.loop-turn-test.true c.loop-turn.invariant in
    first_of (search rules, grind (arith, common_steps))

pub loop-turn-preserved : goal.loop-turn-preserved
unfolding columns_from
loop-turn-preserved c =
    let e = one_turn (λ n. columns_from shape_named n c.loop-turn.columns c.loop-turn.key c.loop-turn.tokens) _ c.loop-turn._turn c.loop-turn-test.true c.loop-turn.invariant in
    first_of (search rules, grind (arith, common_steps))
