use Rattle.std.proofs.Common.{rules, arith}
use Rattle.std.proofs.lemmas.Grind.{common_steps}
use Rattle.table_model.specs.SchemaReading.{tables_from}
use Rattle.sql_text.proofs.Counts.{one_turn}
use Rattle.sql_text.proofs.schema_reader.all_tables.Goals as goal
use Rattle.table_model.specs.GeometryColumns.{shape_named}

pub returns-in_err-table : goal.returns-in_err-table
unfolding tables_from
returns-in_err-table c =
    let e = one_turn (λ n. tables_from shape_named n c.loop-turn.tables.items c.loop-turn.tokens) _ c.loop-turn._turn c.loop-turn-test.true c.loop-turn.invariant in
    first_of (search rules, grind (arith, common_steps))

pub loop-turn-preserved : goal.loop-turn-preserved
unfolding tables_from
loop-turn-preserved c =
    let e = one_turn (λ n. tables_from shape_named n c.loop-turn.tables.items c.loop-turn.tokens) _ c.loop-turn._turn c.loop-turn-test.true c.loop-turn.invariant in
    first_of (search rules, grind (arith, common_steps))

pub returns-then-not-goes_on : goal.returns-then-not-goes_on
unfolding tables_from
returns-then-not-goes_on c =
    let e = one_turn (λ n. tables_from shape_named n c.loop-turn.tables.items c.loop-turn.tokens) _ c.loop-turn._turn c.loop-turn-test.true c.loop-turn.invariant in
    first_of (search rules, grind (arith, common_steps))
