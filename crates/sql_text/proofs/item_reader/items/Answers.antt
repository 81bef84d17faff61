use Rattle.std.proofs.Common.{rules, arith}
use Rattle.std.proofs.lemmas.Grind.{common_steps}
use Rattle.table_model.specs.declared.faults.QueryFault.TheVariants as fault
use Rattle.table_model.specs.declared.tokens.TokenKind.TheVariants as k
use Rattle.table_model.specs.Parsers.{parts_from}
use Rattle.table_model.specs.QueryReading.{item}
use Rattle.sql_text.proofs.Counts.{one_turn}
use Rattle.sql_text.proofs.item_reader.items.Goals as goal

pub returns-in_err-item : goal.returns-in_err-item
unfolding parts_from
returns-in_err-item c =
    let e = one_turn (λ n. parts_from fault.Syntax k.Comma item n c.loop-turn.items c.loop-turn.tokens) _ c.loop-turn._turn c.loop-turn-test.true c.loop-turn.invariant in
    first_of (search rules, grind (arith, common_steps))

pub loop-turn-preserved : goal.loop-turn-preserved
unfolding parts_from
loop-turn-preserved c =
    let e = one_turn (λ n. parts_from fault.Syntax k.Comma item n c.loop-turn.items c.loop-turn.tokens) _ c.loop-turn._turn c.loop-turn-test.true c.loop-turn.invariant in
    first_of (search rules, grind (arith, common_steps))
