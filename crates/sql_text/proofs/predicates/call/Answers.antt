use Rattle.sql_text.proofs.Passing.{call_gives}
use Rattle.sql_text.proofs.predicates.call.Goals as goal

pub returns : goal.returns
returns c =
    call_gives c.args.function c.place-at.result c.args.tokens.now c.advance.new.self c.expect.new.tokens c.arguments-arguments.new.tokens c.tested.new.tokens _ c.arguments-arguments.result c.tested.result c.given.result c.place-at.ensures c.advance.ensures c.in_ok-expect.ensures.reads c.arguments-arguments.ensures c.tested.ensures.ok c.tested.ensures.err c.given.ensures.ok c.given.ensures.err
