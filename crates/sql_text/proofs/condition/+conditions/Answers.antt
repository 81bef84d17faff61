use Rattle.std.proofs.Common.{◌≢◌, ◌+◌, ◌-◌, arith, rules, sym, ◌∙◌}
use Rattle.std.proofs.lemmas.Grind.{common_steps}
use Rattle.table_model.specs.declared.faults.QueryFault.TheVariants as fault
use Rattle.table_model.specs.declared.tokens.TokenKind.TheVariants as k
use Rattle.table_model.specs.Parsers.{parts_from}
use Rattle.table_model.specs.QueryReading.{conjunction, negation}
use Rattle.sql_text.proofs.Counts.{one_turn, one_level}
use Rattle.sql_text.proofs.Passing.{part_fails, part_follows, opposite_below, group_below, predicate_below}
use Rattle.sql_text.proofs.condition.+conditions.Goals as goal

pub conjuncts-returns-in_err-keep-clause-ok : goal.conjuncts-returns-in_err-keep-clause-ok
conjuncts-returns-in_err-keep-clause-ok t c =
    let e = one_turn (λ n. parts_from fault.Syntax k.And (negation c.args.levels) n c.loop-turn.parts c.loop-turn.tokens) _ c.loop-turn._turn c.loop-turn-test.true c.loop-turn.invariant in
    let f = part_fails k.And (negation c.args.levels) (c.count-turn-end.result - (c.loop-turn._turn + 1)) c.loop-turn.parts c.keep.new.parts c.loop-turn.tokens c.negation.new.tokens c.negation.result c.keep.result _ c.negation.ensures c.keep.ensures.ok c.keep.ensures.err c.in_err-keep.was in
    let said = λ (some : c.in_err-keep.field-0.0 ≢ fault.OutOfMemory). e ∙ f some in
    rw c.in_ok-parts.was (first_of (search rules, grind (arith, common_steps)))

pub conjuncts-loop-turn-preserved : goal.conjuncts-loop-turn-preserved
conjuncts-loop-turn-preserved t c =
    one_turn (λ n. parts_from fault.Syntax k.And (negation c.args.levels) n c.loop-turn.parts c.loop-turn.tokens) _ c.loop-turn._turn c.loop-turn-test.true c.loop-turn.invariant
    ∙ part_follows k.And (negation c.args.levels) (c.count-turn-end.result - (c.loop-turn._turn + 1)) c.loop-turn.parts c.keep.new.parts c.loop-turn.tokens c.negation.new.tokens c.eat.new.self c.negation.result c.keep.result _ c.negation.ensures c.keep.ensures.ok c.keep.ensures.err c.in_ok-keep.was (sym c.eat.ensures.found ∙ c.if-not-eat.false) c.eat.ensures.after

pub disjuncts-returns-in_err-keep-clause-ok : goal.disjuncts-returns-in_err-keep-clause-ok
disjuncts-returns-in_err-keep-clause-ok t c =
    let e = one_turn (λ n. parts_from fault.Syntax k.Or (conjunction (negation c.args.levels)) n c.loop-turn.parts c.loop-turn.tokens) _ c.loop-turn._turn c.loop-turn-test.true c.loop-turn.invariant in
    let f = part_fails k.Or (conjunction (negation c.args.levels)) (c.count-turn-end.result - (c.loop-turn._turn + 1)) c.loop-turn.parts c.keep.new.parts c.loop-turn.tokens c.conjunction.new.tokens c.conjunction.result c.keep.result _ c.conjunction.ensures c.keep.ensures.ok c.keep.ensures.err c.in_err-keep.was in
    let said = λ (some : c.in_err-keep.field-0.0 ≢ fault.OutOfMemory). e ∙ f some in
    rw c.in_ok-parts.was (first_of (search rules, grind (arith, common_steps)))

pub disjuncts-loop-turn-preserved : goal.disjuncts-loop-turn-preserved
disjuncts-loop-turn-preserved t c =
    one_turn (λ n. parts_from fault.Syntax k.Or (conjunction (negation c.args.levels)) n c.loop-turn.parts c.loop-turn.tokens) _ c.loop-turn._turn c.loop-turn-test.true c.loop-turn.invariant
    ∙ part_follows k.Or (conjunction (negation c.args.levels)) (c.count-turn-end.result - (c.loop-turn._turn + 1)) c.loop-turn.parts c.keep.new.parts c.loop-turn.tokens c.conjunction.new.tokens c.eat.new.self c.conjunction.result c.keep.result _ c.conjunction.ensures c.keep.ensures.ok c.keep.ensures.err c.in_ok-keep.was (sym c.eat.ensures.found ∙ c.if-not-eat.false) c.eat.ensures.after

pub negation-returns-then-eat : goal.negation-returns-then-eat
negation-returns-then-eat t c =
    rw (one_level (λ n. negation n c.args.tokens.now) c.args.levels (omega arith))
    (opposite_below (c.args.levels - 1) c.args.tokens.now c.eat.new.self _ _ (sym c.eat.ensures.found ∙ c.if-eat.true) c.eat.ensures.after c.opposite.ensures)

pub negation-returns-then-eat-2 : goal.negation-returns-then-eat-2
negation-returns-then-eat-2 t c =
    rw (one_level (λ n. negation n c.args.tokens.now) c.args.levels (omega arith))
    (group_below (c.args.levels - 1) c.args.tokens.now c.eat.new.self c.eat-else-eat.new.self _ _ (sym c.eat.ensures.found ∙ c.if-eat.false) c.eat.ensures.after (sym c.eat-else-eat.ensures.found ∙ c.if-eat-2.true) c.eat-else-eat.ensures.after c.group.ensures)

pub negation-returns-else-eat-2 : goal.negation-returns-else-eat-2
negation-returns-else-eat-2 t c =
    rw (one_level (λ n. negation n c.args.tokens.now) c.args.levels (omega arith))
    (predicate_below (c.args.levels - 1) c.args.tokens.now c.eat.new.self c.eat-else-eat.new.self _ _ (sym c.eat.ensures.found ∙ c.if-eat.false) c.eat.ensures.after (sym c.eat-else-eat.ensures.found ∙ c.if-eat-2.false) c.eat-else-eat.ensures.after c.predicate.ensures)
