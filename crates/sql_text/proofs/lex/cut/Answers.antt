use Rattle.std.proofs.Common.{length, ap, length-drop, arith, rules}
use Rattle.std.proofs.lemmas.Grind.{common_steps}
use Rattle.std.proofs.lemmas.List.{take_rest}
use Rattle.table_model.specs.Tokens.{tokens}
use Rattle.sql_text.proofs.Lexing.{one_more, none_more}
use Rattle.sql_text.proofs.lex.cut.Goals as goal
use Rattle.sql_text.proofs.lex.cut.Goals.{in-Some+in_ok-push+else-same_kind, in_default}

pub loop-at-init : goal.loop-at-init
unfolding tokens
loop-at-init c = first_of (search rules, grind (arith, common_steps))

pub loop-at-preserved : goal.loop-at-preserved
loop-at-preserved c = record {
  said = elim c.match-found.branch [
    | in-Some+in_ok-push+else-same_kind w ↦
        one_more c.args.strings c.loop-at.at c.args.text.now _ c.front-found.result w.in-Some.kind c.loop-at.tokens c.match-found.tokens _
        (take_rest c.args.text.now c.loop-at.at) c.front-found.ensures.value c.loop-at-test.true c.front-found.ensures.within.0 c.front-found.ensures.within.1
        w.in-Some.is (cc) (cc (w.in_ok-push.ensures.ok, w.new-text.ensures, w.text_of.ensures)) c.loop-at.invariant.said
    | in_default w ↦
        rw w.tokens-is (none_more c.args.strings c.loop-at.at c.args.text.now _ c.front-found.result c.loop-at.tokens _
        (take_rest c.args.text.now c.loop-at.at) c.front-found.ensures.value c.loop-at-test.true c.front-found.ensures.within.0 c.front-found.ensures.within.1
        w.in_default.is c.loop-at.invariant.said)
  ];
  within = omega (arith, length-drop c.loop-at.at c.args.text.now, ap length (take_rest c.args.text.now c.loop-at.at));
}
