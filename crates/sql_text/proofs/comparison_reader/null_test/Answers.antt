use Rattle.std.proofs.Common.{refl}
use Rattle.table_model.specs.QueryReading.{null_test}
use Rattle.table_model.specs.declared.queries.WrittenCond.TheVariants as tree
use Rattle.sql_text.proofs.Passing.{given_reads}
use Rattle.sql_text.proofs.comparison_reader.null_test.Goals as goal

pub returns-then-is_negated : goal.returns-then-is_negated
unfolding null_test
returns-then-is_negated g c =
    given_reads (null_test c.args.left c.args.tokens.now) (tree.Not (tree.IsNull c.args.left)) c.negated.result c.expect.new.tokens c.negated.ensures.ok
    (rw (← c.eat-is_negated.ensures.found, c.if-is_negated.true, ← c.eat-is_negated.ensures.after, c.in_ok-expect.ensures.reads) refl)
