-- The matrix of the two texts is the line of the pair, and so is the failure of relating them.
use Rattle.std.proofs.Common.{Ok, false, refl}
use Rattle.csv.specs.Records.{fields_of}
use Rattle.text_commands.proofs.PairLemmas.{line_put, refusal_front, refusal_put}
use Rattle.text_commands.proofs.pair_lines.put_pair.Goals as goal

pub returns-in-Ok-put_matrix-clause-ok : goal.returns-in-Ok-put_matrix-clause-ok
returns-in-Ok-put_matrix-clause-ok g c matrix gives =
    line_put matrix (fields_of c.args.pair.now) _ _ c.field_at.ensures c.field_at-2.ensures (Ok c.in-Ok.matrix) false _ _
    (c.in-Ok.ensures.ok matrix gives) refl c.in-Ok-put_matrix.ensures.ok

pub returns-in-Err-clause-ok : goal.returns-in-Err-clause-ok
returns-in-Err-clause-ok g c matrix gives =
    refusal_put matrix (fields_of c.args.pair.now) _ _ c.field_at.ensures c.field_at-2.ensures c.in-Err.failure
    (c.in-Err.ensures.failure matrix) _ _ _ _ c.put_refusal.result c.put_refusal.ensures

pub returns-in-Err-clause-failure : goal.returns-in-Err-clause-failure
returns-in-Err-clause-failure g c matrix gives =
    refusal_front matrix (fields_of c.args.pair.now) _ _ c.field_at.ensures c.field_at-2.ensures c.in-Err.failure
    (c.in-Err.ensures.failure matrix) _ _ _ _ c.put_refusal.result c.put_refusal.ensures
