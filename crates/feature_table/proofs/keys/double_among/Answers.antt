use Rattle.std.proofs.Common.{sym}
use Rattle.feature_table.proofs.AscentLemmas.{no_double}
use Rattle.feature_table.specs.declared.keys.KeyPlace.{KeyPlace}
use Rattle.feature_table.proofs.keys.double_among.Goals as goal

pub returns-then-keyed_ascend : goal.returns-then-keyed_ascend
returns-then-keyed_ascend c =
    let up = rw c.if-keyed_ascend.true at c.keyed_ascend.ensures in
    sym (no_double (λ (k : KeyPlace). k.number) c.args.keys.now c.args.keyed.now c.requires up)
