use Rattle.std.proofs.Common.{rules}
use Rattle.std.specs.Prelude.{int_lt}
use Rattle.std.proofs.lemmas.Fn.{always_returns_same}
use Rattle.feature_table.proofs.keys.ascend.Goals as goal

pub returns : goal.returns
returns c = c.is_sorted_by.ensures.cases int_lt (always_returns_same _ _ _ (λ a r q k. search rules))
