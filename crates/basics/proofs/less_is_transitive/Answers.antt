use Rattle.basics.proofs.Quotients.{trans_less}
use Rattle.basics.proofs.less_is_transitive.Goals as goal

pub returns : goal.returns
returns c = trans_less
