use Rattle.basics.proofs.Quotients.{trans_at_most}
use Rattle.basics.proofs.at_most_is_transitive.Goals as goal

pub returns : goal.returns
returns c = trans_at_most
