use Rattle.basics.proofs.Tests.{cmp_scaled}
use Rattle.basics.proofs.sign_is_kept.Goals as goal

pub returns : goal.returns
returns c = cmp_scaled
