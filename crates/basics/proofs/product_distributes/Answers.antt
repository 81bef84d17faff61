use Rattle.basics.proofs.IntRing.{distributes}
use Rattle.basics.proofs.product_distributes.Goals as goal

pub returns : goal.returns
returns c = distributes
