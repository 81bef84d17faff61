use Rattle.basics.proofs.IntRing.{associates}
use Rattle.basics.proofs.product_associates.Goals as goal

pub returns : goal.returns
returns c = associates
