use Rattle.basics.proofs.Signs.{zero_product as cases}
use Rattle.basics.proofs.zero_product.Goals as goal

pub returns : goal.returns
returns c = cases
