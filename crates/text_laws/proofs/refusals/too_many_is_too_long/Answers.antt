use Rattle.text_laws.proofs.FullTexts.{too_many_is_too_long}
use Rattle.text_laws.proofs.refusals.too_many_is_too_long.Goals as goal

pub returns : goal.returns
returns c = too_many_is_too_long
