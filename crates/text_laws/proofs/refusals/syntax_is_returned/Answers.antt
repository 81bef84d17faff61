use Rattle.text_laws.proofs.RefusedTexts.{syntax_is_returned}
use Rattle.text_laws.proofs.refusals.syntax_is_returned.Goals as goal

pub returns : goal.returns
returns c = syntax_is_returned
