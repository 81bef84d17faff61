use Rattle.text_laws.proofs.RefusedTexts.{refusal_is_returned}
use Rattle.text_laws.proofs.refusals.refusal_is_returned.Goals as goal

pub returns : goal.returns
returns c = refusal_is_returned
