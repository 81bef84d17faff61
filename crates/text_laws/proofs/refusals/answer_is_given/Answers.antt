use Rattle.text_laws.proofs.RefusedTexts.{answer_is_given}
use Rattle.text_laws.proofs.refusals.answer_is_given.Goals as goal

pub returns : goal.returns
returns c = answer_is_given
