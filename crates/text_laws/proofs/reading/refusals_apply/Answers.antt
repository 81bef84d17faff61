use Rattle.text_laws.proofs.TextRefused.{refusals_apply}
use Rattle.text_laws.proofs.reading.refusals_apply.Goals as goal

pub returns : goal.returns
returns c = refusals_apply
