use Rattle.text_laws.proofs.TextPrinted.{canonical_text_spells}
use Rattle.text_laws.proofs.reading.canonical_text_spells.Goals as goal

pub returns : goal.returns
returns c = canonical_text_spells
