use Rattle.text_laws.specs.ReadingLaws.{CanonicalTextIsRead}
use Rattle.geometry_model.specs.CanonicalText.{canonical_text}
use Rattle.text_laws.proofs.TextComplete.{spelled_is_read}
use Rattle.text_laws.proofs.TextPrinted.{canonical_text_spells}
use Rattle.text_laws.proofs.TextSound.{read_is_spelled}
use Rattle.text_laws.proofs.reading.canonical_text_is_read.Goals as goal

again : CanonicalTextIsRead
again text g e = spelled_is_read (canonical_text g) g (canonical_text_spells text g (read_is_spelled text g e))

pub returns : goal.returns
returns c = again
