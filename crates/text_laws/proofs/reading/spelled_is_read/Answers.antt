use Rattle.text_laws.proofs.TextComplete.{spelled_is_read}
use Rattle.text_laws.proofs.reading.spelled_is_read.Goals as goal

pub returns : goal.returns
returns c = spelled_is_read
