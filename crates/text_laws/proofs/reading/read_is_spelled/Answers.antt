use Rattle.text_laws.proofs.TextSound.{read_is_spelled}
use Rattle.text_laws.proofs.reading.read_is_spelled.Goals as goal

pub returns : goal.returns
returns c = read_is_spelled
