use Rattle.wkt.proofs.KeptFacts.{spelled_is_kept}
use Rattle.wkt.proofs.kept_laws.spelled_is_kept.Goals as goal

pub returns : goal.returns
returns c = spelled_is_kept
