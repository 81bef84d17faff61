use Rattle.table_model.proofs.PlaceFacts.{meant_gives_limited}
use Rattle.table_model.proofs.place_laws.meant_gives_limited.Goals as goal

pub returns : goal.returns
returns g c = meant_gives_limited
