use Rattle.table_model.proofs.PlaceFacts.{up_to_passing_is_front}
use Rattle.table_model.proofs.place_laws.up_to_passing_is_front.Goals as goal

pub returns : goal.returns
returns g c = up_to_passing_is_front
