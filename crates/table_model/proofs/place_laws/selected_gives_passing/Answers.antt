use Rattle.table_model.proofs.PlaceFacts.{selected_gives_passing}
use Rattle.table_model.proofs.place_laws.selected_gives_passing.Goals as goal

pub returns : goal.returns
returns g c = selected_gives_passing
