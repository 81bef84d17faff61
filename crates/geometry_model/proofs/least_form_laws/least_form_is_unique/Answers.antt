use Rattle.geometry_model.proofs.LeastFormFacts.{least_is_unique}
use Rattle.geometry_model.proofs.least_form_laws.least_form_is_unique.Goals as goal

pub returns : goal.returns
returns c = least_is_unique
