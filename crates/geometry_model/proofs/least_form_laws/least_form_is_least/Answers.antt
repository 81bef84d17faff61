use Rattle.geometry_model.proofs.LeastFormFacts.{least_is_point, least_is_same, least_is_least}
use Rattle.geometry_model.proofs.least_form_laws.least_form_is_least.Goals as goal

pub returns : goal.returns
returns c = λ p h. (least_is_point p h, least_is_same p, least_is_least p h)
