use Rattle.geometry_model.proofs.LeastFormFacts.{IsGcd-gcd}
use Rattle.geometry_model.proofs.least_form_laws.gcd_is_greatest.Goals as goal

pub returns : goal.returns
returns c = IsGcd-gcd
