use Rattle.library_calls.proofs.AsTexts.{tests_are_limits}
use Rattle.library_calls.proofs.array_laws.tests_are_limits.Goals as goal

pub returns : goal.returns
returns c = tests_are_limits
