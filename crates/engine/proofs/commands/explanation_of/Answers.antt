-- The explanation is of the line that was found.
use Rattle.std.proofs.Common.{subst}
use Rattle.explanations.specs.Tables.{IsTableExplanation}
use Rattle.engine.proofs.commands.explanation_of.Goals as goal

pub returns : goal.returns
returns c =
    subst (λ line. IsTableExplanation c.args.text.now c.args.fault line c.in-Ok.explanation.items) c.as_slice.ensures.value c.in-Ok.ensures
