use Rattle.std.proofs.Common.{sym, ◌∙◌}
use Rattle.witnesses.proofs.PartFacts.{polygon_first}
use Rattle.witnesses.proofs.elements.polygon_inside.Goals as goal

pub returns-else-is_inside-clause-none : goal.returns-else-is_inside-clause-none
returns-else-is_inside-clause-none c = polygon_first c.args.other.now c.args.polygon.now c.in_ok-first.field-0.now c.in_ok-at.at (sym c.in_ok-first.ensures.value) (sym c.in_ok-at.ensures) ∙ (sym c.is_inside.ensures ∙ c.if-is_inside.false)
