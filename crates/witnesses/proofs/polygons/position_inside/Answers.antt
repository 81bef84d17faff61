use Rattle.std.proofs.Common.{sym, ◌∙◌}
use Rattle.witnesses.proofs.PartFacts.{inside_first}
use Rattle.witnesses.proofs.polygons.position_inside.Goals as goal

pub returns-else-is_inside_ring-clause-none : goal.returns-else-is_inside_ring-clause-none
returns-else-is_inside_ring-clause-none c = inside_first c.args.outer.now c.args.ring.now c.in_ok-at.at (sym c.in_ok-at.ensures) ∙ (sym c.is_inside_ring.ensures ∙ c.if-is_inside_ring.false)
