use Rattle.witnesses.proofs.PartFacts.{closed_none}
use Rattle.witnesses.proofs.parts.open_ring.Goals as goal

pub returns-then-eq-clause-none : goal.returns-then-eq-clause-none
returns-then-eq-clause-none c = closed_none c.args.geometry.now c.args.number c.in_ok-ring.field-0.now c.positions-positions.result.now c.in_ok-first.field-0.now c.in_ok-last.field-0.now c.eq.result c.in_ok-ring.ensures.some c.positions-positions.ensures.positions
    c.in_ok-first.ensures.value c.in_ok-last.ensures.value c.eq.ensures.both c.if-eq.true
