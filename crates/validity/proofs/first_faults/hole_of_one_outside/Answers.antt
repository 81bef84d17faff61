use Rattle.std.proofs.Common.{◌∙◌, sym, arith}
use Rattle.geometry_model.specs.FirstFaults.{has_fault}
use Rattle.geometry_model.specs.declared.validity_faults.ValidityFault.TheVariants as validity
use Rattle.validity.proofs.Finding.{found_here, passed_here}
use Rattle.validity.proofs.RingNumbers.{hole_outside_at, lines_cover, first_below}
use Rattle.validity.proofs.first_faults.hole_of_one_outside.Goals as goal

pub is_outside_ring-requires-clause-outer : goal.is_outside_ring-requires-clause-outer
is_outside_ring-requires-clause-outer c = omega (arith, lines_cover c.args.outline.now c.args.first c.args.end c.requires, c.loop-hole-test.true)

pub is_outside_ring-requires-clause-ring : goal.is_outside_ring-requires-clause-ring
is_outside_ring-requires-clause-ring c = omega (arith, lines_cover c.args.outline.now c.args.first c.args.end c.requires, c.loop-hole-test.true)

pub returns-then-is_outside_ring : goal.returns-then-is_outside_ring
returns-then-is_outside_ring c = sym (c.loop-hole.invariant ∙ found_here (has_fault c.args.outline.now) validity.HoleOutside c.loop-hole.hole c.args.end c.loop-hole-test.true
    (hole_outside_at c.args.outline.now c.args.first c.args.end c.loop-hole.hole c.requires (omega arith) c.loop-hole-test.true ∙ (sym c.is_outside_ring.ensures ∙ c.if-is_outside_ring.true)))

pub loop-hole-preserved : goal.loop-hole-preserved
loop-hole-preserved c = c.loop-hole.invariant ∙ passed_here (has_fault c.args.outline.now) validity.HoleOutside c.loop-hole.hole c.args.end c.loop-hole-test.true
    (hole_outside_at c.args.outline.now c.args.first c.args.end c.loop-hole.hole c.requires (omega arith) c.loop-hole-test.true ∙ (sym c.is_outside_ring.ensures ∙ c.if-is_outside_ring.false))

pub line_boxes-requires : goal.line_boxes-requires
line_boxes-requires c = omega (arith, lines_cover c.args.outline.now c.args.first c.args.end c.requires, first_below c.args.outline.now c.args.first c.args.end c.requires, c.if-first-end.false)
