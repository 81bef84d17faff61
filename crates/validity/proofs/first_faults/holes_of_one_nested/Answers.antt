use Rattle.std.proofs.Common.{◌∙◌, sym, ap, ◌+◌, map, length, arith, Option}
use Rattle.geometry_model.specs.Envelopes.{Envelope}
use Rattle.geometry_model.specs.FirstFaults.{has_fault, numbers}
use Rattle.geometry_model.specs.declared.validity_faults.ValidityFault.TheVariants as validity
use Rattle.validity.proofs.NearNumbers.{rings_cover}
use Rattle.validity.proofs.Finding.{first_among, further_among}
use Rattle.validity.proofs.first_faults.holes_of_one_nested.Goals as goal

pub returns-then-is_some : goal.returns-then-is_some
returns-then-is_some c = sym (c.loop-hole.invariant ∙ first_among (has_fault c.args.outline.now) (λ i. map (validity.HolesNested i) (numbers (i + 1) c.args.end)) c.loop-hole.hole c.args.end c.hole_nested_near-fault.result c.loop-hole-test.true c.hole_nested_near-fault.ensures (sym c.is_some.ensures ∙ c.if-is_some.true))

pub loop-hole-preserved : goal.loop-hole-preserved
loop-hole-preserved c = c.loop-hole.invariant ∙ further_among (has_fault c.args.outline.now) (λ i. map (validity.HolesNested i) (numbers (i + 1) c.args.end)) c.loop-hole.hole c.args.end c.hole_nested_near-fault.result c.loop-hole-test.true c.hole_nested_near-fault.ensures (sym c.is_some.ensures ∙ c.if-is_some.false)

pub near-requires : goal.near-requires
near-requires c = omega (arith, c.loop-hole-test.true, rings_cover c.args.outline.now c.args.first c.args.end c.requires.are, ap (length {A = Option Envelope}) c.requires.rings)
