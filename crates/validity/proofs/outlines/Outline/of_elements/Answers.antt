-- One polygon more is taken.
use Rattle.std.proofs.Common.{rules, arith}
use Rattle.std.proofs.lemmas.Grind.{common_steps}
use Rattle.geometry_model.specs.Geometries.{elements}
use Rattle.validity.proofs.OutlineFacts.{outlined_next}
use Rattle.validity.proofs.outlines.Outline.of_elements.Goals as goal

pub loop-element-preserved : goal.loop-element-preserved
loop-element-preserved c =
    outlined_next (elements c.args.geometry) c.loop-element.element c.loop-element.runs c.in_ok-runs.runs c.loop-element.element_ends.items c.loop-element.ring_ends.items
    c.push.new.self.items c.push-in-loop-element.new.self.items c.element.result.now c.element.ensures c.loop-element.invariant
    (first_of (search rules, grind (arith, common_steps))) (first_of (search rules, grind (arith, common_steps))) (first_of (search rules, grind (arith, common_steps)))
