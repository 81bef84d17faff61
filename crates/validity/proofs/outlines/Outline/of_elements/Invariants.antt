-- The polygons before the next are taken.
use Rattle.std.proofs.Common.{take}
use Rattle.geometry_model.specs.Geometries.{elements}
use Rattle.validity.proofs.OutlineFacts.{Outlined}
use Rattle.validity.proofs.outlines.Outline.of_elements.Given as goal

abbrev pub invariant-loop-element : goal.invariant-loop-element
invariant-loop-element l = Outlined (take l.element (elements l.fn.geometry)) l.runs l.element_ends.items l.ring_ends.items
