use Rattle.std.proofs.Common.{◌≡◌, subst, length, arith, rules}
use Rattle.std.proofs.lemmas.Grind.{common_steps}
use Rattle.geometry_model.specs.Geometries.{lines}
use Rattle.edge_boxes.specs.BoxLists.{BoxesOf}
use Rattle.validity.proofs.PartFacts.{only_run}
use Rattle.validity.proofs.outlines.Outline.meets_itself.Goals as goal

pub is_not_simple_by-requires : goal.is_not_simple_by-requires
is_not_simple_by-requires c =
    let one : length (lines c.args.self.now) ≡ 1 = first_of (search rules, grind (arith, common_steps)) in
    subst (BoxesOf c.args.boxes.now) (only_run (lines c.args.self.now) c.args.ring c.line_edges-edges.result.now one c.line_edges-edges.ensures) c.requires.boxes
