use Rattle.std.proofs.Common.{refl, ◌∙◌, rules}
use Rattle.std.proofs.lemmas.Int.{to_z-of_z}
use mir.Syntax.{w64}
use mir.Val.{SFits}
use Rattle.edge_boxes.proofs.StripSums.{is_wider}
use Rattle.edge_boxes.proofs.strips.Strip.widened.Goals as goal

pub returns-clause-wider : goal.returns-clause-wider
returns-clause-wider c =
    let f1 : SFits w64 c.min.result = record { sfits = c.min.type_inv } in
    let f2 : SFits w64 c.max.result = record { sfits = c.max.type_inv } in
    let f3 : SFits w64 c.args.self.least = search rules in
    let f4 : SFits w64 c.args.self.greatest = search rules in
    let f5 : SFits w64 c.rise-rise.result = record { sfits = c.rise-rise.type_inv } in
    is_wider c.args.self (record { direction = c.args.self.direction; least = _; greatest = _ }) c.rise-rise.result refl
    (to_z-of_z w64 c.min.result f1 ∙ simp to_z-of_z at c.min.ensures.value) (to_z-of_z w64 c.max.result f2 ∙ simp to_z-of_z at c.max.ensures.value)
