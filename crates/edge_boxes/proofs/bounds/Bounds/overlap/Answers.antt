use Rattle.std.proofs.Common.{rules}
use Rattle.std.proofs.lemmas.Int.{to_z-of_z}
use mir.Syntax.{w32}
use mir.Val.{SFits}
use Rattle.edge_boxes.proofs.bounds.Bounds.overlap.Goals as goal

pub returns : goal.returns
returns c =
    let a1 : SFits w32 c.self.inside.least_x = search rules in
    let a2 : SFits w32 c.self.inside.greatest_x = search rules in
    let a3 : SFits w32 c.self.inside.least_y = search rules in
    let a4 : SFits w32 c.self.inside.greatest_y = search rules in
    let b1 : SFits w32 c.other.inside.least_x = search rules in
    let b2 : SFits w32 c.other.inside.greatest_x = search rules in
    let b3 : SFits w32 c.other.inside.least_y = search rules in
    let b4 : SFits w32 c.other.inside.greatest_y = search rules in
    rw (← c.self.view_is, ← c.other.view_is) (simp to_z-of_z)
