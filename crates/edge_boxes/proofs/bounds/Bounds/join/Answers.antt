use Rattle.std.proofs.Common.{◌≡◌, ap₂, ◌∙◌, rules}
use Rattle.std.specs.Int.{int_min, int_max}
use Rattle.std.proofs.lemmas.Int.{to_z-of_z}
use mir.Syntax.{w32}
use mir.Val.{SFits}
use Rattle.geometry_model.specs.Envelopes.{Envelope}
use Rattle.edge_boxes.proofs.bounds.Bounds.join.Goals as goal

pub returns : goal.returns
returns c =
    let f1 : SFits w32 c.min.result = record { sfits = c.min.type_inv } in
    let f2 : SFits w32 c.max.result = record { sfits = c.max.type_inv } in
    let f3 : SFits w32 c.min-2.result = record { sfits = c.min-2.type_inv } in
    let f4 : SFits w32 c.max-2.result = record { sfits = c.max-2.type_inv } in
    let a1 : SFits w32 c.self.inside.least_x = search rules in
    let a2 : SFits w32 c.self.inside.greatest_x = search rules in
    let a3 : SFits w32 c.self.inside.least_y = search rules in
    let a4 : SFits w32 c.self.inside.greatest_y = search rules in
    let b1 : SFits w32 c.other.inside.least_x = search rules in
    let b2 : SFits w32 c.other.inside.greatest_x = search rules in
    let b3 : SFits w32 c.other.inside.least_y = search rules in
    let b4 : SFits w32 c.other.inside.greatest_y = search rules in
    let e1 : c.min.result ≡ int_min c.self.inside.least_x c.other.inside.least_x = simp to_z-of_z at c.min.ensures.value in
    let e2 : c.max.result ≡ int_max c.self.inside.greatest_x c.other.inside.greatest_x = simp to_z-of_z at c.max.ensures.value in
    let e3 : c.min-2.result ≡ int_min c.self.inside.least_y c.other.inside.least_y = simp to_z-of_z at c.min-2.ensures.value in
    let e4 : c.max-2.result ≡ int_max c.self.inside.greatest_y c.other.inside.greatest_y = simp to_z-of_z at c.max-2.ensures.value in
    λ i. record {
      least_x = (to_z-of_z w32 c.min.result f1 ∙ e1 ∙ ap₂ (λ (e f : Envelope). int_min e.least_x f.least_x) c.self.view_is c.other.view_is) i;
      greatest_x = (to_z-of_z w32 c.max.result f2 ∙ e2 ∙ ap₂ (λ (e f : Envelope). int_max e.greatest_x f.greatest_x) c.self.view_is c.other.view_is) i;
      least_y = (to_z-of_z w32 c.min-2.result f3 ∙ e3 ∙ ap₂ (λ (e f : Envelope). int_min e.least_y f.least_y) c.self.view_is c.other.view_is) i;
      greatest_y = (to_z-of_z w32 c.max-2.result f4 ∙ e4 ∙ ap₂ (λ (e f : Envelope). int_max e.greatest_y f.greatest_y) c.self.view_is c.other.view_is) i;
    }
