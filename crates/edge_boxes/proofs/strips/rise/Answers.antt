use Rattle.std.proofs.Common.{◌≡◌, ℤ, ◌-ℤ◌, ◌*ℤ◌, sym, ap₂, ◌∙◌, subst, rules}
use Rattle.std.proofs.lemmas.Int.{to_z-of_z}
use mir.Syntax.{w32, w64}
use mir.Val.{SFits}
use Rattle.edge_boxes.proofs.StripSums.{rise_fits}
use Rattle.edge_boxes.proofs.strips.rise.Goals as goal

pub overflow_sub-result : goal.overflow_sub-result
overflow_sub-result c =
    let f1 : SFits w32 c.args.direction.dx = search rules in
    let f2 : SFits w32 c.args.direction.dy = search rules in
    let f3 : SFits w32 c.args.x = c.ranges.x in
    let f4 : SFits w32 c.args.y = c.ranges.y in
    let f5 : SFits w64 c.product.result = record { sfits = c.product.type_inv } in
    let f6 : SFits w64 c.product-2.result = record { sfits = c.product-2.type_inv } in
    let e1 : c.product.result ≡ c.args.direction.dx *ℤ c.args.y = simp to_z-of_z at c.product.ensures in
    let e2 : c.product-2.result ≡ c.args.direction.dy *ℤ c.args.x = simp to_z-of_z at c.product-2.ensures in
    let f = rise_fits c.args.direction.dx c.args.direction.dy c.args.x c.args.y f1 f2 f3 f4 in
    subst (SFits w64) (sym (ap₂ (λ (y z : ℤ). y -ℤ z) (to_z-of_z w64 c.product.result f5 ∙ e1) (to_z-of_z w64 c.product-2.result f6 ∙ e2))) f.difference

pub returns : goal.returns
returns c =
    let f1 : SFits w32 c.args.direction.dx = search rules in
    let f2 : SFits w32 c.args.direction.dy = search rules in
    let f3 : SFits w32 c.args.x = c.ranges.x in
    let f4 : SFits w32 c.args.y = c.ranges.y in
    let f5 : SFits w64 c.product.result = record { sfits = c.product.type_inv } in
    let f6 : SFits w64 c.product-2.result = record { sfits = c.product-2.type_inv } in
    let e1 : c.product.result ≡ c.args.direction.dx *ℤ c.args.y = simp to_z-of_z at c.product.ensures in
    let e2 : c.product-2.result ≡ c.args.direction.dy *ℤ c.args.x = simp to_z-of_z at c.product-2.ensures in
    let f = rise_fits c.args.direction.dx c.args.direction.dy c.args.x c.args.y f1 f2 f3 f4 in
    let e = ap₂ (λ (y z : ℤ). y -ℤ z) (to_z-of_z w64 c.product.result f5 ∙ e1) (to_z-of_z w64 c.product-2.result f6 ∙ e2) in
    to_z-of_z w64 _ (subst (SFits w64) (sym e) f.difference) ∙ e
