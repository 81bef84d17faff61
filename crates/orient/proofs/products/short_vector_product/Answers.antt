use Rattle.std.proofs.Common.{◌≡◌, sym, ap, ap₂, ◌∙◌, subst, ℤ, ◌-ℤ◌, ◌*ℤ◌, to_z, of_z}
use Rattle.std.proofs.lemmas.Int.{to_z-of_z}
use mir.Syntax.{w64}
use mir.Val.{SFits}
use Rattle.orient.proofs.Bounds.{ShortVectorFits, short_vector_fits, vector_read}
use Rattle.orient.proofs.products.short_vector_product.Goals as goal

-- the difference, each number read where it comes from
is : (dx dy ex ey : ℤ) → SFits w64 dx → SFits w64 dy → SFits w64 ex → SFits w64 ey → ShortVectorFits dx dy ex ey
    → to_z w64 (of_z w64 (to_z w64 (of_z w64 dx) *ℤ to_z w64 (of_z w64 ey))) -ℤ to_z w64 (of_z w64 (to_z w64 (of_z w64 dy) *ℤ to_z w64 (of_z w64 ex))) ≡ dx *ℤ ey -ℤ dy *ℤ ex
is dx dy ex ey fdx fdy fex fey f = vector_read w64 _ _ _ _ dx ey dy ex (to_z-of_z w64 dx fdx) (to_z-of_z w64 ey fey) (to_z-of_z w64 dy fdy) (to_z-of_z w64 ex fex) f.first f.second

pub overflow_mul-result : goal.overflow_mul-result
overflow_mul-result c =
    let f = short_vector_fits c.args.dx c.args.dy c.args.ex c.args.ey c.requires.dx_bound c.requires.dy_bound c.requires.ex_bound c.requires.ey_bound in
    subst (SFits w64) (sym (ap₂ (λ (x y : ℤ). x *ℤ y) (to_z-of_z w64 c.args.dx c.ranges.dx) (to_z-of_z w64 c.args.ey c.ranges.ey))) f.first

pub overflow_mul-result-2 : goal.overflow_mul-result-2
overflow_mul-result-2 c =
    let f = short_vector_fits c.args.dx c.args.dy c.args.ex c.args.ey c.requires.dx_bound c.requires.dy_bound c.requires.ex_bound c.requires.ey_bound in
    subst (SFits w64) (sym (ap₂ (λ (x y : ℤ). x *ℤ y) (to_z-of_z w64 c.args.dy c.ranges.dy) (to_z-of_z w64 c.args.ex c.ranges.ex))) f.second

pub overflow_sub-result : goal.overflow_sub-result
overflow_sub-result c =
    let f = short_vector_fits c.args.dx c.args.dy c.args.ex c.args.ey c.requires.dx_bound c.requires.dy_bound c.requires.ex_bound c.requires.ey_bound in
    subst (SFits w64) (sym (is c.args.dx c.args.dy c.args.ex c.args.ey c.ranges.dx c.ranges.dy c.ranges.ex c.ranges.ey f)) f.difference

pub returns : goal.returns
returns c =
    let f = short_vector_fits c.args.dx c.args.dy c.args.ex c.args.ey c.requires.dx_bound c.requires.dy_bound c.requires.ex_bound c.requires.ey_bound in
    ap (λ (z : ℤ). to_z w64 (of_z w64 z)) (is c.args.dx c.args.dy c.args.ex c.args.ey c.ranges.dx c.ranges.dy c.ranges.ex c.ranges.ey f) ∙ to_z-of_z w64 _ f.difference
