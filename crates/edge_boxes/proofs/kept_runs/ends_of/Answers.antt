use Rattle.std.specs.Prelude.{◌≡◌, Bool, true, false, ◌+◌, ℤ, ◌*ℤ◌, int_le}
use Rattle.std.proofs.Common.{sym, ap, ap₂, ◌∙◌, refl}
use mathlib.Core.Bool.{cond}
use mir.Syntax.{w32}
use Rattle.geometry_model.specs.Points.{Position, Point}
use Rattle.geometry_model.specs.Crossings.{exactly_one, spans, odd}
use Rattle.orient.proofs.Bounds.{read}
use Rattle.edge_boxes.proofs.kept_runs.ends_of.Goals as goal

-- whether one or none is an odd number
odd_of : (b : Bool) → odd (0 + cond b 1 0) ≡ b
odd_of true = refl
odd_of false = refl

pub returns : goal.returns
returns c = λ _ (p : Point).
    let x_of = λ (a : Position). a.x in
    let first = read w32 c.x.result _ (record { sfits = c.x.type_inv }) (c.x.ensures.value ∙ ap x_of c.start.ensures) in
    let last = read w32 c.x-2.result _ (record { sfits = c.x-2.type_inv }) (c.x-2.ensures.value ∙ ap x_of c.end.ensures.value) in
    odd_of (spans c.args.edge.now p) ∙ sym (ap₂ (λ (a b : ℤ). exactly_one (int_le (a *ℤ p.W) p.X) (int_le (b *ℤ p.W) p.X)) first last)
