-- The two numbers are the position's coordinates.
use Rattle.std.proofs.Common.{◌≡◌, sym, subst, rules, arith}
use Rattle.std.proofs.lemmas.Grind.{common_steps}
use Rattle.geometry_model.specs.Points.{Position}
use Rattle.wkt.specs.PlainText.{BeginsWithPosition}
use Rattle.wkt.proofs.PlainNumbers.{begins_with_position}
use Rattle.wkt.proofs.plain_positions.plain_position.Goals as goal

pub returns : goal.returns
returns c =
    let found = begins_with_position c.args.text.now c.in_ok-x.behind.now c.in_ok-after.field-0.now c.in_ok-y.rest.now c.in_ok-x.x c.in_ok-y.y c.in_ok-x.ensures c.in_ok-after.ensures c.in_ok-y.ensures in
    let is : ◌≡◌ {A = Position} c.in_ok-position.position (record { x = c.in_ok-x.x; y = c.in_ok-y.y }) = first_of (search rules, grind (arith, common_steps)) in
    subst (λ p. BeginsWithPosition c.args.text.now p c.in_ok-y.rest.now) (sym is) found
