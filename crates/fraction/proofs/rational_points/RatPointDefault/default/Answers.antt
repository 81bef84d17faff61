use Rattle.std.proofs.Common.{refl, pos, arith}
use Rattle.std.proofs.lemmas.Int.{ints}
use Rattle.fraction.proofs.RangeLemmas.{grid_is_kept_from}
use Rattle.fraction.proofs.rational_points.RatPointDefault.default.Goals as goal

pub invariant_of-result : goal.invariant_of-result
invariant_of-result c = grid_is_kept_from (record { x = pos 0; y = pos 0 }) (pos 0) (pos 0) refl refl (record { x = omega (arith, ints); y = omega (arith, ints) })
