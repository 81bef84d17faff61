use Rattle.std.proofs.Common.{refl}
use Rattle.validity.proofs.Kept.{point_is_kept}
use Rattle.validity.proofs.valid_geometry.of_point.Goals as goal

pub invariant_of-result : goal.invariant_of-result
invariant_of-result c = (c.requires, point_is_kept c.args.geometry _ c.in_ok-boxes.boxes c.requires refl c.in_ok-boxes.ensures)
