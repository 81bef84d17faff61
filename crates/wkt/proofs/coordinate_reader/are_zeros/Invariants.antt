use Rattle.std.proofs.Common.{◌≡◌, drop}
use Rattle.geometry_model.specs.WellKnownText.{is_whole}
use Rattle.wkt.proofs.coordinate_reader.are_zeros.Given as goal

abbrev pub invariant-loop-digit : goal.invariant-loop-digit
invariant-loop-digit l = is_whole (drop l.digit-index l.digits) ≡ is_whole l.digits
