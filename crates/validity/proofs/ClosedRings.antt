-- Rings of which none is found that isn't closed.
use Rattle.std.proofs.Common.{◌≡◌, map, length, get_or, None}
use Rattle.std.specs.List.{find}
use Rattle.std.proofs.lemmas.Option.{slice_get-get_or}
use Rattle.geometry_model.specs.Geometries.{Geometry, rings}
use Rattle.geometry_model.specs.FirstFaults.{has_fault, numbers}
use Rattle.geometry_model.specs.declared.validity_faults.ValidityFault.TheVariants.{RingNotClosed}
use Rattle.geometry_laws.specs.PieceLaws.{HasClosedRings}
use Rattle.matrix_laws.proofs.Closing.{closed}
use Rattle.geometry_laws.proofs.FirstFaultFacts.{are_closed}

-- where no ring is found that isn't closed, all are closed
pub none_open : (g : Geometry) → find (has_fault g) (map RingNotClosed (numbers 0 (length (rings g)))) ≡ None → HasClosedRings g
none_open g none k d h = closed (get_or (rings g) k d) (λ n. are_closed g none k (get_or (rings g) k d, slice_get-get_or (rings g) k d h, n))
