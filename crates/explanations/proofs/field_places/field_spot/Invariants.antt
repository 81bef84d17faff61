-- What was read so far.
use Rattle.std.proofs.Common.{◌-◌, length}
use Rattle.explanations.specs.Fields.{IsSpot}
use Rattle.explanations.proofs.field_places.field_spot.Given as goal

abbrev pub invariant-loop-spot : goal.invariant-loop-spot
invariant-loop-spot l = IsSpot l.body l.spot

abbrev pub decreases-loop-spot : goal.decreases-loop-spot
decreases-loop-spot l = length l.body - l.spot.place
