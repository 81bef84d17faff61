-- The first edge hasn't been asked yet, or it starts inside.
use Rattle.std.specs.Prelude.{◌≡◌, ◌<◌, ◌-◌, ◌⊎◌, All, length, take}
use Rattle.de9im.specs.Deciding.{StartsInside}
use Rattle.de9im.proofs.deciding.has_position_outside.Given as goal

abbrev pub invariant-loop-at : goal.invariant-loop-at
invariant-loop-at l = record {
  forward : 0 < l.step;
  first : (l.at ≡ 0) ⊎ All (StartsInside l.second) (take 1 l.edges);
}

abbrev pub decreases-loop-at : goal.decreases-loop-at
decreases-loop-at l = length l.edges - l.at
