use Rattle.std.specs.Prelude.{◌≡◌, drop, take}
use Rattle.library_calls.specs.Written.{first_past_limit}
use Rattle.library_calls.proofs.coordinates.grid_points.Given as goal

abbrev pub invariant-loop-at : goal.invariant-loop-at
invariant-loop-at l = record {
  items : l.points.items ≡ take l.at l.fn.coordinates;
  passed : first_past_limit 0 l.fn.coordinates ≡ first_past_limit l.at (drop l.at l.fn.coordinates);
}
