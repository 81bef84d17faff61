use Rattle.std.specs.Prelude.{◌≡◌, ◌≤◌, ◌++◌, drop, length, map, sum}
use Rattle.geometry_model.specs.WellKnownText.{position_limit, without_repeats}
use Rattle.library_calls.specs.Written.{parts_of}
use Rattle.library_calls.proofs.building.polygons_of.Given as goal

abbrev pub invariant-loop-count : goal.invariant-loop-count
invariant-loop-count l = record {
  made : map (map without_repeats) (parts_of l.fn.counts (parts_of l.fn.lines l.fn.points))
      ≡ l.polygons ++ map (map without_repeats) (parts_of (drop l.count-index l.fn.counts) (parts_of l.sizes l.left));
  rings : sum (drop l.count-index l.fn.counts) ≤ length l.sizes;
  enough : sum l.sizes ≤ length l.left;
  counted : length l.left ≤ position_limit;
}
