use Rattle.std.specs.Prelude.{◌≡◌, ◌≤◌, ◌++◌, drop, length, map, sum}
use Rattle.geometry_model.specs.WellKnownText.{position_limit, without_repeats}
use Rattle.library_calls.specs.Written.{parts_of}
use Rattle.library_calls.proofs.building.lines_of.Given as goal

abbrev pub invariant-loop-size : goal.invariant-loop-size
invariant-loop-size l = record {
  made : map without_repeats (parts_of l.fn.sizes l.fn.points) ≡ l.lines.items ++ map without_repeats (parts_of (drop l.size-index l.fn.sizes) l.left);
  rest : drop (sum l.fn.sizes) l.fn.points ≡ drop (sum (drop l.size-index l.fn.sizes)) l.left;
  enough : sum (drop l.size-index l.fn.sizes) ≤ length l.left;
  counted : length l.left ≤ position_limit;
}
