-- The next line takes as many positions as its size says.
use Rattle.std.proofs.Common.{◌≡◌, ◌∙◌, ◌+◌, ap, take, drop, get_or, map, length-drop, arith}
use Rattle.geometry_model.specs.WellKnownText.{without_repeats}
use Rattle.library_calls.specs.Written.{parts_of}
use Rattle.library_calls.proofs.ArrayParts.{enough_more, line_more, next_size, rest_more}
use Rattle.library_calls.proofs.building.lines_of.Goals as goal

pub loop-size-preserved : goal.loop-size-preserved
loop-size-preserved c =
    let sizes = c.args.sizes.now in
    let at = c.loop-size.size-index in
    let size = get_or sizes at 0 in
    let left = c.loop-size.left.now in
    let so_far = c.loop-size.invariant in
    let next = next_size sizes at c.loop-size-test.true in
    let line : c.line_of.result ≡ without_repeats (take size left) = c.line_of.ensures ∙ ap without_repeats (c.in_ok-from_slice.ensures.items ∙ c.split_at.ensures.front) in
    let enough = enough_more (drop at sizes) (drop (at + 1) sizes) size left next so_far.enough in
    rw (c.in_ok-push.ensures.items, line, c.split_at.ensures.back) record {
      made = line_more (map without_repeats (parts_of sizes c.args.points.now)) c.loop-size.lines.items (drop at sizes) (drop (at + 1) sizes) size left next so_far.made;
      rest = rest_more _ (drop at sizes) (drop (at + 1) sizes) size left next so_far.rest;
      enough = enough.1;
      counted = omega (arith, so_far.counted, length-drop size left);
    }
