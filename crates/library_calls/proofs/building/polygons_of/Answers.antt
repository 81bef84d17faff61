-- The next polygon takes as many rings as its count says, and their positions.
use Rattle.std.proofs.Common.{◌≡◌, ◌∙◌, ◌+◌, ap, take, drop, get_or, map, sum, length-drop, arith}
use Rattle.geometry_model.specs.WellKnownText.{without_repeats}
use Rattle.library_calls.specs.Written.{parts_of}
use Rattle.library_calls.proofs.ArrayParts.{enough_more, next_size, polygon_more, sizes_parted}
use Rattle.library_calls.proofs.building.polygons_of.Goals as goal

pub loop-count-preserved : goal.loop-count-preserved
loop-count-preserved c =
    let counts = c.args.counts.now in
    let at = c.loop-count.count-index in
    let count = get_or counts at 0 in
    let sizes = c.loop-count.sizes.now in
    let left = c.loop-count.left.now in
    let so_far = c.loop-count.invariant in
    let next = next_size counts at c.loop-count-test.true in
    let these = c.split_at.ensures.front in
    let rings : c.in_ok-rings.rings.items ≡ map without_repeats (parts_of (take count sizes) left) =
    c.in_ok-rings.ensures.lines ∙ ap (λ s. map without_repeats (parts_of s left)) these in
    let rest : c.in_ok-rings.rest.now ≡ drop (sum (take count sizes)) left = c.in_ok-rings.ensures.left ∙ ap (λ s. drop (sum s) left) these in
    let parted = sizes_parted count sizes in
    rw (c.in_ok-polygons.ensures, rings, rest, c.split_at.ensures.back) record {
      made = polygon_more _ c.loop-count.polygons (drop at counts) (drop (at + 1) counts) count sizes left next so_far.made;
      rings = (enough_more (drop at counts) (drop (at + 1) counts) count sizes next so_far.rings).1;
      enough = omega (arith, parted, so_far.enough, length-drop (sum (take count sizes)) left);
      counted = omega (arith, so_far.counted, length-drop (sum (take count sizes)) left);
    }
