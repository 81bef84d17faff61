use Rattle.std.proofs.Common.{◌≤◌, length, rules, arith}
use Rattle.std.proofs.lemmas.Grind.{common_steps}
use Rattle.wkt.proofs.CutFacts.{part_within, cut_part}
use Rattle.wkt.proofs.polygons.part.Goals as goal

pub offset_bounds-rings-start : goal.offset_bounds-rings-start
offset_bounds-rings-start c =
    let inside = part_within 0 c.args.ends.now (length c.args.rings.now) c.args.index c.bounds-start.result.1 c.requires.ends c.bounds-start.ensures.end in
    let starts : c.bounds-start.result.0 ≤ c.bounds-start.result.1 = rw c.bounds-start.ensures.start inside.0 in
    let stops = inside.1 in
    first_of (search rules, grind (arith, common_steps))

pub slice_bounds-result-count : goal.slice_bounds-result-count
slice_bounds-result-count c =
    let inside = part_within 0 c.args.ends.now (length c.args.rings.now) c.args.index c.bounds-start.result.1 c.requires.ends c.bounds-start.ensures.end in
    rw c.bounds-start.ensures.start inside.0

pub slice_bounds-result-start : goal.slice_bounds-result-start
slice_bounds-result-start c =
    let inside = part_within 0 c.args.ends.now (length c.args.rings.now) c.args.index c.bounds-start.result.1 c.requires.ends c.bounds-start.ensures.end in
    let starts : c.bounds-start.result.0 ≤ c.bounds-start.result.1 = rw c.bounds-start.ensures.start inside.0 in
    first_of (search rules, grind (arith, common_steps))

pub slice_bounds-result-end : goal.slice_bounds-result-end
slice_bounds-result-end c =
    let inside = part_within 0 c.args.ends.now (length c.args.rings.now) c.args.index c.bounds-start.result.1 c.requires.ends c.bounds-start.ensures.end in
    let starts : c.bounds-start.result.0 ≤ c.bounds-start.result.1 = rw c.bounds-start.ensures.start inside.0 in
    let stops = inside.1 in
    first_of (search rules, grind (arith, common_steps))

pub returns : goal.returns
returns c = rw c.bounds-start.ensures.start (cut_part 0 c.args.ends.now c.args.rings.now c.args.index c.bounds-start.result.1 c.bounds-start.ensures.end)
