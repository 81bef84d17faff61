use Rattle.std.proofs.Common.{◌<◌, length, subst, rules}
use Rattle.edge_boxes.specs.Builds.{IsStripAt}
use Rattle.edge_boxes.proofs.StripTaking.{box_at, strip_set}
use Rattle.edge_boxes.proofs.building.take_strips.Goals as goal

pub strip_at-strip-requires-clause-boxes : goal.strip_at-strip-requires-clause-boxes
strip_at-strip-requires-clause-boxes c = rw c.as_slice.ensures.value c.loop-place.invariant.boxes

pub loop-place-preserved : goal.loop-place-preserved
loop-place-preserved c =
    let within : c.loop-place.place < length c.loop-place.boxes.items = search rules in
    let at = box_at c.loop-place.boxes.items c.loop-place.place c.index_mut.result.now within c.index_mut.ensures.value in
    let strip = subst (λ l. IsStripAt l c.args.edges.now c.loop-place.place c.strip_at-strip.result) c.as_slice.ensures.value c.strip_at-strip.ensures in
    record {
      boxes = strip_set c.loop-place.boxes.items c.args.edges.now c.loop-place.place c.index_mut.result.now c.strip_at-strip.result c.loop-place.invariant.boxes at strip;
      count = search rules;
    }
