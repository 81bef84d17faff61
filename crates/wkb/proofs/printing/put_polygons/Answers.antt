use Rattle.std.proofs.Common.{[], ◌∙◌, sym}
use Rattle.std.proofs.lemmas.Option.{get_or_from_slice_get, slice_get_within}
use Rattle.wkb.specs.BinaryPrinting.{polygon_element}
use Rattle.wkb.proofs.Printed.{item_more}
use Rattle.wkb.proofs.printing.put_polygons.Goals as goal

pub loop-index-preserved : goal.loop-index-preserved
loop-index-preserved c =
    let within = slice_get_within c.args.polygons.now c.loop-index.index c.get.result.now c.get.ensures in
    let item = get_or_from_slice_get c.args.polygons.now c.loop-index.index c.get.result.now [] c.get.ensures in
    c.in_ok-put_polygon_element.ensures
    ∙ item_more (polygon_element c.args.grid.now) c.args.bytes.now.items c.loop-index.bytes.items c.args.polygons.now
    c.loop-index.index c.get.result.now [] within (sym item) c.loop-index.invariant
