-- The lines before this one were put; this one, or a front of it, comes after them.
use Rattle.std.proofs.Common.{◌<◌, ◌+◌, ◌∙◌, ap, arith, length}
use Rattle.streams.proofs.SinkLemmas.{OnErr-holds}
use Rattle.sfq_tiles.specs.Lists.{tile_line}
use Rattle.sfq_tiles.proofs.ListLemmas.{number_front, number_put}
use Rattle.sfq_tiles.proofs.listing.put_tiles.Goals as goal

pub loop-number-preserved : goal.loop-number-preserved
loop-number-preserved g c = record {
  put = number_put (tile_line c.args.cells.now c.args.parts.now) c.loop-number.number _ (g.S.Sink.taken c.loop-number.out) _ c.loop-number.invariant.put c.in_ok-put_tile.ensures.ok;
  same = c.in_ok-put_tile.ensures.failures ∙ c.loop-number.invariant.same;
}

pub returns-in_err-put_tile-clause-front : goal.returns-in_err-put_tile-clause-front
returns-in_err-put_tile-clause-front g c =
    let boxes = ap length c.boxes.ensures in
    let within : c.loop-number.number < length c.args.cells.now + 1 = omega (arith, boxes) in
    OnErr-holds c.from_residual.result
    (number_front (tile_line c.args.cells.now c.args.parts.now) c.loop-number.number (length c.args.cells.now + 1) _ (g.S.Sink.taken c.loop-number.out) _ within c.loop-number.invariant.put
    c.in_err-put_tile.ensures.front)
