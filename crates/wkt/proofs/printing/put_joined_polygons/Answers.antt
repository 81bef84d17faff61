-- The polygons before this one were put; this one, or a front of it, comes after them.
use Rattle.std.proofs.Common.{[], ◌∙◌, sym}
use Rattle.std.proofs.lemmas.Option.{get_or_from_slice_get, slice_get_within}
use Rattle.geometry_model.specs.CanonicalText.{polygon_text}
use Rattle.streams.proofs.SinkLemmas.{OnErr-holds}
use Rattle.wkt.proofs.PrintLemmas.{polygon_at, joined-put, joined-front}
use Rattle.wkt.proofs.printing.put_joined_polygons.Goals as goal

pub returns-in_err-put_lines-clause-front : goal.returns-in_err-put_lines-clause-front
returns-in_err-put_lines-clause-front g c =
    let within = slice_get_within c.args.polygons.now c.loop-index.index c.get.result.now c.get.ensures in
    let item = get_or_from_slice_get c.args.polygons.now c.loop-index.index c.get.result.now [] c.get.ensures in
    OnErr-holds c.from_residual.result
    (joined-front polygon_text c.args.polygons.now c.loop-index.index [] _ _ (g.S.Sink.taken c.loop-index.sink) _ within
    (polygon_at c.loop-index.index _ _ _ c.opening.ensures (sym item)) c.loop-index.invariant.put c.in_err-put_lines.ensures.front)

pub loop-index-preserved : goal.loop-index-preserved
loop-index-preserved g c = record {
  put =
      let within = slice_get_within c.args.polygons.now c.loop-index.index c.get.result.now c.get.ensures in
      let item = get_or_from_slice_get c.args.polygons.now c.loop-index.index c.get.result.now [] c.get.ensures in
      joined-put polygon_text c.args.polygons.now c.loop-index.index [] _ _ (g.S.Sink.taken c.loop-index.sink) _ within
      (polygon_at c.loop-index.index _ _ _ c.opening.ensures (sym item)) c.loop-index.invariant.put c.in_ok-put_lines.ensures.ok;
  same = c.in_ok-put_lines.ensures.failures ∙ c.loop-index.invariant.same;
}
