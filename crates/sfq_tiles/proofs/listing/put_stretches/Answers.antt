-- The lines before this one were put; this one, or a front of it, comes after them.
use Rattle.std.proofs.Common.{◌<◌, ◌+◌, ◌∙◌, arith, length, subst}
use Rattle.std.specs.List.{slice_index_or}
use Rattle.std.specs.Io.KnownBytes.{Appends}
use Rattle.streams.proofs.SinkLemmas.{OnErr-holds}
use Rattle.streams.specs.Sinks.{AppendsFront}
use Rattle.sfq_tiles.specs.Lists.{stretch_line}
use Rattle.sfq_tiles.proofs.ListLemmas.{number_front, number_put}
use Rattle.sfq_tiles.proofs.listing.put_stretches.Goals as goal

pub loop-place-preserved : goal.loop-place-preserved
loop-place-preserved g c = record {
  put = number_put (λ place. stretch_line c.args.name.now (place + 1) (slice_index_or c.args.counts.now place 0)) c.loop-place.place _ (g.S.Sink.taken c.loop-place.out) _ c.loop-place.invariant.put
      (subst (λ n. Appends (g.S.Sink.taken c.loop-place.out) (g.S.Sink.taken c.put_stretch.new.out) (stretch_line c.args.name.now (c.loop-place.place + 1) n)) c.rows_in.ensures c.in_ok-put_stretch.ensures.ok);
  same = c.in_ok-put_stretch.ensures.failures ∙ c.loop-place.invariant.same;
}

pub returns-in_err-put_stretch-clause-front : goal.returns-in_err-put_stretch-clause-front
returns-in_err-put_stretch-clause-front g c =
    let within : c.loop-place.place < length c.args.counts.now = omega arith in
    OnErr-holds c.from_residual.result
    (number_front (λ place. stretch_line c.args.name.now (place + 1) (slice_index_or c.args.counts.now place 0)) c.loop-place.place (length c.args.counts.now) _ (g.S.Sink.taken c.loop-place.out) _ within c.loop-place.invariant.put
    (subst (λ n. AppendsFront (g.S.Sink.taken c.loop-place.out) (g.S.Sink.taken c.put_stretch.new.out) (stretch_line c.args.name.now (c.loop-place.place + 1) n)) c.rows_in.ensures c.in_err-put_stretch.ensures.front))
