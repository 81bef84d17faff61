-- A front of the header, or of the lines after it.
use Rattle.std.proofs.Common.{codes, map}
use Rattle.std.specs.List.{concat}
use Rattle.streams.proofs.SinkLemmas.{AppendsFront-more, OnErr-holds}
use Rattle.sfq_tiles.specs.Lists.{stretches_text}
use Rattle.sfq_tiles.proofs.ListLemmas.{last_front}
use Rattle.sfq_tiles.proofs.listing.list_stretches.Goals as goal

pub returns-in_err-put_all-clause-front : goal.returns-in_err-put_all-clause-front
returns-in_err-put_all-clause-front g c =
    let lines = concat (map (λ part. stretches_text part.name.now part.counts.items) c.args.parts.now) in
    OnErr-holds c.from_residual.result (AppendsFront-more _ _ (codes "part,tile,rows\n") lines c.in_err-put_all.ensures.front)

pub returns-clause-front : goal.returns-clause-front
returns-clause-front g c =
    let lines = concat (map (λ part. stretches_text part.name.now part.counts.items) c.args.parts.now) in
    last_front c.put_all_stretches.result _ (g.S.Sink.taken c.put_all.new.sink) _ (codes "part,tile,rows\n") lines c.in_ok-put_all.ensures.ok c.put_all_stretches.ensures.front
