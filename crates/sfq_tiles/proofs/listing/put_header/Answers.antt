-- The columns, the names and the line feed, one after another; a front of one of them after those before it.
use Rattle.std.proofs.Common.{◌++◌, codes, map, refl}
use Rattle.std.specs.List.{concat}
use Rattle.streams.proofs.PartLemmas.{last-put}
use Rattle.streams.proofs.SinkLemmas.{Appends-then, AppendsFront-more, AppendsFront-then, OnErr-holds}
use Rattle.sfq_tiles.proofs.ListLemmas.{last_front}
use Rattle.sfq_tiles.proofs.listing.put_header.Goals as goal

pub returns-clause-ok : goal.returns-clause-ok
returns-clause-ok g c =
    let names = concat (map (λ part. codes "," ++ part.name.now) c.args.parts.now) in
    last-put c.put_all-2.result _ (g.S.Sink.taken c.put_all.new.sink) (g.S.Sink.taken c.put_names.new.out) _ (codes "tile,least_x,greatest_x,least_y,greatest_y") names (codes "\n") _ refl c.in_ok-put_all.ensures.ok c.in_ok-put_names.ensures.ok
    c.put_all-2.ensures.ok

pub returns-in_err-put_all-clause-front : goal.returns-in_err-put_all-clause-front
returns-in_err-put_all-clause-front g c =
    let columns = codes "tile,least_x,greatest_x,least_y,greatest_y" in
    let names = concat (map (λ part. codes "," ++ part.name.now) c.args.parts.now) in
    OnErr-holds c.from_residual.result (AppendsFront-more _ _ (columns ++ names) (codes "\n") (AppendsFront-more _ _ columns names c.in_err-put_all.ensures.front))

pub returns-in_err-put_names-clause-front : goal.returns-in_err-put_names-clause-front
returns-in_err-put_names-clause-front g c =
    let columns = codes "tile,least_x,greatest_x,least_y,greatest_y" in
    let names = concat (map (λ part. codes "," ++ part.name.now) c.args.parts.now) in
    OnErr-holds c.from_residual-in_err-put_names.result
    (AppendsFront-more _ _ (columns ++ names) (codes "\n")
    (AppendsFront-then _ (g.S.Sink.taken c.put_all.new.sink) _ columns names c.in_ok-put_all.ensures.ok c.in_err-put_names.ensures.front))

pub returns-clause-front : goal.returns-clause-front
returns-clause-front g c =
    let columns = codes "tile,least_x,greatest_x,least_y,greatest_y" in
    let names = concat (map (λ part. codes "," ++ part.name.now) c.args.parts.now) in
    last_front c.put_all-2.result _ (g.S.Sink.taken c.put_names.new.out) _ (columns ++ names) (codes "\n")
    (Appends-then _ (g.S.Sink.taken c.put_all.new.sink) _ columns names c.in_ok-put_all.ensures.ok c.in_ok-put_names.ensures.ok) c.put_all-2.ensures.front
