-- The first point with what comes before it, the others, and the parenthesis, one after another.
use Rattle.std.proofs.Common.{codes, ◌++◌, subst, OnOk}
use Rattle.std.specs.Io.KnownBytes.{Appends}
use Rattle.streams.specs.Sinks.{AppendsFront}
use Rattle.streams.proofs.PartLemmas.{last-put, last-front}
use Rattle.wkt.proofs.PrintLemmas.{first_text, more_text, multi_point_split, multi_point_empty}
use Rattle.streams.proofs.SinkLemmas.{OnErr-holds, AppendsFront-more, AppendsFront-then}
use Rattle.wkt.proofs.printing.put_multi_point.Goals as goal

pub returns-in_err-put_position-in-Some-clause-front : goal.returns-in_err-put_position-in-Some-clause-front
returns-in_err-put_position-in-Some-clause-front g c =
    let first = c.in-Some.first.now in
    let more = c.in-Some.more.now in
    OnErr-holds c.from_residual.result
    (subst (λ l. AppendsFront (g.S.Sink.taken c.args.sink.now) (g.S.Sink.taken c.put_position.new.sink) l)
    (multi_point_split c.args.points.now first more c.in-Some.ensures.cases.0)
    (AppendsFront-more _ _ (first_text first) (more_text more ++ codes ")") c.in_err-put_position-in-Some.ensures.front))

pub returns-in_err-put_more-in-Some-clause-front : goal.returns-in_err-put_more-in-Some-clause-front
returns-in_err-put_more-in-Some-clause-front g c =
    let first = c.in-Some.first.now in
    let more = c.in-Some.more.now in
    OnErr-holds c.from_residual-in_err-put_more-in-Some.result
    (subst (λ l. AppendsFront (g.S.Sink.taken c.args.sink.now) (g.S.Sink.taken c.put_more.new.sink) l)
    (multi_point_split c.args.points.now first more c.in-Some.ensures.cases.0)
    (AppendsFront-then _ (g.S.Sink.taken c.put_position.new.sink) _ (first_text first) (more_text more ++ codes ")") c.in_ok-put_position-in-Some.ensures.ok
    (AppendsFront-more _ _ (more_text more) (codes ")") c.in_err-put_more-in-Some.ensures.front)))

pub returns-in_ok-put_more-in-Some-clause-ok : goal.returns-in_ok-put_more-in-Some-clause-ok
returns-in_ok-put_more-in-Some-clause-ok g c =
    let first = c.in-Some.first.now in
    let more = c.in-Some.more.now in
    last-put c.put_all-in-Some.result _ (g.S.Sink.taken c.put_position.new.sink) (g.S.Sink.taken c.put_more.new.sink) _ (first_text first) (more_text more) (codes ")") _
    (multi_point_split c.args.points.now first more c.in-Some.ensures.cases.0)
    c.in_ok-put_position-in-Some.ensures.ok c.in_ok-put_more-in-Some.ensures.ok c.put_all-in-Some.ensures.ok

pub returns-in_ok-put_more-in-Some-clause-front : goal.returns-in_ok-put_more-in-Some-clause-front
returns-in_ok-put_more-in-Some-clause-front g c =
    let first = c.in-Some.first.now in
    let more = c.in-Some.more.now in
    last-front c.put_all-in-Some.result _ (g.S.Sink.taken c.put_position.new.sink) (g.S.Sink.taken c.put_more.new.sink) _ (first_text first) (more_text more) (codes ")") _
    (multi_point_split c.args.points.now first more c.in-Some.ensures.cases.0)
    c.in_ok-put_position-in-Some.ensures.ok c.in_ok-put_more-in-Some.ensures.ok c.put_all-in-Some.ensures.front

pub returns-in-None-clause-ok : goal.returns-in-None-clause-ok
returns-in-None-clause-ok g c =
    subst (λ l. OnOk c.put_all.result (Appends (g.S.Sink.taken c.args.sink.now) (g.S.Sink.taken c.put_all.new.sink) l))
    (multi_point_empty c.args.points.now c.in-None.ensures.cases) c.put_all.ensures.ok
