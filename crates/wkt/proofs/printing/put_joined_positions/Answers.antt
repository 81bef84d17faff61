-- The first position, and the others, each with a comma before it.
use Rattle.std.proofs.Common.{codes, ◌++◌, subst}
use Rattle.geometry_model.specs.CanonicalText.{position_text}
use Rattle.streams.specs.Sinks.{AppendsFront}
use Rattle.streams.proofs.SinkLemmas.{OnErr-holds, AppendsFront-more, then-put}
use Rattle.wkt.proofs.PrintLemmas.{line_more, line_split, then-front}
use Rattle.wkt.proofs.printing.put_joined_positions.Goals as goal

pub returns-in_err-put_position-in-Some-clause-front : goal.returns-in_err-put_position-in-Some-clause-front
returns-in_err-put_position-in-Some-clause-front g c =
    let first = c.in-Some.first.now in
    let more = c.in-Some.more.now in
    OnErr-holds c.from_residual.result
    (subst (λ l. AppendsFront (g.S.Sink.taken c.args.sink.now) (g.S.Sink.taken c.put_position.new.sink) l)
    (line_split c.args.line.now first more c.in-Some.ensures.cases.0)
    (AppendsFront-more _ _ (position_text first ++ codes "") (line_more more) c.in_err-put_position-in-Some.ensures.front))

pub returns-in_ok-put_position-in-Some-clause-ok : goal.returns-in_ok-put_position-in-Some-clause-ok
returns-in_ok-put_position-in-Some-clause-ok g c =
    let first = c.in-Some.first.now in
    let more = c.in-Some.more.now in
    then-put c.put_more.result _ (g.S.Sink.taken c.put_position.new.sink) _ (position_text first ++ codes "") (line_more more) _ (line_split c.args.line.now first more c.in-Some.ensures.cases.0)
    c.in_ok-put_position-in-Some.ensures.ok c.put_more.ensures.ok

pub returns-in_ok-put_position-in-Some-clause-front : goal.returns-in_ok-put_position-in-Some-clause-front
returns-in_ok-put_position-in-Some-clause-front g c =
    let first = c.in-Some.first.now in
    let more = c.in-Some.more.now in
    then-front c.put_more.result _ (g.S.Sink.taken c.put_position.new.sink) _ (position_text first ++ codes "") (line_more more) _ (line_split c.args.line.now first more c.in-Some.ensures.cases.0)
    c.in_ok-put_position-in-Some.ensures.ok c.put_more.ensures.front
