-- A long line has a byte. Once it is written, the line is empty.
use Rattle.std.proofs.Common.{◌≡◌, length, arith, refl, subst}
use Rattle.std.specs.Io.KnownBytes.{Appends}
use Rattle.streams.specs.Sinks.{AppendsFront}
use Rattle.streams.proofs.SinkLemmas.{OnErr-holds}
use Rattle.streams.proofs.WriterLemmas.{holds-line, holds-written}
use Rattle.streams.proofs.record_writer.RecordWriter.write_long.Goals as goal

pub returns-in_err-put_all-clause-front : goal.returns-in_err-put_all-clause-front
returns-in_err-put_all-clause-front g c = λ fields start held.
    let put = subst (λ t. AppendsFront (g.S.Sink.taken c.args.sink.now) (g.S.Sink.taken c.put_all.new.sink) t)
    c.as_slice.ensures.value c.in_err-put_all.ensures.front in
    OnErr-holds c.from_residual.result (holds-line c.args.self.now fields start _ _ put held)

pub returns-clause-held : goal.returns-clause-held
returns-clause-held g c = λ fields start held.
    let put = subst (λ t. Appends (g.S.Sink.taken c.args.sink.now) (g.S.Sink.taken c.put_all.new.sink) t)
    c.as_slice.ensures.value c.in_ok-put_all.ensures.ok in
    let shown : length c.args.self.now.line.items ≡ 0 → ⊥ =
    λ none. omega (arith, none, c.len.ensures, c.if-len-lt-LONG_LINE.false) in
    holds-written c.args.self.now _ fields start _ _ shown c.new.ensures.items refl refl put held
