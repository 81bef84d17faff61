use Rattle.std.proofs.Common.{◌∙◌, sym, codes, subst, OnOk, OnErr}
use Rattle.std.specs.Io.KnownBytes.{Appends}
use Rattle.geometry_model.specs.CanonicalText.{line_text}
use Rattle.streams.specs.Sinks.{AppendsFront}
use Rattle.wkt.proofs.PrintLemmas.{named_list, named_none}
use Rattle.wkt.proofs.printing.put_multi_line_string.Goals as goal

pub returns-then-is_empty-clause-ok : goal.returns-then-is_empty-clause-ok
returns-then-is_empty-clause-ok g c =
    subst (λ l. OnOk c.put_all.result (Appends (g.S.Sink.taken c.args.sink.now) (g.S.Sink.taken c.put_all.new.sink) l))
    (named_none (codes "MULTILINESTRING") line_text c.args.lines.now (sym c.is_empty.ensures ∙ c.if-is_empty.true)) c.put_all.ensures.ok

pub returns-then-is_empty-clause-front : goal.returns-then-is_empty-clause-front
returns-then-is_empty-clause-front g c =
    subst (λ l. OnErr c.put_all.result (AppendsFront (g.S.Sink.taken c.args.sink.now) (g.S.Sink.taken c.put_all.new.sink) l))
    (named_none (codes "MULTILINESTRING") line_text c.args.lines.now (sym c.is_empty.ensures ∙ c.if-is_empty.true)) c.put_all.ensures.front

pub returns-else-is_empty-clause-ok : goal.returns-else-is_empty-clause-ok
returns-else-is_empty-clause-ok g c =
    subst (λ l. OnOk c.put_lines.result (Appends (g.S.Sink.taken c.args.sink.now) (g.S.Sink.taken c.put_lines.new.sink) l))
    (named_list (codes "MULTILINESTRING") line_text c.args.lines.now (sym c.is_empty.ensures ∙ c.if-is_empty.false)) c.put_lines.ensures.ok

pub returns-else-is_empty-clause-front : goal.returns-else-is_empty-clause-front
returns-else-is_empty-clause-front g c =
    subst (λ l. OnErr c.put_lines.result (AppendsFront (g.S.Sink.taken c.args.sink.now) (g.S.Sink.taken c.put_lines.new.sink) l))
    (named_list (codes "MULTILINESTRING") line_text c.args.lines.now (sym c.is_empty.ensures ∙ c.if-is_empty.false)) c.put_lines.ensures.front
