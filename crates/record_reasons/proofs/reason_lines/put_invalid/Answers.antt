-- The column and its fault, one after the other.
use Rattle.std.proofs.Common.{codes, ◌++◌}
use Rattle.streams.proofs.SinkLemmas.{AppendsFront-more, OnErr-holds}
use Rattle.witnesses.specs.FaultTexts.{reason_text}
use Rattle.record_reasons.proofs.PartLemmas.{then-front}
use Rattle.record_reasons.proofs.reason_lines.put_invalid.Goals as goal

pub returns-in_err-put_column-clause-front : goal.returns-in_err-put_column-clause-front
returns-in_err-put_column-clause-front g c =
    OnErr-holds c.from_residual.result
    (AppendsFront-more _ _ (codes "sfq: column " ++ c.args.column.now ++ codes ": ") (reason_text c.args.fault c.args.place) c.in_err-put_column.ensures.front)

pub returns-clause-front : goal.returns-clause-front
returns-clause-front g c =
    then-front c.put_reason.result _ (g.S.Sink.taken c.put_column.new.sink) _ (codes "sfq: column " ++ c.args.column.now ++ codes ": ")
    (reason_text c.args.fault c.args.place) c.in_ok-put_column.ensures.ok c.put_reason.ensures.front
