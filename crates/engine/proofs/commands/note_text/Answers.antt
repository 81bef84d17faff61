-- The line of the field that was found is written, and then where its quote opens.
use Rattle.std.proofs.Common.{Some, inl, inr, refl, subst}
use Rattle.record_reasons.specs.LineEnds.{FindsLineEnd}
use Rattle.text_commands.proofs.EndLemmas.{writes}
use Rattle.engine.proofs.commands.note_text.Goals as goal

pub returns-in_default : goal.returns-in_default
returns-in_default g c = inl refl

pub returns : goal.returns
returns g c =
    inr (
      Some c.in-Some.at,
      subst (FindsLineEnd (Some c.args.text.now)) c.in-Some.is (c.in-Ok.ensures.finds (Some c.args.text.now) c.new-records.ensures.gives),
      (
        c.put_line_end.new.sink,
        writes c.put_line_end.result _ _ _ _ _ c.put_line_end.ensures.ok c.put_line_end.ensures.front
            c.put_line_end.ensures.failures,
        c.put_open_quote.ensures,
      ),
    )
