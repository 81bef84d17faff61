-- The sink was empty, and took the line of the reason.
use Rattle.std.proofs.Common.{◌∙◌, ◌++◌, ap}
use Rattle.std.proofs.lemmas.Result.{IfOk-weaker}
use Rattle.record_reasons.specs.ReasonTexts.{reason_line}
use Rattle.engine.proofs.commands.reason_text.Goals as goal

pub returns : goal.returns
returns c =
    let line = reason_line c.args.reason.now in
    IfOk-weaker c.from_slice.result _ _
    (λ text is. is ∙ c.bytes.ensures ∙ c.in-Ok.ensures.ok ∙ ap (λ bytes. bytes ++ line) c.new-line.ensures.empty)
    c.from_slice.ensures.items
