use Rattle.std.proofs.Common.{refl}
use Rattle.std.proofs.lemmas.Result.{IfOk-weaker}
use Rattle.command_line.proofs.CommandLemmas.{word-added}
use Rattle.command_line.proofs.command_words.with_places.Goals as goal

pub returns : goal.returns
returns c =
    let schema_is = word-added c.args.command c.in_ok-arg.field-0 c.schema_word.result _ _ refl c.schema_word.ensures.local c.schema_word.ensures.rule
    c.in_ok-arg.ensures in
    IfOk-weaker c.arg-2.result _ _
    (λ command added. word-added c.in_ok-arg.field-0 command c.directory_word.result _ _ schema_is c.directory_word.ensures.local
    c.directory_word.ensures.rule added)
    c.arg-2.ensures
