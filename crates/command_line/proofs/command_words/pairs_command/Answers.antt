use Rattle.std.proofs.Common.{◌≡◌, ◌∙◌, ap, codes}
use Rattle.std.proofs.lemmas.Result.{IfOk-weaker}
use Rattle.clap.specs.Simple.{app_of_fields}
use Rattle.clap.specs.Words.{app_of, new_app}
use Rattle.command_line.proofs.CommandLemmas.{word-added}
use Rattle.command_line.proofs.command_words.pairs_command.Goals as goal

pub returns : goal.returns
returns c =
    let bare_is : app_of c.after_help.result ≡ new_app (codes "pairs") =
    ap app_of_fields c.after_help.ensures ∙ ap app_of_fields c.about-pairs.ensures ∙ c.new.ensures.app in
    let file_is = word-added c.after_help.result c.in_ok-arg.field-0 c.file_word.result _ _ bare_is c.file_word.ensures.local
    c.file_word.ensures.rule c.in_ok-arg.ensures in
    IfOk-weaker c.arg-2.result _ _
    (λ command added. word-added c.in_ok-arg.field-0 command c.why_flag.result _ _ file_is c.why_flag.ensures.local
    c.why_flag.ensures.rule added)
    c.arg-2.ensures
