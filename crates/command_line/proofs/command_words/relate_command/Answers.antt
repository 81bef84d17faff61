use Rattle.std.proofs.Common.{◌≡◌, ◌∙◌, ap, codes}
use Rattle.std.proofs.lemmas.Result.{IfOk-weaker}
use Rattle.clap.specs.Simple.{app_of_fields}
use Rattle.clap.specs.Words.{app_of, new_app}
use Rattle.command_line.proofs.CommandLemmas.{word-added}
use Rattle.command_line.proofs.command_words.relate_command.Goals as goal

pub returns : goal.returns
returns c =
    let bare_is : app_of c.after_help-relate.result ≡ new_app (codes "relate") =
    ap app_of_fields c.after_help-relate.ensures ∙ ap app_of_fields c.about.ensures ∙ c.new.ensures.app in
    let first_is = word-added c.after_help-relate.result c.in_ok-arg.field-0 c.first_word.result _ _ bare_is c.first_word.ensures.local
    c.first_word.ensures.rule c.in_ok-arg.ensures in
    let second_is = word-added c.in_ok-arg.field-0 c.in_ok-arg-2.field-0
    c.second_word.result _ _ first_is c.second_word.ensures.local c.second_word.ensures.rule c.in_ok-arg-2.ensures in
    IfOk-weaker c.arg-3.result _ _
    (λ command added. word-added c.in_ok-arg-2.field-0 command c.why_flag.result _ _ second_is c.why_flag.ensures.local
    c.why_flag.ensures.rule added)
    c.arg-3.ensures
