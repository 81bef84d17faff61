use Rattle.std.proofs.Common.{◌≡◌, ◌∙◌, ap, codes}
use Rattle.std.proofs.lemmas.Result.{IfOk-weaker}
use Rattle.clap.specs.Simple.{app_of_fields}
use Rattle.clap.specs.Words.{App, app_of, new_app, with_rule}
use Rattle.command_line.specs.CommandWords.{required_word}
use Rattle.command_line.proofs.CommandLemmas.{word-added}
use Rattle.command_line.proofs.command_words.run_command.Goals as goal

pub returns : goal.returns
returns c =
    let bare_is : app_of c.after_help-run.result ≡ new_app (codes "run") =
    ap app_of_fields c.after_help-run.ensures ∙ ap app_of_fields c.about.ensures ∙ c.new.ensures.app in
    let places_are = c.in_ok-with_places.ensures ∙ ap (λ (a : App). with_rule (with_rule a (required_word (codes "schema"))) (required_word (codes "directory"))) bare_is in
    let query_is = word-added c.in_ok-with_places.field-0 c.in_ok-arg.field-0 c.query_word.result _ _ places_are
    c.query_word.ensures.local c.query_word.ensures.rule c.in_ok-arg.ensures in
    IfOk-weaker c.arg-2.result _ _
    (λ command added. word-added c.in_ok-arg.field-0 command c.why_flag.result _ _ query_is
    c.why_flag.ensures.local c.why_flag.ensures.rule added)
    c.arg-2.ensures
