use Rattle.std.proofs.Common.{refl}
use Rattle.std.proofs.lemmas.Result.{IfOk-weaker}
use Rattle.command_line.specs.CommandWords.{check, fault, pairs, relate, run, why}
use Rattle.command_line.proofs.CommandLemmas.{subcommand-added}
use Rattle.command_line.proofs.command_words.sfq_command.Goals as goal

pub returns : goal.returns
returns c =
    let run_is = subcommand-added c.run_command.result c.bare_command.result c.in_ok-with_run.with_run _ run refl c.bare_command.ensures
    c.run_command.ensures c.in_ok-with_run.ensures in
    let check_is = subcommand-added c.check_command.result c.in_ok-with_run.with_run c.in_ok-with_check.with_check _ check refl run_is
    c.check_command.ensures c.in_ok-with_check.ensures in
    let relate_is = subcommand-added c.relate_command.result c.in_ok-with_check.with_check c.in_ok-with_relate.with_relate _ relate refl check_is
    c.relate_command.ensures c.in_ok-with_relate.ensures in
    let why_is = subcommand-added c.why_command.result c.in_ok-with_relate.with_relate c.in_ok-with_why.with_why _ why refl relate_is
    c.why_command.ensures c.in_ok-with_why.ensures in
    let pairs_is = subcommand-added c.pairs_command.result c.in_ok-with_why.with_why c.in_ok-with_pairs.with_pairs _ pairs refl why_is
    c.pairs_command.ensures c.in_ok-with_pairs.ensures in
    IfOk-weaker c.with_command-6.result _ _
    (λ command added. subcommand-added c.fault_command.result c.in_ok-with_pairs.with_pairs command _ fault refl pairs_is
    c.fault_command.ensures added)
    c.with_command-6.ensures
