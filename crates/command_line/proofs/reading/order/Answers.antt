-- What `clap` promises of its answer, at the commands of `sfq`.
use Rattle.std.proofs.Common.{◌≡◌, ◌∙◌, [], ap, sym, subst}
use Rattle.clap.specs.Words.{App, HasKind, fault_of, is_simple_and_free, subcommand_of, subcommand_rows_of, takes}
use Rattle.clap.specs.Simple.{is_simple}
use Rattle.clap.specs.Walk.{texts}
use Rattle.command_line.specs.CommandWords.{sfq}
use Rattle.command_line.specs.Orders.{HasWords}
use Rattle.command_line.proofs.OrderLemmas.{misuse-keeps, sfq-free, sfq-simple}
use Rattle.command_line.proofs.TakenWords.{has-order}
use Rattle.command_line.proofs.reading.order.Goals as goal

pub returns-in_err-matches-clause-taken : goal.returns-in_err-matches-clause-taken
returns-in_err-matches-clause-taken c =
    let command_is : _ ≡ sfq = c.in_ok-command.ensures in
    let words = texts c.args.words.now in
    misuse-keeps c.from_residual-in_err-matches.result c.in_err-matches.field-0.0 _
    c.from_residual-in_err-matches.ensures.1
    (λ taken. c.in_err-matches.ensures.passes (ap (λ (a : App). takes a words) command_is ∙ taken))

pub returns-in_err-matches-clause-refused : goal.returns-in_err-matches-clause-refused
returns-in_err-matches-clause-refused c =
    let command_is : _ ≡ sfq = c.in_ok-command.ensures in
    let words = texts c.args.words.now in
    misuse-keeps c.from_residual-in_err-matches.result c.in_err-matches.field-0.0 _
    c.from_residual-in_err-matches.ensures.1
    (subst (λ (a : App). HasKind (fault_of a words) c.in_err-matches.field-0.0) command_is
    (c.in_err-matches.ensures.kinds (ap is_simple_and_free command_is ∙ sfq-free)))

pub returns-clause-accepted : goal.returns-clause-accepted
returns-clause-accepted c =
    let command_is : _ ≡ sfq = c.in_ok-command.ensures in
    let words = texts c.args.words.now in
    ap (λ (a : App). fault_of a words) (sym command_is)
    ∙ c.in_ok-matches.ensures.kinds (ap is_simple_and_free command_is ∙ sfq-free)

-- words that pass have an order
pub given_order-requires : goal.given_order-requires
given_order-requires c =
    let command_is : _ ≡ sfq = c.in_ok-command.ensures in
    let words = texts c.args.words.now in
    let passed : fault_of sfq words ≡ [] = ap (λ (a : App). fault_of a words) (sym command_is)
    ∙ c.in_ok-matches.ensures.kinds (ap is_simple_and_free command_is ∙ sfq-free) in
    let met : subcommand_rows_of c.in_ok-matches.matches ≡ subcommand_of sfq words =
    (c.in_ok-matches.ensures.matches (ap is_simple command_is ∙ sfq-simple)).1 ∙ ap (λ (a : App). subcommand_of a words) command_is in
    subst HasWords (sym met) (has-order words passed)
