-- The two texts are the words, and the flag is there if its word is; a text that is missing is no word of the subcommand.
use Rattle.std.proofs.Common.{◌∙◌, ap, codes}
use Rattle.clap.specs.Words.{found_of}
use Rattle.clap.proofs.WalkLemmas.{first_value-rows}
use Rattle.command_line.specs.Orders.{is_set}
use Rattle.command_line.proofs.OrderLemmas.{first_of-none, first_of-text}
use Rattle.command_line.proofs.reading.read_relate.Goals as goal

pub returns-in_default-clause-none : goal.returns-in_default-clause-none
returns-in_default-clause-none c (first, second) =
    first_of-none (found_of c.args.relate.now) (codes "first") _ c.in_ok-first.ensures c.in_default.is first

pub returns-in_default-2-clause-none : goal.returns-in_default-2-clause-none
returns-in_default-2-clause-none c (first, second) =
    first_of-none (found_of c.args.relate.now) (codes "second") _ c.in_ok-second.ensures c.in_default-2.is second

pub returns-clause-some : goal.returns-clause-some
returns-clause-some c =
    let found = found_of c.args.relate.now in (
      first_of-text found (codes "first") c.in_ok-first.field-0 c.in-Some.first c.in_ok-first.ensures c.in-Some.is,
      first_of-text found (codes "second") c.in_ok-second.field-0 c.in-Some-2.second c.in_ok-second.ensures c.in-Some-2.is,
      c.flag_of-why.ensures ∙ ap is_set (first_value-rows found (codes "why")),
    )
