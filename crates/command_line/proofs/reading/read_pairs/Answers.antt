-- The text is the word, and the flag is there if its word is; a text that is missing is no word of the subcommand.
use Rattle.std.proofs.Common.{◌∙◌, ap, codes}
use Rattle.clap.specs.Words.{found_of}
use Rattle.clap.proofs.WalkLemmas.{first_value-rows}
use Rattle.command_line.specs.Orders.{is_set}
use Rattle.command_line.proofs.OrderLemmas.{first_of-none, first_of-text}
use Rattle.command_line.proofs.reading.read_pairs.Goals as goal

pub returns-in_default-clause-none : goal.returns-in_default-clause-none
returns-in_default-clause-none c file =
    first_of-none (found_of c.args.pairs.now) (codes "file") _ c.in_ok-file.ensures c.in_default.is file

pub returns-clause-some : goal.returns-clause-some
returns-clause-some c =
    let found = found_of c.args.pairs.now in (
      first_of-text found (codes "file") c.in_ok-file.field-0 c.in-Some.file c.in_ok-file.ensures c.in-Some.is,
      c.flag_of-why.ensures ∙ ap is_set (first_value-rows found (codes "why")),
    )
