-- The texts are the words, and the flag is there if its word is; the first text is missing only where its word is.
use Rattle.std.proofs.Common.{◌∙◌, ap, codes, sym}
use Rattle.clap.specs.Words.{found_of}
use Rattle.clap.proofs.WalkLemmas.{first_value-rows}
use Rattle.command_line.specs.Orders.{is_set}
use Rattle.command_line.proofs.OrderLemmas.{first_of-none, first_of-text}
use Rattle.command_line.proofs.reading.read_why.Goals as goal

pub returns-in_default-clause-none : goal.returns-in_default-clause-none
returns-in_default-clause-none c first =
    first_of-none (found_of c.args.matches.now) (codes "first") _ c.in_ok-first.ensures c.in_default.is first

pub returns-clause-some : goal.returns-clause-some
returns-clause-some c =
    let found = found_of c.args.matches.now in (
      first_of-text found (codes "first") c.in_ok-first.field-0 c.in-Some.first c.in_ok-first.ensures c.in-Some.is,
      sym (first_value-rows found (codes "second")) ∙ sym c.in_ok-second.ensures,
      c.flag_of-why.ensures ∙ ap is_set (first_value-rows found (codes "why")),
    )
