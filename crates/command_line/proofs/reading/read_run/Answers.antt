-- The three texts are the words, and the flag is there if its word is; a text that is missing is no word of the subcommand.
use Rattle.std.proofs.Common.{◌∙◌, ap, codes}
use Rattle.clap.specs.Words.{found_of}
use Rattle.clap.proofs.WalkLemmas.{first_value-rows}
use Rattle.command_line.specs.Orders.{is_set}
use Rattle.command_line.proofs.OrderLemmas.{first_of-none, first_of-text}
use Rattle.command_line.proofs.reading.read_run.Goals as goal

pub returns-in_default-clause-none : goal.returns-in_default-clause-none
returns-in_default-clause-none c (schema, directory, query) =
    first_of-none (found_of c.args.run.now) (codes "schema") _ c.in_ok-schema.ensures c.in_default.is schema

pub returns-in_default-2-clause-none : goal.returns-in_default-2-clause-none
returns-in_default-2-clause-none c (schema, directory, query) =
    first_of-none (found_of c.args.run.now) (codes "directory") _ c.in_ok-directory.ensures c.in_default-2.is directory

pub returns-in_default-3-clause-none : goal.returns-in_default-3-clause-none
returns-in_default-3-clause-none c (schema, directory, query) =
    first_of-none (found_of c.args.run.now) (codes "query") _ c.in_ok-query.ensures c.in_default-3.is query

pub returns-clause-some : goal.returns-clause-some
returns-clause-some c =
    let found = found_of c.args.run.now in (
      first_of-text found (codes "schema") c.in_ok-schema.field-0 c.in-Some.schema c.in_ok-schema.ensures c.in-Some.is,
      first_of-text found (codes "directory") c.in_ok-directory.field-0 c.in-Some-2.directory c.in_ok-directory.ensures c.in-Some-2.is,
      first_of-text found (codes "query") c.in_ok-query.field-0 c.in-Some-3.query c.in_ok-query.ensures c.in-Some-3.is,
      c.flag_of-why.ensures ∙ ap is_set (first_value-rows found (codes "why")),
    )
