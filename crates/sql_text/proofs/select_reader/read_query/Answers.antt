use Rattle.grammar_laws.proofs.QueryFirst.{first_is_given}
use Rattle.grammar_laws.proofs.QueryLaws.{given_is_query, query_is_given}
use Rattle.grammar_laws.proofs.QueryRefused.{given_applies}
use Rattle.sql_text.proofs.select_reader.read_query.Goals as goal

pub returns-clause-ok : goal.returns-clause-ok
returns-clause-ok c = given_is_query c.args.text.now c.read.result c.read.ensures

pub returns-clause-only : goal.returns-clause-only
returns-clause-only c = query_is_given c.args.text.now c.read.result c.read.ensures

pub returns-clause-first : goal.returns-clause-first
returns-clause-first c = first_is_given c.args.text.now c.read.result c.read.ensures

pub returns-clause-applies : goal.returns-clause-applies
returns-clause-applies c = given_applies c.args.text.now c.read.result c.read.ensures
