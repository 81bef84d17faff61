-- The first line goes up to the first line feed, or to the end.
use Rattle.std.proofs.Common.{◌∙◌, sym}
use Rattle.statements.proofs.LineLemmas.{first_found, first_unfound}
use Rattle.statements.proofs.lines.first_line.Goals as goal

pub returns-in-Some-clause-first : goal.returns-in-Some-clause-first
returns-in-Some-clause-first c = first_found c.args.text.now c.in-Some.place (sym c.first_feed.ensures ∙ c.in-Some.is)

pub returns-in-None-clause-first : goal.returns-in-None-clause-first
returns-in-None-clause-first c = first_unfound c.args.text.now (sym c.first_feed.ensures ∙ c.in-None.is)
