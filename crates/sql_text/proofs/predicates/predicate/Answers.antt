use Rattle.sql_text.proofs.PredicateNames.{predicate_is}
use Rattle.sql_text.proofs.predicates.predicate.Goals as goal

pub returns-in-Some : goal.returns-in-Some
returns-in-Some c = rw (predicate_is c.args.tokens.now, ← c.called.ensures, c.in-Some.is) c.call.ensures

pub returns-in-None : goal.returns-in-None
returns-in-None c = rw (predicate_is c.args.tokens.now, ← c.called.ensures, c.in-None.is) c.comparison.ensures
