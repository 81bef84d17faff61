use Rattle.grammar_laws.proofs.QueryLaws.{one_tree}
use Rattle.grammar_laws.proofs.query_laws.one_tree.Goals as goal

pub returns : goal.returns
returns c = one_tree
