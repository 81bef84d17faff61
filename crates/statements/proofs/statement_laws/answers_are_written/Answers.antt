use Rattle.statements.proofs.TextLemmas.{written_answer}
use Rattle.statements.proofs.statement_laws.answers_are_written.Goals as goal

pub returns : goal.returns
returns c = written_answer
