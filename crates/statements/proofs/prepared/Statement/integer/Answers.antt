-- The digits of an item's number are its text.
use Rattle.statements.proofs.ColumnLemmas.{of_pair}
use Rattle.statements.proofs.prepared.Statement.integer.Goals as goal

pub returns-in-Pair-clause-field : goal.returns-in-Pair-clause-field
returns-in-Pair-clause-field g c =
    of_pair c.args.database.now c.args.self.now c.args.column c.in-Pair.pair c.number_in_pair.result c.in-Pair.is
    c.number_in_pair.ensures
