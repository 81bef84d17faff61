use Rattle.kept_tables.specs.KeptTables.{lent}
use Rattle.statements.specs.Statements.{IsOver}
use Rattle.query_tests.proofs.statement_row_tests.told_by.Given as goal

-- the statement stays over the database
abbrev pub invariant-loop-ask : goal.invariant-loop-ask
invariant-loop-ask l = IsOver (lent l.kept) l.statement
