use Rattle.std.proofs.Common.{rules}
use Rattle.feature_table.proofs.tables.Table.rows.Goals as goal

pub returns-clause-count : goal.returns-clause-count
returns-clause-count g c = search rules

pub returns-clause-table : goal.returns-clause-table
returns-clause-table g c = search rules
