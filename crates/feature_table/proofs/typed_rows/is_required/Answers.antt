use Rattle.std.proofs.Common.{rules}
use Rattle.feature_table.proofs.typed_rows.is_required.Goals as goal

pub returns-then-column : goal.returns-then-column
returns-then-column c = search rules

pub returns-else-column : goal.returns-else-column
returns-else-column c = search rules
