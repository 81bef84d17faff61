use Rattle.table_laws.proofs.Filters.{filters_are_asked}
use Rattle.table_laws.proofs.filter_laws.filters_are_asked.Goals as goal

pub returns : goal.returns
returns c = filters_are_asked
