use Rattle.std.proofs.Common.{rules}
use Rattle.query_runs.proofs.record_fields.function_header.Goals as goal

pub returns : goal.returns
returns c = search rules
