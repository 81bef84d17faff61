use Rattle.std.proofs.Common.{rules}
use Rattle.wkt.proofs.list_reader.push_new.Goals as goal

pub returns-in_ok-push-clause-pushed : goal.returns-in_ok-push-clause-pushed
returns-in_ok-push-clause-pushed c = search rules
