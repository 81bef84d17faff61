use Rattle.noding.proofs.Held.{sorted_all}
use Rattle.noding.proofs.merging.sort_by_line.Goals as goal

pub returns-clause-all : goal.returns-clause-all
returns-clause-all c = sorted_all c.args.stretches.now.items c.sort_unstable_by.new.self.items c.sort_unstable_by.ensures.permutation
