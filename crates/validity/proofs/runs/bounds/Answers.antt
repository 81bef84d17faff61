use Rattle.std.proofs.Common.{◌-◌, arith}
use Rattle.std.proofs.lemmas.Option.{slice_get-get_or}
use Rattle.wkt.proofs.CutFacts.{start_is}
use Rattle.validity.proofs.runs.bounds.Goals as goal

pub returns-else-index-eq0-clause-start : goal.returns-else-index-eq0-clause-start
returns-else-index-eq0-clause-start c = start_is 0 c.args.ends.now c.args.index (c.args.index - 1) (omega (arith, c.if-index-eq0.false)) c.requires

pub returns-else-index-eq0-clause-end : goal.returns-else-index-eq0-clause-end
returns-else-index-eq0-clause-end c = slice_get-get_or c.args.ends.now c.args.index 0 c.requires
