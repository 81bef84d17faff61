use Rattle.std.proofs.Common.{not, ap}
use Rattle.wkb.proofs.Halves.{halved_whole, halved_rest}
use Rattle.wkb.proofs.doubles.halved.Goals as goal

pub returns-clause-whole : goal.returns-clause-whole
returns-clause-whole c = halved_whole c.args.number c.args.times c.min-by.result c.requires c.min-by.ensures

pub returns-clause-rest : goal.returns-clause-rest
returns-clause-rest c = ap not (halved_rest c.args.number c.args.times c.min-by.result c.requires c.min-by.ensures)
