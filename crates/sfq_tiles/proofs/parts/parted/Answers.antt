-- Without the separator there is no rest.
use Rattle.std.proofs.Common.{None, sym}
use Rattle.sfq_tiles.proofs.WordLemmas.{parts_are}
use Rattle.sfq_tiles.proofs.parts.parted.Goals as goal

pub returns-in-None-clause-rest : goal.returns-in-None-clause-rest
returns-in-None-clause-rest c = sym (parts_are c.args.separator c.args.text.now None c.in-None.ensures.cases c.requires).1
