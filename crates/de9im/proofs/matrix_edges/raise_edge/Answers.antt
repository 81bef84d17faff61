use Rattle.std.proofs.Common.{subst}
use Rattle.de9im.specs.Raising.{IsReady}
use Rattle.de9im.proofs.matrix_edges.raise_edge.Goals as goal

pub raise_edge_off-requires-clause-covered : goal.raise_edge_off-requires-clause-covered
raise_edge_off-requires-clause-covered c = subst (λ p. IsReady p c.args.first.now c.args.second.now c.args.matrix.now) c.in-Second.is c.requires.ready
