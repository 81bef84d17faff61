use Rattle.std.proofs.Common.{subst}
use Rattle.matrix_laws.proofs.CoveringTheorems.{held_covers, held_by_covered}
use Rattle.de9im.specs.Raising.{IsReady}
use Rattle.de9im.proofs.same_edges.is_covered_if_held.Goals as goal

pub returns-in-First : goal.returns-in-First
returns-in-First c full held = held_covers c.args.first.now c.args.second.now c.args.edge.now c.requires.own c.args.matrix.now
    c.requires.ends held (c.is_full_along.ensures full)

pub returns-in-Second : goal.returns-in-Second
returns-in-Second c _ held = held_by_covered c.args.first.now c.args.second.now c.args.edge.now c.requires.own c.requires.length
    c.args.matrix.now (subst (λ p. IsReady p c.args.first.now c.args.second.now c.args.matrix.now) c.in-Second.is
    c.requires.ready) held
