use Rattle.std.proofs.Common.{sym, subst}
use Rattle.de9im.specs.Raising.{ShowsAllAlong}
use Rattle.de9im.proofs.GapCells.{all_along}
use Rattle.de9im.proofs.gap_cells.is_done.Goals as goal

pub returns-in-First : goal.returns-in-First
returns-in-First c full = subst (λ p. ShowsAllAlong p c.args.first.now c.args.second.now c.args.matrix.now c.args.edge.now) (sym c.in-First.is)
    (all_along c.args.first.now c.args.second.now c.args.matrix.now c.args.edge.now (c.is_done_off.ensures c.if-not-is_done_off.false) (c.is_full_along.ensures full))

pub returns-in-Second : goal.returns-in-Second
returns-in-Second c _ = subst (λ p. ShowsAllAlong p c.args.first.now c.args.second.now c.args.matrix.now c.args.edge.now) (sym c.in-Second.is)
    (c.is_done_off.ensures c.if-not-is_done_off.false)
