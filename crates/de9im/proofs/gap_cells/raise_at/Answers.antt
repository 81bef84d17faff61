use Rattle.std.proofs.Common.{sym, subst}
use Rattle.de9im.specs.Raising.{IsRaisedTo, ShowsIn}
use Rattle.de9im.proofs.OffEdges.{shown_on, shown_off}
use Rattle.de9im.proofs.GapCells.{off_in, on_in_first, on_in_second}
use Rattle.de9im.proofs.gap_cells.raise_at.Goals as goal

pub returns-then-not-found : goal.returns-then-not-found
returns-then-not-found c =
    let b = c.args.second.now in
    let part = c.off_edges-part.result in
    let said = shown_off b c.args.p.now c.crossings-found.result c.kind.result part c.crossings-found.ensures c.if-not-found.true c.kind.ensures c.off_edges-part.ensures in
    off_in c.args.pass c.args.first.now b c.args.edge.now c.args.p.now part c.args.matrix.now c.raise_off.new.matrix said.0 said.1 c.raise_off.ensures

pub returns-in-First : goal.returns-in-First
returns-in-First c =
    let a = c.args.first.now in
    let b = c.args.second.now in
    let m = c.args.matrix.now in
    let n = c.raise_on.new.matrix in
    subst (λ p. IsRaisedTo (λ o. ShowsIn p a b o c.args.edge.now c.args.p.now) m n) (sym c.in-First.is)
    (on_in_first a b c.args.edge.now c.args.p.now m n (shown_on b c.args.p.now c.crossings-found.result c.crossings-found.ensures c.if-not-found.false) c.raise_on.ensures)

pub returns-in-Second : goal.returns-in-Second
returns-in-Second c =
    let a = c.args.first.now in
    let b = c.args.second.now in
    let m = c.args.matrix.now in
    subst (λ p. IsRaisedTo (λ o. ShowsIn p a b o c.args.edge.now c.args.p.now) m m) (sym c.in-Second.is)
    (on_in_second a b c.args.edge.now c.args.p.now m (shown_on b c.args.p.now c.crossings-found.result c.crossings-found.ensures c.if-not-found.false))
