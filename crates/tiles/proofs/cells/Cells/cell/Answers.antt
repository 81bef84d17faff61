use Rattle.std.proofs.Common.{◌≡◌, ◌-◌, get_or, arith}
use Rattle.tiles.proofs.CutLemmas.{box_numbered}
use Rattle.tiles.proofs.cells.Cells.cell.Goals as goal

pub returns-else-number-eq0 : goal.returns-else-number-eq0
returns-else-number-eq0 c =
    let at : c.index.result.now ≡ get_or c.args.self.now (c.args.number - 1) c.index.result.now = cc in
    box_numbered c.args.self.now c.args.number c.index.result.now (omega (arith, c.if-number-eq0.false)) c.requires at
