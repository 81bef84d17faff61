use Rattle.std.proofs.Common.{◌-◌, ◌∙◌, sym, ap, List, length}
use Rattle.geometry_model.specs.Points.{Position}
use Rattle.witnesses.proofs.ClashFacts.{edge_count}
use Rattle.witnesses.proofs.rings.edge_count.Goals as goal

pub returns-else-count-eq0 : goal.returns-else-count-eq0
returns-else-count-eq0 c = ap (λ (ps : List Position). length ps - 1) c.positions-count.ensures.positions ∙ sym (edge_count c.args.line.now)
