use Rattle.std.proofs.Common.{◌≡◌, false, ap, sym, subst, length, List}
use Rattle.std.specs.List.{All}
use Rattle.geometry_model.specs.Geometries.{Edge, edges}
use Rattle.edge_boxes.specs.RingEdges.{edges_share}
use Rattle.matrix_laws.specs.Cells.{Covers}
use Rattle.de9im.proofs.ApartChains.{whole_part}
use Rattle.de9im.proofs.apart.raise_edges_apart.Goals as goal

pub raise_run_apart-requires-clause-apart : goal.raise_run_apart-requires-clause-apart
raise_run_apart-requires-clause-apart c =
    subst (λ (es : List Edge). edges_share es (edges c.args.second.now) ≡ false)
    (sym (whole_part (edges c.args.first.now) (length c.segments.result.now) (ap length c.segments.ensures))) c.requires.apart

pub returns-clause-covers : goal.returns-clause-covers
returns-clause-covers c =
    subst (λ (es : List Edge). All (Covers c.args.first.now c.args.second.now c.raise_run_apart.new.matrix) es)
    (whole_part (edges c.args.first.now) (length c.segments.result.now) (ap length c.segments.ensures))
    c.raise_run_apart.ensures.covers
