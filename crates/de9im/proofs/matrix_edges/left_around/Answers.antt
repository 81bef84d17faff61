use Rattle.std.proofs.Common.{refl}
use Rattle.geometry_model.specs.Geometries.{edges}
use Rattle.matrix_laws.specs.Cells.{Covers}
use Rattle.de9im.proofs.ApartChains.{none_between}
use Rattle.de9im.proofs.matrix_edges.left_around.Goals as goal

pub returns-in-None-clause-covers : goal.returns-in-None-clause-covers
returns-in-None-clause-covers c = none_between (Covers c.args.first.now c.args.second.now c.args.matrix.now)
    (edges c.args.first.now) c.args.end c.args.end refl
