use Rattle.std.proofs.Common.{ap}
use Rattle.geometry_model.specs.Geometries.{Edge}
use Rattle.orient.proofs.segments.Segment.start.Goals as goal

pub returns : goal.returns
returns c = ap (λ (e : Edge). e.start) c.self.view_is
