use Rattle.geometry_model.specs.Geometries.{edges, listed, rings}
use Rattle.geometry_laws.specs.RingLaws.{IsClosed, Misses}
use Rattle.geometry_laws.proofs.RingParity.{each_from_all}
use Rattle.matrix_laws.specs.PolygonLaws.{PassesBy}
use Rattle.matrix_laws.proofs.Stretch.{stretch_stays}
use Rattle.matrix_laws.proofs.areas.stretch_stays.Goals as goal

pub returns : goal.returns
returns _ g p q c hp hq h k m n l = stretch_stays g p q (each_from_all IsClosed (rings g) c) hp hq (each_from_all (Misses p q) (edges g) h) (each_from_all (PassesBy p q) (listed g) k) m n l
