use Rattle.std.proofs.Common.{List, OnOk, subst}
use Rattle.geometry_model.specs.Geometries.{Edge}
use Rattle.noding.specs.Merging.{AreMerged}
use Rattle.de9im.proofs.matrix_edges.merge_if_many.Goals as goal

pub returns : goal.returns
returns c = subst (λ (es : List Edge). OnOk c.merge.result (AreMerged es c.merge.new.self)) c.segments.ensures c.merge.ensures.merged
