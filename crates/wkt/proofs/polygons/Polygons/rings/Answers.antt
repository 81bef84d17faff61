use Rattle.std.proofs.Common.{◌∙◌, ap, sym}
use Rattle.geometry_model.specs.Geometries.{joined_rings}
use Rattle.wkt.proofs.CutFacts.{cut_joined}
use Rattle.wkt.proofs.polygons.Polygons.rings.Goals as goal

pub returns : goal.returns
returns c =
    c.as_slice.ensures.value ∙ (sym (cut_joined 0 c.self.inside.ends.items c.self.inside.rings.items c.self.invariant) ∙ ap joined_rings c.self.view_is)
