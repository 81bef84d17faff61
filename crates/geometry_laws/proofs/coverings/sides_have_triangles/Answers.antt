use Rattle.geometry_laws.proofs.CoverTheorems.{sides_have_triangles}
use Rattle.geometry_laws.proofs.coverings.sides_have_triangles.Goals as goal

pub returns : goal.returns
returns c = sides_have_triangles
