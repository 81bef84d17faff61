use Rattle.geometry_laws.proofs.CoverTheorems.{points_dont_cover}
use Rattle.geometry_laws.proofs.coverings.points_dont_cover.Goals as goal

pub returns : goal.returns
returns c = points_dont_cover
