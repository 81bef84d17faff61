use Rattle.geometry_laws.proofs.CoverTheorems.{lines_dont_cover}
use Rattle.geometry_laws.proofs.coverings.lines_dont_cover.Goals as goal

pub returns : goal.returns
returns c = lines_dont_cover
