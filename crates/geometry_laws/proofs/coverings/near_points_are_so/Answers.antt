use Rattle.geometry_laws.proofs.CoverTheorems.{near_points_are_so}
use Rattle.geometry_laws.proofs.coverings.near_points_are_so.Goals as goal

pub returns : goal.returns
returns c = near_points_are_so
