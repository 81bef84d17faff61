-- The digits of the numbers are computed.
use Rattle.std.proofs.Common.{refl}
use Rattle.std.specs.Fmt.{digits}
use Rattle.table_model.proofs.geometry_column_examples.functions_of_geometries.Goals as goal

pub returns : goal.returns
unfolding digits
returns c = refl
