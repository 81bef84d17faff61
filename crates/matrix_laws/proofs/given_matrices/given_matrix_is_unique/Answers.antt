use Rattle.matrix_laws.proofs.Matrices.{given_matrix_is_unique}
use Rattle.matrix_laws.proofs.given_matrices.given_matrix_is_unique.Goals as goal

pub returns : goal.returns
returns c = given_matrix_is_unique
