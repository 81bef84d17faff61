use Rattle.matrix_laws.proofs.Matrices.{labels_give_matrix}
use Rattle.matrix_laws.proofs.given_matrices.labels_give_matrix.Goals as goal

pub returns : goal.returns
returns c = labels_give_matrix
