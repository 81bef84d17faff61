use Rattle.matrix_laws.proofs.Turned.{labelled_is_transposed}
use Rattle.matrix_laws.proofs.cuts.label_matrix_is_transposed.Goals as goal

pub returns : goal.returns
returns c = labelled_is_transposed
