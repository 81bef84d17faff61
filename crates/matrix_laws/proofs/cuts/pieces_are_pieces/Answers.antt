use Rattle.matrix_laws.proofs.PieceLists.{pieces_are_pieces, pieces_ascend}
use Rattle.matrix_laws.proofs.cuts.pieces_are_pieces.Goals as goal

pub returns-clause-pieces : goal.returns-clause-pieces
returns-clause-pieces c = pieces_are_pieces

pub returns-clause-ascending : goal.returns-clause-ascending
returns-clause-ascending c = pieces_ascend
