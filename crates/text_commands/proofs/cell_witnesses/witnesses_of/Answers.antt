-- What `find_witnesses` promises of the two geometries.
use Rattle.text_commands.proofs.cell_witnesses.witnesses_of.Goals as goal

pub returns-in-Ok-clause-matrix : goal.returns-in-Ok-clause-matrix
returns-in-Ok-clause-matrix c = c.in-Ok.ensures.matrix

pub returns-in-Ok-clause-shows : goal.returns-in-Ok-clause-shows
returns-in-Ok-clause-shows c = c.in-Ok.ensures.shows
