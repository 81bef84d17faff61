-- A bound query has one or two references, whose tables are there.
use Rattle.statements.proofs.written_rows.pair_text.Goals as goal

pub put_pair-requires-clause-references : goal.put_pair-requires-clause-references
put_pair-requires-clause-references g c = (c.requires.bound.references.few, c.requires.bound.references.there)
