-- The line was written, or a beginning of it.
use Rattle.std.proofs.Common.{arith}
use Rattle.csv.specs.Records.{fields_of}
use Rattle.text_commands.proofs.PairNoteLemmas.{noted_pair}
use Rattle.text_commands.proofs.pair_notes.note_next.Goals as goal

pub returns-in-Ok : goal.returns-in-Ok
returns-in-Ok g c =
    noted_pair c.args.count c.counted.result c.args.number (fields_of c.args.pair.now) c.in-Ok.is_noted _ _ _ _ (omega arith)
    c.in-Ok.ensures c.counted.ensures
