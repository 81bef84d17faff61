-- At the start a reader gives all records of its text.
use Rattle.std.proofs.Common.{refl}
use Rattle.feature_table.specs.Records.{records_in}
use Rattle.text_commands.proofs.runs.relate_noted.Goals as goal

pub returns-clause-relates : goal.returns-clause-relates
returns-clause-relates g c =
    c.relate_all.ensures.relates (g.R.Read.remaining c.args.reader)
    (λ text known. (records_in text, c.record_reader-records.ensures.gives text known, refl))

pub returns-clause-notes : goal.returns-clause-notes
returns-clause-notes g c =
    c.relate_all.ensures.notes (g.R.Read.remaining c.args.reader)
    (λ text known. (records_in text, c.record_reader-records.ensures.gives text known, refl))
