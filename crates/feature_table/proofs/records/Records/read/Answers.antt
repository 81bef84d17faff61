use Rattle.std.proofs.Common.{rules}
use Rattle.csv.specs.Records.{fields_of}
use Rattle.feature_table.proofs.ReadingLemmas.{taken}
use Rattle.feature_table.proofs.records.Records.read.Goals as goal

pub returns-in-Ok-clause-takes : goal.returns-in-Ok-clause-takes
returns-in-Ok-clause-takes g c rest gives =
    taken _ c.args.self.now.reader c.read_byte_record.new.self rest c.in-Ok.found (fields_of c.read_byte_record.new.row) c.requires.ready gives (c.in-Ok.ensures.reads c.requires.ready.trim c.requires.ready.ready)

pub returns-in-Ok-clause-asked : goal.returns-in-Ok-clause-asked
returns-in-Ok-clause-asked g c = search rules

pub returns-in-Err-clause-asked : goal.returns-in-Err-clause-asked
returns-in-Err-clause-asked g c = search rules
