use Rattle.csv.specs.Records.{fields_of}
use Rattle.feature_table.proofs.ReadingLemmas.{taken}
use Rattle.tiles.proofs.plain_records.PlainRecords.read.Goals as goal

pub returns-in-Ok-clause-takes : goal.returns-in-Ok-clause-takes
returns-in-Ok-clause-takes g c rest gives =
    taken _ c.args.self.now.reader c.read_byte_record.new.self rest c.in-Ok.found
    (fields_of c.read_byte_record.new.row) c.requires gives (c.in-Ok.ensures.reads c.requires.trim c.requires.ready)
