-- A record that is there is the first of those that were left; without one, none was left.
use Rattle.csv.specs.Records.{fields_of}
use Rattle.record_reasons.proofs.SeenLemmas.{takes-ok}
use Rattle.record_reasons.proofs.seen_records.take_record.Goals as goal

pub returns-clause-takes : goal.returns-clause-takes
returns-clause-takes g c =
    takes-ok g.R.Read.remaining c.args.records.now c.next_record.new.records (fields_of c.next_record.new.record) c.next_record.result
    c.next_record.ensures.takes
