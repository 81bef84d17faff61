use Rattle.csv.specs.Records.{fields_of}
use Rattle.streams.proofs.LineLemmas.{line-ended}
use Rattle.streams.proofs.lines.push_line.Goals as goal

pub returns : goal.returns
returns c = line-ended c.push_end.result (fields_of c.args.fields.now) _ _ c.in_ok-push_fields.ensures c.push_end.ensures
