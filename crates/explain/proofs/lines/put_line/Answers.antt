-- The parts joined are the line.
use Rattle.explain.proofs.PutLemmas.{puts}
use Rattle.explain.proofs.TextLemmas.{line_parts}
use Rattle.explain.proofs.lines.put_line.Goals as goal

pub returns : goal.returns
returns g c =
    puts g.S.Sink.taken g.S.Sink.failures c.args.sink.now c.put_parts.new.sink c.put_parts.result _ _ (rw (c.as_bytes.ensures.value) (line_parts c.args.word.now c.args.text.now))
    c.put_parts.ensures.ok c.put_parts.ensures.front c.put_parts.ensures.failures
