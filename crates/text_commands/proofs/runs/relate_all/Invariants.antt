use Rattle.std.proofs.Common.{◌≡◌, List, Option, [], ℕ}
use Rattle.text_commands.specs.Pairs.{Begins}
use Rattle.text_commands.specs.declared.pair_notes.Notes.TheVariants as n
use Rattle.text_commands.proofs.PairLemmas.{Midway}
use Rattle.feature_table.specs.Reading.{IsSteady}
use Rattle.text_commands.proofs.runs.relate_all.Given as goal

-- the lines of the records so far were written, and those that note them
abbrev pub invariant-loop-place : goal.invariant-loop-place
invariant-loop-place g l = record {
  steady : IsSteady l.records;
  midway : (known : Option (List ℕ)) → Begins g.R.Read.remaining known l.fn.records []
      → Midway g.R.Read.remaining known l.records l.place l.some_refused (g.S.Sink.taken l.fn.sink) (g.S.Sink.taken l.sink)
      l.notes g.M.Sink.taken g.M.Sink.failures l.fn.more l.more;
  failures : g.S.Sink.failures l.sink ≡ g.S.Sink.failures l.fn.sink;
  stays : l.fn.notes ≡ n.Closed → l.notes ≡ n.Closed;
  closed : l.fn.notes ≡ n.Closed → l.more ≡ l.fn.more;
}
