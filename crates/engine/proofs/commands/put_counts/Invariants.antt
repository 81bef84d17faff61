use Rattle.std.proofs.Common.{◌≡◌, take}
use Rattle.std.specs.Io.KnownBytes.{Appends}
use Rattle.engine.specs.Commands.{check_text}
use Rattle.engine.proofs.commands.put_counts.Given as goal

-- the lines of the tables before this one are written, and no put has failed
abbrev pub invariant-loop-place : goal.invariant-loop-place
invariant-loop-place g l = record {
  put : Appends (g.S.Sink.taken l.fn.out) (g.S.Sink.taken l.out) (check_text (take l.place l.database.definitions) (take l.place l.database.tables));
  same : g.S.Sink.failures l.out ≡ g.S.Sink.failures l.fn.out;
}
