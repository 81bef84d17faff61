use Rattle.std.proofs.Common.{refl}
use Rattle.streams.proofs.RunLemmas.{stay-unquoted}
use Rattle.streams.proofs.tallies.Tally.after_run.Goals as goal

pub returns-in-Quoted : goal.returns-in-Quoted
returns-in-Quoted c = c.after_staying.ensures c.args.bytes.now refl (rw c.in-Quoted.is (stay-unquoted c.args.bytes.now c.requires.unquoted))
