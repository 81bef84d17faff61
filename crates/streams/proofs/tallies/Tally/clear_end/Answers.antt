use Rattle.std.proofs.Common.{◌∙◌, sym}
use Rattle.streams.proofs.EndLemmas.{ended}
use Rattle.streams.proofs.tallies.Tally.clear_end.Goals as goal

pub returns-clause-tally : goal.returns-clause-tally
returns-clause-tally c =
    ended c.args.self c.args.bytes.now c.in_ok-end.end (sym c.is_outside.ensures ∙ c.if-not-is_outside.false)
    (rw c.if-not-has_room.false at c.has_room.ensures) c.requires c.in_ok-end.ensures
