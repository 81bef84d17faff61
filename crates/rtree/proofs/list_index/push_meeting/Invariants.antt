use Rattle.std.proofs.Common.{◌≡◌, ◌++◌, take}
use Rattle.rtree.specs.Found.{meeting_places}
use Rattle.rtree.proofs.list_index.push_meeting.Given as goal

-- the envelopes before this one were asked
abbrev pub invariant-loop-place : goal.invariant-loop-place
invariant-loop-place l = l.found.items ≡ l.initial.found.items ++ meeting_places (take l.place l.envelopes) l.asked
