use Rattle.std.proofs.Common.{◌≡◌, ◌<◌, ◌≤◌, vec_len}
use Rattle.noding.specs.Merging.{AreMerged, KeepsHeld, left_of}
use Rattle.noding.proofs.merging.join_neighbours.Given as goal

-- as many edges as at first, of which those before this one were joined; what held them holds them still, and those that are left hold them
abbrev pub invariant-loop-place : goal.invariant-loop-place
invariant-loop-place l = record {
  length : vec_len l.stretches ≡ vec_len l.initial.stretches;
  some : 0 < l.kept;
  order : l.kept ≤ l.place;
  held : KeepsHeld l.initial.stretches.items l.stretches.items;
  all : AreMerged (left_of l.stretches.items l.kept l.place) l.initial.stretches.items;
}
