use Rattle.std.proofs.Common.{take}
use Rattle.noding.specs.Merging.{AreMerged}
use Rattle.noding.proofs.merging.push_ascending.Given as goal

-- what is there so far is held by the edges, and holds those that were added
abbrev pub invariant-loop-edge : goal.invariant-loop-edge
invariant-loop-edge l = record {
  merged : AreMerged l.edges l.stretches.items;
  all : AreMerged l.stretches.items (take l.edge-index l.edges);
}
