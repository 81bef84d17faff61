use Rattle.std.proofs.Common.{◌≡◌, ◌*◌, Some, map, take, drop}
use Rattle.std.specs.List.{range_with_len}
use Rattle.rtree.specs.Joins.{joined_all}
use Rattle.rtree.proofs.packing.level_over.Given as goal

-- the nodes before this one are there
abbrev pub invariant-loop-node : goal.invariant-loop-node
invariant-loop-node l = map Some l.over.items ≡ map joined_all (map (λ k. take 8 (drop (8 * k) l.level)) (range_with_len 0 l.node))
