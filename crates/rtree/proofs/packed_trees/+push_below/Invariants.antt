use Rattle.std.proofs.Common.{◌≡◌, ◌++◌, ◌-◌, length, map, take, drop}
use Rattle.std.specs.Prelude.{flat_map}
use Rattle.std.specs.Vec.{vec_items}
use Rattle.rtree.specs.Trees.{entries_of, groups_at, places_found}
use Rattle.rtree.proofs.packed_trees.+push_below.Given as goal

abbrev pub decreases-push_below : goal.decreases-push_below
decreases-push_below l = length l.levels.now

-- what is below the nodes before this one was found
abbrev pub invariant-loop-node : goal.invariant-loop-node
invariant-loop-node l =
    l.found.items
    ≡ l.initial.found.items
    ++ places_found l.asked (flat_map (λ node. node) (take (l.node - l.first) (drop l.first (groups_at (entries_of l.places (map vec_items l.levels)) l.top))))
