use Rattle.std.proofs.Common.{◌≡◌, List, length, map}
use Rattle.std.specs.Vec.{vec_items}
use Rattle.rtree.specs.Packing.{Entry}
use Rattle.rtree.proofs.GroupLemmas.{IsRising}
use Rattle.rtree.proofs.packing.levels_over.Given as goal

-- the levels so far, and the one over them
abbrev pub invariant-rising : goal.invariant-rising
invariant-rising l = (entries : List Entry) → l.fn.lowest.items ≡ map (λ e. e.1) entries → IsRising entries (map vec_items l.levels.items) l.level.items

abbrev pub decreases-rising : goal.decreases-rising
decreases-rising l = length l.level.items
