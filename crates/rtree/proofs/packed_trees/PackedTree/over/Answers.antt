use Rattle.std.proofs.Common.{map}
use Rattle.std.specs.Vec.{vec_items}
use Rattle.rtree.proofs.UnpackLemmas.{entries_are, is_packed}
use Rattle.rtree.proofs.packed_trees.PackedTree.over.Goals as goal

pub returns-clause-packs : goal.returns-clause-packs
returns-clause-packs c es none moved =
    let entries = c.args.entries.now in
    is_packed c.args.absent.items c.in_ok-places.places.items (map vec_items c.in_ok-levels.levels.items) entries es none moved c.in_ok-places.ensures
    (c.in_ok-levels.ensures entries c.in_ok-envelopes_of.ensures)

pub returns-clause-order : goal.returns-clause-order
returns-clause-order c =
    let entries = c.args.entries.now in
    entries_are c.in_ok-places.places.items (map vec_items c.in_ok-levels.levels.items) entries c.in_ok-places.ensures (c.in_ok-levels.ensures entries c.in_ok-envelopes_of.ensures)
