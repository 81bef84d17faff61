-- What contracts see of a packed tree.
use Rattle.std.specs.Prelude.{List, map, Option}
use Rattle.std.specs.Vec.{vec_items}
use Rattle.geometry_model.specs.Envelopes.{Envelope}
use Rattle.rtree.specs.Packing.{Entry}
use Rattle.rtree.specs.Trees.{IsPacked, entries_of, unpacked}
use Rattle.rtree.specs.declared.packed_trees.PackedTree.{PackedTree}

-- the list of envelopes that it was built of
abbrev pub listed : PackedTree → List (Option Envelope)
listed tree = unpacked tree.absent.items tree.places.items (map vec_items tree.levels.items)

-- its entries, in their order in the tree
abbrev pub tree_entries : PackedTree → List Entry
tree_entries tree = entries_of tree.places.items (map vec_items tree.levels.items)

-- it is a packing of a list of envelopes
abbrev pub Packs : PackedTree → List (Option Envelope) → Type 0
Packs tree envelopes = IsPacked tree.absent.items tree.places.items (map vec_items tree.levels.items) envelopes
