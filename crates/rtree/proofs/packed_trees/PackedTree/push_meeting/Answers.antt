use Rattle.std.proofs.Common.{◌≡◌, ◌∙◌, ◌++◌, map, ap, subst, sym, IsPermutation}
use Rattle.std.specs.Vec.{vec_items}
use Rattle.rtree.specs.PackedTrees.{listed, tree_entries}
use Rattle.rtree.specs.Trees.{AreLevels, found_below, places_found}
use Rattle.rtree.proofs.TreeLemmas.{are_levels, found_all}
use Rattle.rtree.proofs.UnpackLemmas.{found_is}
use Rattle.rtree.proofs.packed_trees.PackedTree.push_meeting.Goals as goal

pub push_below-requires-clause-levels : goal.push_below-requires-clause-levels
push_below-requires-clause-levels c =
    let tree = c.args.self.now in
    let levels = are_levels tree.absent.items tree.places.items (map vec_items tree.levels.items) (listed tree) c.requires.packs in
    subst (λ places. AreLevels places (map vec_items c.as_slice.result.now)) (sym c.as_slice-2.ensures.value)
    (subst (λ vs. AreLevels tree.places.items (map vec_items vs)) (sym c.as_slice.ensures.value) levels)

pub returns : goal.returns
returns c =
    let tree = c.args.self.now in
    let asked = c.args.asked in
    let found : c.push_below.new.found.items ≡ places_found asked (tree_entries tree) =
    c.in_ok-push_below.ensures ∙ ap (λ l. l ++ found_below c.as_slice-2.result.now (map vec_items c.as_slice.result.now) 0 asked) c.requires.empty
    ∙ ap (λ places. found_below places (map vec_items c.as_slice.result.now) 0 asked) c.as_slice-2.ensures.value
    ∙ ap (λ vs. found_below tree.places.items (map vec_items vs) 0 asked) c.as_slice.ensures.value
    ∙ found_all tree.absent.items tree.places.items (map vec_items tree.levels.items) (listed tree) asked c.requires.packs in
    found_is (listed tree) (tree_entries tree) asked c.sort_unstable.new.self.items c.requires.packs.moved
    (subst (λ l. IsPermutation l c.sort_unstable.new.self.items) found c.sort_unstable.ensures.permutation) c.sort_unstable.ensures.sorted
