use Rattle.std.proofs.Common.{map, subst, sym, IsPermutation}
use Rattle.std.specs.Vec.{vec_items}
use Rattle.std.proofs.lemmas.List.Sorted.{IsPermutation-refl}
use Rattle.rtree.specs.PackedTrees.{Packs}
use Rattle.rtree.specs.Packing.{present}
use Rattle.rtree.proofs.UnpackLemmas.{unpacked_is}
use Rattle.rtree.proofs.row_trees.RowTreeEnvelopeIndex.build.Goals as goal

pub invariant_of-result : goal.invariant_of-result
invariant_of-result c =
    let es = c.args.envelopes.now in
    let tree = c.in_ok-tree.tree in
    let same = subst (λ l. IsPermutation l c.in_ok-absent.entries.items) c.in_ok-absent.ensures.others (IsPermutation-refl c.in_ok-absent.entries.items) in
    let packs = c.in_ok-tree.ensures.packs es c.in_ok-absent.ensures.absent (subst (IsPermutation (present es)) (sym c.as_slice.ensures.value) same) in
    subst (Packs tree) (sym (unpacked_is tree.absent.items tree.places.items (map vec_items tree.levels.items) es packs)) packs

pub returns : goal.returns
returns c =
    let es = c.args.envelopes.now in
    let tree = c.in_ok-tree.tree in
    let same = subst (λ l. IsPermutation l c.in_ok-absent.entries.items) c.in_ok-absent.ensures.others (IsPermutation-refl c.in_ok-absent.entries.items) in
    unpacked_is tree.absent.items tree.places.items (map vec_items tree.levels.items) es
    (c.in_ok-tree.ensures.packs es c.in_ok-absent.ensures.absent (subst (IsPermutation (present es)) (sym c.as_slice.ensures.value) same))
