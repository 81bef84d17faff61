use Rattle.std.proofs.Common.{◌∙◌, map, ap, subst, sym, IsPermutation}
use Rattle.std.specs.Vec.{vec_items}
use Rattle.rtree.specs.PackedTrees.{Packs}
use Rattle.rtree.specs.Packing.{in_order, present}
use Rattle.rtree.proofs.UnpackLemmas.{ordered_is, unpacked_is}
use Rattle.rtree.proofs.trees.RTreeEnvelopeIndex.build.Goals as goal

pub invariant_of-result : goal.invariant_of-result
invariant_of-result c =
    let es = c.args.envelopes.now in
    let tree = c.in_ok-tree.tree in
    let entries = c.put_in_order.new.entries.items in
    let moved = subst (λ l. IsPermutation l entries) c.in_ok-absent.ensures.others c.put_in_order.ensures.moved in
    let packs = c.in_ok-tree.ensures.packs es c.in_ok-absent.ensures.absent (subst (IsPermutation (present es)) (sym c.as_slice.ensures.value) moved) in
    let is = sym (unpacked_is tree.absent.items tree.places.items (map vec_items tree.levels.items) es packs) in (
      subst (Packs tree) is packs,
      c.in_ok-tree.ensures.order ∙ c.as_slice.ensures.value ∙ ordered_is es entries moved c.put_in_order.ensures.sorted ∙ ap (λ l. in_order (present l)) is,
    )

pub returns : goal.returns
returns c =
    let es = c.args.envelopes.now in
    let tree = c.in_ok-tree.tree in
    let entries = c.put_in_order.new.entries.items in
    let moved = subst (λ l. IsPermutation l entries) c.in_ok-absent.ensures.others c.put_in_order.ensures.moved in
    unpacked_is tree.absent.items tree.places.items (map vec_items tree.levels.items) es
    (c.in_ok-tree.ensures.packs es c.in_ok-absent.ensures.absent (subst (IsPermutation (present es)) (sym c.as_slice.ensures.value) moved))
