use Rattle.std.proofs.Common.{◌∙◌, ◌+◌, map, ap, arith, sym}
use Rattle.std.specs.Vec.{vec_items}
use Rattle.std.proofs.lemmas.List.{length-map}
use Rattle.rtree.specs.Packing.{opened}
use Rattle.rtree.proofs.TreeLemmas.{all_met, level_met, met_bound, met_more, met_up_to}
use Rattle.rtree.proofs.WalkLemmas.{level_read}
use Rattle.rtree.proofs.trees.RTree.opened.Goals as goal

pub overflow_add-opened : goal.overflow_add-opened
overflow_add-opened c =
    let tree = c.self.inside.tree in
    let vs = tree.levels.items in
    let levels = map vec_items vs in
    let height = c.loop-height.height in
    let size = length-map vs vec_items in
    let here = c.as_slice.ensures.value ∙ level_read vec_items vs height c.index.result.now (omega arith) c.index.ensures in
    let counted = c.met-opened.ensures ∙ ap (level_met c.args.asked) here in
    let more = met_more c.args.asked levels height (omega arith) (omega (arith, size)) in
    let bound = met_bound tree.absent.items tree.places.items levels _ c.args.asked (height + 1) c.self.invariant.0 in
    omega (arith, c.loop-height.invariant, counted, more, bound, tree.places.ok.0)

pub loop-height-preserved : goal.loop-height-preserved
loop-height-preserved c =
    let tree = c.self.inside.tree in
    let vs = tree.levels.items in
    let levels = map vec_items vs in
    let height = c.loop-height.height in
    let size = length-map vs vec_items in
    let here = c.as_slice.ensures.value ∙ level_read vec_items vs height c.index.result.now (omega arith) c.index.ensures in
    let counted = c.met-opened.ensures ∙ ap (level_met c.args.asked) here in
    let more = met_more c.args.asked levels height (omega arith) (omega (arith, size)) in
    ap (λ n. n + c.met-opened.result) c.loop-height.invariant ∙ ap (λ n. met_up_to c.args.asked levels height + n) counted ∙ sym more

pub returns : goal.returns
returns c =
    let tree = c.self.inside.tree in
    let vs = tree.levels.items in
    let levels = map vec_items vs in
    let size = length-map vs vec_items in
    c.loop-height.invariant ∙ all_met tree.absent.items tree.places.items levels _ c.args.asked c.loop-height.height c.self.invariant.0 c.self.invariant.1 (omega (arith, size))
    ∙ ap (λ es. opened es c.args.asked) c.self.view_is
