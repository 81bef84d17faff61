use Rattle.std.proofs.Common.{◌∙◌, ◌<◌, Some, length, take, ap, sym, rules}
use Rattle.rtree.specs.Joins.{joined_all}
use Rattle.rtree.proofs.FoundLemmas.{taken}
use Rattle.rtree.proofs.JoinLemmas.{joined_more}
use Rattle.rtree.proofs.packing.around.Goals as goal

pub loop-place-preserved : goal.loop-place-preserved
loop-place-preserved c =
    let es = c.args.envelopes.now in
    let i = c.loop-place.place in
    let e = c.index-envelopes-place.result in
    let within : i < length es = search rules in
    ap Some c.joined-all.ensures ∙ joined_more (take i es) c.loop-place.all e c.loop-place.invariant ∙ ap joined_all (sym (taken es i e within c.index-envelopes-place.is))
