use Rattle.std.proofs.Common.{◌<◌, length, rules}
use Rattle.basics.proofs.Lists.{read_at}
use Rattle.rtree.proofs.FoundLemmas.{found_more}
use Rattle.rtree.proofs.list_index.push_meeting.Goals as goal

pub loop-place-preserved : goal.loop-place-preserved
loop-place-preserved c =
    let within : c.loop-place.place < length c.args.envelopes.now = search rules in
    found_more c.args.envelopes.now c.args.asked.now c.loop-place.place c.index-envelopes-place.result c.args.found.now.items c.loop-place.found.items c.push_if.new.found.items c.meets.result
    (read_at c.args.envelopes.now c.loop-place.place c.index-envelopes-place.result within c.index-envelopes-place.is)
    c.meets.ensures c.in_ok-push_if.ensures c.loop-place.invariant
