use Rattle.std.proofs.Common.{◌<◌, None, [], length, refl, rules}
use Rattle.basics.proofs.Lists.{read_at}
use Rattle.rtree.proofs.FoundLemmas.{entries_more, found_more}
use Rattle.rtree.proofs.packing.parted.Goals as goal

pub loop-place-preserved : goal.loop-place-preserved
loop-place-preserved c =
    let es = c.args.envelopes.now in
    let i = c.loop-place.place in
    let e = c.index-envelopes-place.result in
    let within : i < length es = search rules in
    let there = read_at es i e within c.index-envelopes-place.is in
    record {
      absent = found_more es None i e [] c.loop-place.absent.items c.push_entry.new.absent.items _ there refl c.in_ok-push_entry.ensures.absent c.loop-place.invariant.absent;
      others = entries_more es i e [] c.loop-place.entries.items c.push_entry.new.entries.items there c.in_ok-push_entry.ensures.others c.loop-place.invariant.others;
    }
