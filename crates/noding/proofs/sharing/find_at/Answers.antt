use Rattle.std.proofs.Common.{sym}
use Rattle.noding.specs.Steps.{IsAtPlace}
use Rattle.noding.proofs.NearGaps.{near_within, place_is_there}
use Rattle.noding.proofs.Shared.{shared_more, one_at_place, all_near_shared}
use Rattle.noding.proofs.sharing.find_at.Goals as goal

pub edge_at-requires : goal.edge_at-requires
edge_at-requires c = near_within c.args.edge.now c.args.others.now c.args.places.now c.loop-place.place-index 0 c.requires c.loop-place-test.true

pub loop-place-preserved : goal.loop-place-preserved
loop-place-preserved c =
    let k = c.loop-place.place-index in
    let within = near_within c.args.edge.now c.args.others.now c.args.places.now k 0 c.requires c.loop-place-test.true in
    shared_more c.args.edge.now c.args.others.now (IsAtPlace c.args.others.now c.args.places.now) k c.edge_at.result.now c.meet.result c.loop-place.points.items c.push_named.new.points.items
    (_, within, sym c.edge_at.ensures)
    (λ g. one_at_place c.args.others.now c.args.places.now k _ c.edge_at.result.now g c.loop-place-test.true (place_is_there c.args.places.now k 0 c.loop-place-test.true) within c.edge_at.ensures)
    (record { exact = c.meet.ensures.exact; cuts = c.meet.ensures.cuts; names = c.meet.ensures.found; least = c.meet.ensures.least; limit = c.meet.ensures.limit })
    (c.in_ok-push_named.ensures) c.loop-place.invariant

pub returns : goal.returns
returns c = all_near_shared c.args.edge.now c.args.others.now c.args.places.now c.loop-place.place-index c.loop-place.points.items c.requires c.loop-place-test.false c.loop-place.invariant
