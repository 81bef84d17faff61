use Rattle.std.proofs.Common.{arith}
use Rattle.edge_boxes.proofs.Growing.{keeps_on, kept_first}
use Rattle.edge_boxes.proofs.building.push_boxes.Goals as goal

pub loop-first-preserved-in-Continue-branch-4 : goal.loop-first-preserved-in-Continue-branch-4
loop-first-preserved-in-Continue-branch-4 c =
    let next = c.in_ok-first.ensures.end in
    let rest = keeps_on c.join_full.new.boxes.items c.join_rest.new.boxes.items c.join_full-then-not-goes_on.new.boxes.items c.in_ok-join_rest.ensures c.in_ok-join_full-2.ensures in
    let keeps = keeps_on c.push_leaf.new.boxes.items c.join_full.new.boxes.items c.join_full-then-not-goes_on.new.boxes.items c.in_ok-join_full.ensures rest in
    let kept = kept_first c.push_leaf.new.boxes.items c.join_full-then-not-goes_on.new.boxes.items c.args.edges.now c.in_ok-first.first keeps c.in_ok-first.ensures.boxes next.from in
    let later = next.later in
    let chains = c.loop-first.invariant.chains in
    record { boxes = kept.0; first = kept.1; within = next.within; leaves = omega arith; chains = omega (arith, later, chains) }

pub loop-first-preserved : goal.loop-first-preserved
loop-first-preserved c =
    let next = c.in_ok-first.ensures.end in
    let kept = kept_first c.push_leaf.new.boxes.items c.join_full.new.boxes.items c.args.edges.now c.in_ok-first.first c.in_ok-join_full.ensures c.in_ok-first.ensures.boxes next.from in
    let later = next.later in
    let leaves = c.loop-first.invariant.leaves in
    let chains = c.loop-first.invariant.chains in
    record { boxes = kept.0; first = kept.1; within = next.within; leaves = omega (arith, later, leaves); chains = omega (arith, later, chains) }
