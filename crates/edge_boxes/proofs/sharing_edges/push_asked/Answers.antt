use Rattle.std.proofs.Common.{◌≡◌, ◌≤◌, ◌++◌, length, reverse, ap, ◌∙◌, arith, rules}
use Rattle.edge_boxes.specs.BoxLists.{covered}
use Rattle.edge_boxes.proofs.BoxFacts.{covered_within}
use Rattle.edge_boxes.proofs.Sharing.{asked_joined, asked_uncovered, rest_found}
use Rattle.edge_boxes.proofs.sharing_edges.push_asked.Goals as goal

pub push_run-requires-clause-ordered : goal.push_run-requires-clause-ordered
push_run-requires-clause-ordered c = rw c.covered.ensures (covered_within c.args.boxes.now c.args.edges.now (length c.args.boxes.now) c.requires.boxes (omega arith))

pub loop-found-init : goal.loop-found-init
loop-found-init c = record {
  within = omega arith;
  found = asked_uncovered c.args.asked.now c.args.edges.now c.covered.result (covered c.args.boxes.now (length c.args.boxes.now)) c.args.found.now.items c.push_run.new.found.items c.covered.ensures
      (covered_within c.args.boxes.now c.args.edges.now (length c.args.boxes.now) c.requires.boxes (omega arith)) c.in_ok-push_run.ensures;
}

pub loop-found-preserved : goal.loop-found-preserved
loop-found-preserved c =
    let h = c.loop-found.invariant.within in
    let s = c.in_ok-place.ensures in
    let l = s.earlier in
    record {
      within = omega (arith, h, l);
      found = asked_joined c.args.boxes.now c.args.edges.now c.args.asked.now c.loop-found.place c.in_ok-place.place c.args.found.now.items c.loop-found.found.items c.push_step.new.found.items s c.loop-found.invariant.found;
    }

pub returns : goal.returns
returns c =
    let h : c.covered-in-loop-found.result ≤ c.args.asked.now.from = search rules in
    let e : c.covered-in-loop-found.result ≡ covered c.args.boxes.now c.loop-found.place = c.covered-in-loop-found.ensures in
    let k = covered_within c.args.boxes.now c.args.edges.now c.loop-found.place c.requires.boxes c.loop-found.invariant.within in
    c.loop-found.invariant.found ∙ ap (λ l. c.args.found.now.items ++ reverse l) (rest_found c.args.asked.now c.args.edges.now (covered c.args.boxes.now c.loop-found.place) (rw e at h) k)
