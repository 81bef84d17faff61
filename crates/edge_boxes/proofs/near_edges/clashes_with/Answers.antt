use Rattle.std.proofs.Common.{sym, ◌∙◌, length, arith}
use Rattle.geometry_model.specs.FirstFaults.{clash}
use Rattle.edge_boxes.proofs.NearRingFacts.{any_after, next_found, found_next, passed_next, none_left, clashing_share}
use Rattle.edge_boxes.proofs.near_edges.clashes_with.Goals as goal

pub loop-j-init : goal.loop-j-init
loop-j-init c = any_after (clash (length c.args.edges.now) (c.args.i, c.args.e.now)) c.args.e.now c.args.from c.args.edges.now
    (λ j f h. clashing_share (length c.args.edges.now) c.args.i j c.args.e.now f h)

pub edge_at-requires : goal.edge_at-requires
edge_at-requires c = (next_found c.args.e.now c.args.from c.args.edges.now c.args.near.now c.loop-j.j-index 0 c.requires.near c.loop-j-test.true).within

pub returns-then-clash : goal.returns-then-clash
returns-then-clash c = sym (c.loop-j.invariant ∙ found_next (clash (length c.args.edges.now) (c.args.i, c.args.e.now)) c.args.e.now c.args.from c.args.edges.now c.loop-j.j-index _ c.edge_at.result.now
    (next_found c.args.e.now c.args.from c.args.edges.now c.args.near.now c.loop-j.j-index 0 c.requires.near c.loop-j-test.true) c.edge_at.ensures (sym c.clash.ensures ∙ c.if-clash.true))

pub loop-j-preserved : goal.loop-j-preserved
loop-j-preserved c = c.loop-j.invariant ∙ passed_next (clash (length c.args.edges.now) (c.args.i, c.args.e.now)) c.args.e.now c.args.from c.args.edges.now c.loop-j.j-index _ c.edge_at.result.now
    (next_found c.args.e.now c.args.from c.args.edges.now c.args.near.now c.loop-j.j-index 0 c.requires.near c.loop-j-test.true) c.edge_at.ensures (sym c.clash.ensures ∙ c.if-clash.false)

pub returns : goal.returns
returns c = sym (c.loop-j.invariant ∙ none_left (clash (length c.args.edges.now) (c.args.i, c.args.e.now)) c.args.e.now c.args.from c.args.edges.now c.args.near.now c.loop-j.j-index c.requires.near c.loop-j-test.false)

pub clash-requires-clause-earlier : goal.clash-requires-clause-earlier
clash-requires-clause-earlier c =
    let next = (next_found c.args.e.now c.args.from c.args.edges.now c.args.near.now c.loop-j.j-index 0 c.requires.near c.loop-j-test.true).later in
    omega (arith, next)

pub clash-requires-clause-later : goal.clash-requires-clause-later
clash-requires-clause-later c = (next_found c.args.e.now c.args.from c.args.edges.now c.args.near.now c.loop-j.j-index 0 c.requires.near c.loop-j-test.true).within
