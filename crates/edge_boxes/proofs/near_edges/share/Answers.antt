use Rattle.std.proofs.Common.{◌≡◌, ◌∙◌, ◌+◌, ◌∷◌, ◌||◌, sym, ap, Bool, drop, List}
use Rattle.std.specs.List.{list_any}
use Rattle.std.proofs.lemmas.List.{drop_all}
use Rattle.geometry_model.specs.Geometries.{Edge}
use Rattle.geometry_model.specs.FirstFaults.{share_point}
use Rattle.edge_boxes.specs.RingEdges.{edges_share}
use Rattle.edge_boxes.proofs.NearRingFacts.{share_more, share_none}
use Rattle.edge_boxes.proofs.Rests.{at_index}
use Rattle.edge_boxes.proofs.near_edges.share.Goals as goal

-- the next of the others, and those behind it
with_next : (edges others rest : List Edge) (k : Bool) (f : Edge) → others ≡ f ∷ rest → k ≡ list_any (λ (e : Edge). share_point e f) edges → edges_share edges others ≡ (k || edges_share edges rest)
with_next edges others rest k f is test = ap (edges_share edges) is ∙ share_more edges f rest ∙ ap (λ (b : Bool). b || edges_share edges rest) (sym test)

pub returns-then-branch-clause-exact : goal.returns-then-branch-clause-exact
returns-then-branch-clause-exact c =
    sym (c.loop-f.invariant ∙ with_next c.args.edges.now (drop c.loop-f.f-index c.args.others.now) (drop (c.loop-f.f-index + 1) c.args.others.now) c.in_ok-shares_any.field-0 c.f-item.result
    (at_index c.args.others.now c.loop-f.f-index _ c.f-item.result c.loop-f-test.true c.f-item.is) c.in_ok-shares_any.ensures.shares
    ∙ ap (λ (b : Bool). b || edges_share c.args.edges.now (drop (c.loop-f.f-index + 1) c.args.others.now)) c.if-branch.true)

pub loop-f-preserved : goal.loop-f-preserved
loop-f-preserved c =
    c.loop-f.invariant ∙ with_next c.args.edges.now (drop c.loop-f.f-index c.args.others.now) (drop (c.loop-f.f-index + 1) c.args.others.now) c.in_ok-shares_any.field-0 c.f-item.result
    (at_index c.args.others.now c.loop-f.f-index _ c.f-item.result c.loop-f-test.true c.f-item.is) c.in_ok-shares_any.ensures.shares
    ∙ ap (λ (b : Bool). b || edges_share c.args.edges.now (drop (c.loop-f.f-index + 1) c.args.others.now)) c.if-branch.false

pub returns-clause-exact : goal.returns-clause-exact
returns-clause-exact c = sym (c.loop-f.invariant ∙ ap (edges_share c.args.edges.now) (drop_all c.loop-f.f-index c.args.others.now c.loop-f-test.false) ∙ share_none c.args.edges.now)
