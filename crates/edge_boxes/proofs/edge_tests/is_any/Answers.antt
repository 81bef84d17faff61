use Rattle.std.proofs.Common.{◌≡◌, ◌∙◌, ◌+◌, ◌<◌, ◌||◌, ℕ, sym, ap, Bool, drop, List, get_or, length}
use Rattle.std.specs.List.{list_any}
use Rattle.std.proofs.lemmas.List.{drop_all}
use Rattle.geometry_model.specs.Geometries.{Edge}
use Rattle.edge_boxes.proofs.Rests.{at_index}
use Rattle.edge_boxes.proofs.edge_tests.is_any.Goals as goal

-- the edge at a place, and those behind it
with_next : (test : Edge → Bool) (edges : List Edge) (i : ℕ) (d e : Edge) (k : Bool) → i < length edges
    → e ≡ get_or edges i d → k ≡ test e
    → list_any test (drop i edges) ≡ (k || list_any test (drop (i + 1) edges))
with_next test edges i d e k within is passes =
    ap (list_any test) (at_index edges i d e within is)
    ∙ ap (λ (b : Bool). b || list_any test (drop (i + 1) edges)) (sym passes)

pub returns-then-passes : goal.returns-then-passes
returns-then-passes g c =
    let test = g.T.EdgeTest.test c.args.test.now in
    let edges = c.args.edges.now in
    let i = c.loop-edge.edge-index in
    sym (c.loop-edge.invariant
    ∙ with_next test edges i _ c.edge-item.result c.passes.result c.loop-edge-test.true c.edge-item.is c.passes.ensures
    ∙ ap (λ (b : Bool). b || list_any test (drop (i + 1) edges)) c.if-passes.true)

pub loop-edge-preserved : goal.loop-edge-preserved
loop-edge-preserved g c =
    let test = g.T.EdgeTest.test c.args.test.now in
    let edges = c.args.edges.now in
    let i = c.loop-edge.edge-index in
    c.loop-edge.invariant
    ∙ with_next test edges i _ c.edge-item.result c.passes.result c.loop-edge-test.true c.edge-item.is c.passes.ensures
    ∙ ap (λ (b : Bool). b || list_any test (drop (i + 1) edges)) c.if-passes.false

pub returns : goal.returns
returns g c =
    let test = g.T.EdgeTest.test c.args.test.now in
    sym (c.loop-edge.invariant ∙ ap (list_any test) (drop_all c.loop-edge.edge-index c.args.edges.now c.loop-edge-test.false))
