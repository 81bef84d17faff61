use Rattle.std.proofs.Common.{◌≡◌, ◌∙◌, ◌+◌, ◌∷◌, ◌||◌, sym, ap, ℕ, Bool, drop, length, List}
use Rattle.std.specs.List.{enumerate_from}
use Rattle.basics.proofs.Lists.{drop_here}
use Rattle.geometry_model.specs.Geometries.{Edge}
use Rattle.geometry_model.specs.FirstFaults.{any_pair, clash}
use Rattle.edge_boxes.specs.RingEdges.{clash_after, clashes_after}
use Rattle.edge_boxes.proofs.near_edges.clash_at_all.Goals as goal

-- this edge, and those behind it
with_next : (edges : List Edge) (i : ℕ) (e : Edge) (k : Bool) → drop i edges ≡ e ∷ drop (i + 1) edges → k ≡ clashes_after edges i e (i + 1)
    → clash_after edges i ≡ (k || clash_after edges (i + 1))
with_next edges i e k is test =
    ap (λ l. any_pair (clash (length edges)) (enumerate_from i l)) is
    ∙ ap (λ (b : Bool). b || clash_after edges (i + 1)) (sym test)

pub returns-then-branch : goal.returns-then-branch
returns-then-branch c =
    sym (c.loop-i.invariant ∙ with_next c.args.edges.now c.loop-i.i c.edge_at.result.now c.in_ok-clashes_later.field-0 (drop_here c.args.edges.now c.loop-i.i c.edge_at.result.now c.edge_at.ensures) c.in_ok-clashes_later.ensures
    ∙ ap (λ (b : Bool). b || clash_after c.args.edges.now (c.loop-i.i + 1)) c.if-branch.true)

pub loop-i-preserved : goal.loop-i-preserved
loop-i-preserved c =
    c.loop-i.invariant ∙ with_next c.args.edges.now c.loop-i.i c.edge_at.result.now c.in_ok-clashes_later.field-0 (drop_here c.args.edges.now c.loop-i.i c.edge_at.result.now c.edge_at.ensures) c.in_ok-clashes_later.ensures
    ∙ ap (λ (b : Bool). b || clash_after c.args.edges.now (c.loop-i.i + 1)) c.if-branch.false
