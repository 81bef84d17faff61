use Rattle.std.proofs.Common.{◌≡◌, ◌∙◌, ◌+◌, ◌||◌, sym, ap, ℕ, Bool, List, length, Some, slice_get}
use Rattle.std.specs.List.{list_any, enumerate_from}
use Rattle.basics.proofs.Lists.{drop_here}
use Rattle.geometry_model.specs.Geometries.{Edge}
use Rattle.geometry_model.specs.FirstFaults.{clash}
use Rattle.edge_boxes.specs.RingEdges.{clashes_after}
use Rattle.edge_boxes.proofs.near_edges.clashes_later.Goals as goal

-- the edge at a place, and those behind it
with_next : (edges : List Edge) (i : ℕ) (e : Edge) (n : ℕ) (f : Edge) (k : Bool) → slice_get edges n ≡ Some f → k ≡ clash (length edges) (i, e) (n, f)
    → clashes_after edges i e n ≡ (k || clashes_after edges i e (n + 1))
with_next edges i e n f k is test =
    ap (λ l. list_any (clash (length edges) (i, e)) (enumerate_from n l)) (drop_here edges n f is)
    ∙ ap (λ (b : Bool). b || clashes_after edges i e (n + 1)) (sym test)

pub returns-then-clash : goal.returns-then-clash
returns-then-clash c =
    sym (with_next c.args.edges.now c.args.i c.args.e.now (c.args.i + 1) c.edge_at.result.now c.clash.result c.edge_at.ensures c.clash.ensures
    ∙ ap (λ (b : Bool). b || clashes_after c.args.edges.now c.args.i c.args.e.now (c.args.i + 1 + 1)) c.if-clash.true)

pub returns : goal.returns
returns c =
    c.clashes_with.ensures
    ∙ sym (with_next c.args.edges.now c.args.i c.args.e.now (c.args.i + 1) c.edge_at.result.now c.clash.result c.edge_at.ensures c.clash.ensures
    ∙ ap (λ (b : Bool). b || clashes_after c.args.edges.now c.args.i c.args.e.now (c.args.i + 1 + 1)) c.if-clash.false)
