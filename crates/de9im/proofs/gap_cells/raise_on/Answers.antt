use Rattle.std.proofs.Common.{◌∙◌, ap, sym, refl}
use Rattle.std.proofs.lemmas.Bool.{false≢true}
use Rattle.geometry_model.specs.Labels.{below, above}
use Rattle.geometry_model.specs.declared.point_sets.Dimension.TheVariants.{Two}
use Rattle.matrix_laws.specs.Cells.{raised}
use Rattle.matrix_laws.specs.Gaps.{of_own_edges}
use Rattle.de9im.proofs.GapCells.{sides_are, on_upright, on_not_upright}
use Rattle.de9im.proofs.gap_cells.raise_on.Goals as goal

pub returns-then-not-is_upright : goal.returns-then-not-is_upright
returns-then-not-is_upright c =
    let a = c.args.first.now in
    let b = c.args.second.now in
    let x = c.args.p.now in
    let n = c.raise.new.self in
    on_not_upright a b c.args.edge.now x c.of_own_edges.result c.of_own_edges-2.result c.args.matrix.now n (raised n (below a x) (below b x) Two) c.raise_sides.new.matrix
    (c.of_own_edges.ensures ∙ ap of_own_edges c.kind.ensures) (c.of_own_edges-2.ensures ∙ ap of_own_edges c.kind-2.ensures) (λ e. false≢true (sym c.if-not-is_upright.true ∙ c.is_upright.ensures.1 e))
    c.raise.ensures refl
    (sides_are c.sides_at.result c.sides_by.result (below a x) (below b x) (above a x) (above b x) n c.raise_sides.new.matrix c.sides_at.ensures.lower (c.sides_by.ensures.lower x c.requires)
    c.sides_at.ensures.upper (c.sides_by.ensures.upper x c.requires) c.raise_sides.ensures)

pub returns-else-not-is_upright : goal.returns-else-not-is_upright
returns-else-not-is_upright c =
    let a = c.args.first.now in
    let b = c.args.second.now in
    on_upright a b c.args.edge.now c.args.p.now c.of_own_edges.result c.of_own_edges-2.result c.args.matrix.now c.raise.new.self
    (c.of_own_edges.ensures ∙ ap of_own_edges c.kind.ensures) (c.of_own_edges-2.ensures ∙ ap of_own_edges c.kind-2.ensures) (c.is_upright.ensures.0 c.if-not-is_upright.false) c.raise.ensures
