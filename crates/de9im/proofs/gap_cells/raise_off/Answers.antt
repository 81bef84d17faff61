use Rattle.std.proofs.Common.{◌≡◌, ◌≢◌, ◌∙◌, ap, sym, rules}
use Rattle.std.proofs.lemmas.Bool.{false≢true}
use Rattle.geometry_model.specs.Geometries.{kind}
use Rattle.geometry_model.specs.declared.shapes.Kind.TheVariants as kinds
use Rattle.matrix_laws.specs.Gaps.{of_own_edges}
use Rattle.de9im.proofs.GapCells.{off_upright, off_one_sided, off_two_sided}
use Rattle.de9im.proofs.gap_cells.raise_off.Goals as goal

pub returns-then-is_upright : goal.returns-then-is_upright
returns-then-is_upright c = off_upright c.args.first.now c.args.edge.now c.of_own_edges.result c.args.part c.args.matrix.now c.raise.new.self
    (c.of_own_edges.ensures ∙ ap of_own_edges c.kind.ensures) (c.is_upright.ensures.0 c.if-is_upright.true) c.raise.ensures

pub returns-then-eq : goal.returns-then-eq
returns-then-eq c =
    let area : kind c.args.first.now ≡ kinds.Area = first_of (search rules, cc) in
    off_two_sided c.args.first.now c.args.edge.now c.of_own_edges.result c.args.part c.args.matrix.now c.raise.new.self c.raise-2.new.self c.raise-then-eq.new.self
    (c.of_own_edges.ensures ∙ ap of_own_edges c.kind.ensures) (λ e. false≢true (sym c.if-is_upright.false ∙ c.is_upright.ensures.1 e))
    area c.raise.ensures c.raise-2.ensures c.raise-then-eq.ensures

pub returns-else-eq : goal.returns-else-eq
returns-else-eq c =
    let other : kind c.args.first.now ≢ kinds.Area = λ k. first_of (search rules, cc) in
    off_one_sided c.args.first.now c.args.edge.now c.of_own_edges.result c.args.part c.args.matrix.now c.raise.new.self c.raise-2.new.self
    (c.of_own_edges.ensures ∙ ap of_own_edges c.kind.ensures) (λ e. false≢true (sym c.if-is_upright.false ∙ c.is_upright.ensures.1 e))
    other c.raise.ensures c.raise-2.ensures
