use Rattle.std.proofs.Common.{subst, sym}
use Rattle.geometry_model.specs.Dimensions.{Matrix}
use Rattle.matrix_laws.specs.Cells.{IsPartOf}
use Rattle.matrix_laws.specs.Covering.{ShowsEnds}
use Rattle.de9im.specs.Raising.{Grows}
use Rattle.de9im.proofs.ApartEdges.{apart_turned}
use Rattle.de9im.proofs.Passes.{ends_turned, ends_again, passes_give, is_matrix}
use Rattle.de9im.proofs.apart.find_apart.Goals as goal

pub raise_edges_apart-requires-clause-ends : goal.raise_edges_apart-requires-clause-ends
raise_edges_apart-requires-clause-ends c = ends_turned c.args.first.now c.args.second.now c.raise_own_ends.new.matrix
    c.raise_own_ends-2.new.matrix c.raise_own_ends.ensures.shows
    (subst (λ (m : Matrix). IsPartOf m c.raise_own_ends-2.new.matrix) c.transposed-turned.ensures
    c.raise_own_ends-2.ensures.grows.grown) c.raise_own_ends-2.ensures.shows

pub raise_edges_apart-requires-2-clause-ends : goal.raise_edges_apart-requires-2-clause-ends
raise_edges_apart-requires-2-clause-ends c = subst (ShowsEnds c.args.first.now c.args.second.now)
    (sym c.transposed-matrix.ensures)
    (ends_again c.args.first.now c.args.second.now c.raise_own_ends.new.matrix c.raise_own_ends-2.new.matrix
    c.raise_edges_apart.new.matrix c.raise_own_ends.ensures.shows
    (subst (λ (m : Matrix). IsPartOf m c.raise_own_ends-2.new.matrix) c.transposed-turned.ensures
    c.raise_own_ends-2.ensures.grows.grown) c.raise_own_ends-2.ensures.shows c.raise_edges_apart.ensures.grows.grown)

pub raise_edges_apart-requires-clause-apart : goal.raise_edges_apart-requires-clause-apart
raise_edges_apart-requires-clause-apart c = apart_turned c.args.first.now c.args.second.now c.requires

pub returns-clause-labelled : goal.returns-clause-labelled
returns-clause-labelled c =
    let a = c.args.first.now in
    let b = c.args.second.now in
    passes_give a b c.raise_own_ends.new.matrix c.raise_own_ends-2.new.matrix c.raise_edges_apart.new.matrix
    c.raise_edges_apart-2.new.matrix c.raise_own_ends.ensures.valid c.raise_own_ends-2.ensures.valid
    (subst (λ (m : Matrix). Grows a b m c.raise_own_ends.new.matrix) c.of_exteriors-matrix.ensures
    c.raise_own_ends.ensures.grows) c.raise_own_ends.ensures.shows
    (subst (λ (m : Matrix). Grows b a m c.raise_own_ends-2.new.matrix) c.transposed-turned.ensures
    c.raise_own_ends-2.ensures.grows) c.raise_own_ends-2.ensures.shows
    c.raise_edges_apart.ensures.grows c.raise_edges_apart.ensures.covers
    (subst (λ (m : Matrix). Grows a b m c.raise_edges_apart-2.new.matrix) c.transposed-matrix.ensures
    c.raise_edges_apart-2.ensures.grows) c.raise_edges_apart-2.ensures.covers

pub returns-clause-point_sets : goal.returns-clause-point_sets
returns-clause-point_sets c = is_matrix c.args.first.now c.args.second.now c.raise_edges_apart-2.new.matrix
    c.raise_own_ends.ensures.valid c.raise_own_ends-2.ensures.valid (returns-clause-labelled c)
