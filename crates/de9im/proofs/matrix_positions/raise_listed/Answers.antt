use Rattle.std.proofs.Common.{◌≡◌, ◌∙◌, ap, sym, subst}
use Rattle.std.specs.List.{All}
use Rattle.geometry_model.specs.Geometries.{Geometry, edges, listed}
use Rattle.geometry_model.specs.declared.point_sets.Location.TheVariants.{Interior}
use Rattle.validity.specs.ValidGeometries.{HasLength}
use Rattle.matrix_laws.specs.Cells.{CoversPosition}
use Rattle.de9im.specs.Raising.{LiesIn}
use Rattle.de9im.proofs.ListedPositions.{listed_lie}
use Rattle.de9im.proofs.matrix_positions.raise_listed.Goals as goal

pub returns-clause-grows : goal.returns-clause-grows
returns-clause-grows c =
    let a = c.args.first.now in
    let same : c.listed-listed.result.now ≡ listed a = c.listed-listed.ensures.listed ∙ ap listed c.geometry-geometry.ensures.same in
    c.raise_positions.ensures.grows a (subst (All (LiesIn Interior a)) (sym same) (listed_lie a))

pub returns-clause-shows : goal.returns-clause-shows
returns-clause-shows c =
    let a = c.args.first.now in
    let same : c.listed-listed.result.now ≡ listed a = c.listed-listed.ensures.listed ∙ ap listed c.geometry-geometry.ensures.same in
    subst (All (CoversPosition a c.args.second.now c.raise_positions.new.matrix)) same
    (c.raise_positions.ensures.shows a (subst (All (LiesIn Interior a)) (sym same) (listed_lie a)))

pub returns-clause-lengths : goal.returns-clause-lengths
returns-clause-lengths c = subst (λ (g : Geometry). All HasLength (edges g)) c.geometry-geometry.ensures.same c.listed-listed.ensures.kept.ends_differ
