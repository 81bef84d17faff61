use Rattle.std.proofs.Common.{◌≡◌, ◌∙◌, false, ap, sym, subst, List}
use Rattle.std.specs.Prelude.{slice_range}
use Rattle.std.specs.List.{list_any}
use Rattle.geometry_model.specs.Geometries.{Edge}
use Rattle.geometry_model.specs.declared.point_sets.Location.{Location}
use Rattle.geometry_model.specs.declared.point_sets.Location.TheVariants.{Exterior}
use Rattle.geometry_model.specs.declared.point_sets.Dimension.TheVariants.{One}
use Rattle.matrix_laws.specs.Cells.{Shows}
use Rattle.matrix_laws.specs.Gaps.{of_own_edges}
use Rattle.edge_boxes.specs.BoxLists.{BoxesOf}
use Rattle.edge_boxes.specs.NearEdges.{is_near}
use Rattle.std.specs.List.{All}
use Rattle.de9im.specs.Raising.{IsUprightOutside}
use Rattle.de9im.proofs.OutsideEdges.{part_covered, upright_covered}
use Rattle.de9im.proofs.outside_edges.left_to_raise.Goals as goal

pub last_near-requires-clause-boxes : goal.last_near-requires-clause-boxes
last_near-requires-clause-boxes c = subst (BoxesOf c.boxes.result.now) (sym c.segments.ensures) c.boxes.ensures

pub returns-then-is_full_outside-clause-covers : goal.returns-then-is_full_outside-clause-covers
returns-then-is_full_outside-clause-covers c =
    let a = c.args.first.now in
    let b = c.args.second.now in
    let around = c.args.around.now in
    part_covered a b c.requires.second_valid around c.requires.around c.args.matrix.now c.requires.ends (c.is_full_outside.ensures c.if-is_full_outside.true a (sym c.kind.ensures)) c.last_near.result c.args.end
    (subst (λ (es : List Edge). list_any (is_near around) (slice_range es c.last_near.result c.args.end) ≡ false) c.segments.ensures c.last_near.ensures.outside)

pub returns-then-shows-clause-covers : goal.returns-then-shows-clause-covers
returns-then-shows-clause-covers c =
    let a = c.args.first.now in
    let b = c.args.second.now in
    let around = c.args.around.now in
    let shown = subst (λ (l : Location). Shows c.args.matrix.now l Exterior One) (c.of_own_edges.ensures ∙ ap of_own_edges c.kind-2.ensures) (sym c.shows.ensures ∙ c.if-shows.true) in
    upright_covered a b c.requires.second_valid around c.requires.around c.args.matrix.now c.requires.ends shown c.left_upright.result c.args.end
    (subst (λ (es : List Edge). All (IsUprightOutside around) (slice_range es c.left_upright.result c.args.end)) c.segments-then-shows.ensures c.left_upright.ensures.outside)
