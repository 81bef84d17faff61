use Rattle.std.proofs.Common.{sym, List, subst}
use Rattle.std.specs.List.{All}
use Rattle.geometry_model.specs.Points.{Point}
use Rattle.geometry_model.specs.Geometries.{Edge, edges}
use Rattle.geometry_model.specs.Pieces.{stretches}
use Rattle.edge_boxes.specs.BoxLists.{BoxesOf}
use Rattle.matrix_laws.specs.Gaps.{AreGaps}
use Rattle.de9im.specs.Raising.{ShowsGapIn}
use Rattle.de9im.specs.declared.gap_cells.Pass.TheVariants.{Second}
use Rattle.de9im.proofs.EdgePoints.{ends_kept, covers_kept}
use Rattle.matrix_laws.proofs.CoveringTheorems.{held_by_covered}
use Rattle.de9im.proofs.Rest.{gaps_off_cover, full_off_is_enough}
use Rattle.de9im.proofs.matrix_edges.raise_edge_off.Goals as goal

pub returns-then-is_full_off_by-clause-covers : goal.returns-then-is_full_off_by-clause-covers
returns-then-is_full_off_by-clause-covers c = full_off_is_enough c.args.first.now c.args.second.now c.args.edge.now c.requires.own c.requires.length
    c.args.matrix.now c.requires.ends c.requires.covered (c.is_full_off_by.ensures c.if-is_full_off_by.true)

pub returns-then-holds-clause-covers : goal.returns-then-holds-clause-covers
returns-then-holds-clause-covers c = held_by_covered c.args.first.now c.args.second.now c.args.edge.now c.requires.own c.requires.length c.args.matrix.now c.requires.covered (c.holds.ensures (edges c.args.second.now) c.requires.merged c.if-holds.true)

pub raise_gaps-requires-clause-held : goal.raise_gaps-requires-clause-held
raise_gaps-requires-clause-held c = c.holds-is_held.ensures (edges c.args.second.now) c.in_ok-merge_if_many.ensures

pub find-requires : goal.find-requires
find-requires c = subst (BoxesOf c.boxes.result.now) (sym c.segments.ensures) c.boxes.ensures

pub returns-clause-covers : goal.returns-clause-covers
returns-clause-covers c =
    let a = c.args.first.now in
    let b = c.args.second.now in
    let n = c.raise_gaps.new.matrix in
    let grown = c.raise_gaps.ensures.grows.grown in
    let are : AreGaps c.args.edge.now (edges b) c.find.new.self = subst (λ (es : List Edge). AreGaps c.args.edge.now es c.find.new.self) c.segments.ensures c.in_ok-find.ensures.found in
    gaps_off_cover a b c.requires.second_valid c.args.edge.now c.requires.own c.requires.length c.find.new.self are n
    (ends_kept a b c.args.matrix.now n grown c.requires.ends) (covers_kept a b (edges b) c.args.matrix.now n grown c.requires.covered)
    (subst (λ (xs : List Point). All (λ k. ShowsGapIn Second a b n c.args.edge.now k.lesser k.greater) (stretches xs)) c.stops.ensures c.raise_gaps.ensures.shows)
