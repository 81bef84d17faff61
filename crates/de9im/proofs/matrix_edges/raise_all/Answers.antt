use Rattle.std.proofs.Common.{◌∙◌, sym, List, subst}
use Rattle.std.specs.List.{All}
use Rattle.geometry_model.specs.Points.{Point}
use Rattle.geometry_model.specs.Geometries.{Edge, edges}
use Rattle.geometry_model.specs.Pieces.{stretches}
use Rattle.geometry_model.specs.Locations.{locate}
use Rattle.geometry_model.specs.declared.point_sets.Dimension.TheVariants.{Zero}
use Rattle.edge_boxes.specs.BoxLists.{BoxesOf}
use Rattle.matrix_laws.specs.Gaps.{AreGaps}
use Rattle.matrix_laws.specs.Cells.{Shows}
use Rattle.matrix_laws.specs.Covering.{ShowsGap}
use Rattle.matrix_laws.proofs.CoveringTheorems.{full_off_covers, gaps_cover, held_covers}
use Rattle.de9im.specs.Raising.{IsOnBoth}
use Rattle.de9im.proofs.Growth.{grows_through}
use Rattle.de9im.proofs.EdgePoints.{ends_kept, points_kept, shared_on_both}
use Rattle.de9im.proofs.matrix_edges.raise_all.Goals as goal

pub returns-then-shares_no_stretch-clause-covers : goal.returns-then-shares_no_stretch-clause-covers
returns-then-shares_no_stretch-clause-covers c =
    let a = c.args.first.now in
    let b = c.args.second.now in
    full_off_covers a b c.requires.first_valid c.requires.second_valid c.args.edge.now c.requires.own c.requires.length c.args.matrix.now c.requires.ends
    (c.is_full_off_by.ensures c.if-is_full_off_by.true) (sym c.shows_meeting.ensures ∙ c.if-shows_meeting.true)
    (c.shares_no_stretch.ensures c.if-shares_no_stretch.true)

pub returns-then-holds-clause-covers : goal.returns-then-holds-clause-covers
returns-then-holds-clause-covers c =
    let a = c.args.first.now in
    let b = c.args.second.now in
    held_covers a b c.args.edge.now c.requires.own c.args.matrix.now c.requires.ends (c.holds.ensures (edges b) c.requires.merged c.if-holds.true) (c.is_full_along.ensures c.if-is_full_along.true)

pub raise_all_gaps-requires-clause-held : goal.raise_all_gaps-requires-clause-held
raise_all_gaps-requires-clause-held c = c.holds-is_held.ensures (edges c.args.second.now) c.in_ok-merge_if_many.ensures

pub find-requires : goal.find-requires
find-requires c = subst (BoxesOf c.boxes.result.now) (sym c.segments.ensures) c.boxes.ensures

pub raise_shared-requires-clause-shared : goal.raise_shared-requires-clause-shared
raise_shared-requires-clause-shared c =
    let are : AreGaps c.args.edge.now (edges c.args.second.now) c.find.new.self = subst (λ (es : List Edge). AreGaps c.args.edge.now es c.find.new.self) c.segments.ensures c.in_ok-find.ensures.found in
    subst (All (IsOnBoth c.args.first.now c.args.second.now)) (sym c.shared.ensures) (shared_on_both c.args.first.now c.args.second.now c.args.edge.now c.find.new.self c.requires.own are)

pub returns-clause-grows : goal.returns-clause-grows
returns-clause-grows c = grows_through c.args.first.now c.args.second.now c.args.matrix.now c.raise_shared.new.matrix c.raise_all_gaps.new.matrix c.raise_shared.ensures.grows c.raise_all_gaps.ensures.grows

pub returns-clause-covers : goal.returns-clause-covers
returns-clause-covers c =
    let a = c.args.first.now in
    let b = c.args.second.now in
    let n = c.raise_all_gaps.new.matrix in
    let are : AreGaps c.args.edge.now (edges c.args.second.now) c.find.new.self = subst (λ (es : List Edge). AreGaps c.args.edge.now es c.find.new.self) c.segments.ensures c.in_ok-find.ensures.found in
    gaps_cover a b c.requires.first_valid c.requires.second_valid c.args.edge.now c.requires.own c.requires.length c.find.new.self are n
    (ends_kept a b c.args.matrix.now n (returns-clause-grows c).grown c.requires.ends)
    (subst (λ (xs : List Point). All (λ k. ShowsGap a b n c.args.edge.now k.lesser k.greater) (stretches xs)) c.stops.ensures c.raise_all_gaps.ensures.shows)
    (points_kept a b c.find.new.self.shared c.raise_shared.new.matrix n c.raise_all_gaps.ensures.grows.grown
    (subst (All (λ p. Shows c.raise_shared.new.matrix (locate a p) (locate b p) Zero)) c.shared.ensures c.raise_shared.ensures.shows))
