use Rattle.std.proofs.Common.{refl}
use Rattle.geometry_model.specs.Geometries.{edges}
use Rattle.matrix_laws.specs.Cells.{Covers}
use Rattle.de9im.proofs.ApartChains.{none_between}
use Rattle.de9im.proofs.NoStretch.{no_stretch_covers}
use Rattle.de9im.proofs.matrix_edges.raise_passed_over.Goals as goal

pub returns-then-is_full_but_for_stretches-clause-covers : goal.returns-then-is_full_but_for_stretches-clause-covers
returns-then-is_full_but_for_stretches-clause-covers c =
    let full = c.if-is_full_but_for_stretches.true in
    no_stretch_covers c.args.first.now c.args.second.now c.requires.first_valid c.requires.second_valid c.requires.lengths
    c.args.matrix.now c.requires.ends (c.is_full_but_for_stretches.ensures.off full)
    (c.is_full_but_for_stretches.ensures.meeting full)
    c.left_overlapping.result c.args.end c.left_overlapping.ensures.none

pub returns-then-is_along-clause-covers : goal.returns-then-is_along-clause-covers
returns-then-is_along-clause-covers c = none_between (Covers c.args.first.now c.args.second.now c.args.matrix.now)
    (edges c.args.first.now) c.args.end c.args.end refl
