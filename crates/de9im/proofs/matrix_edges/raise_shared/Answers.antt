use Rattle.std.proofs.Common.{refl, sym, ◌∙◌}
use Rattle.geometry_model.specs.Locations.{locate}
use Rattle.geometry_model.specs.declared.point_sets.Dimension.TheVariants.{Zero}
use Rattle.matrix_laws.specs.Cells.{Shows}
use Rattle.de9im.proofs.Growth.{grows_through, all_taken}
use Rattle.de9im.proofs.EdgePoints.{ends_kept, all_shared_shown, points_more}
use Rattle.de9im.proofs.matrix_edges.raise_shared.Goals as goal

pub returns-then-shows_meeting-clause-shows : goal.returns-then-shows_meeting-clause-shows
returns-then-shows_meeting-clause-shows c = all_shared_shown c.args.first.now c.args.second.now c.loop-p.matrix c.args.shared.now
    (ends_kept c.args.first.now c.args.second.now c.args.matrix.now c.loop-p.matrix c.loop-p.invariant.grows.grown c.requires.ends) c.requires.shared (sym c.shows_meeting.ensures ∙ c.if-shows_meeting.true)

pub loop-p-preserved : goal.loop-p-preserved
loop-p-preserved c = record {
  grows = grows_through c.args.first.now c.args.second.now c.args.matrix.now c.loop-p.matrix c.raise_point.new.matrix c.loop-p.invariant.grows c.raise_point.ensures.grows;
  shows = points_more c.args.first.now c.args.second.now c.args.shared.now c.loop-p.p-index c.p-item.result c.loop-p.matrix c.raise_point.new.matrix c.loop-p-test.true c.p-item.is
      c.raise_point.ensures.grows.grown c.loop-p.invariant.shows c.raise_point.ensures.shows;
}

pub returns-clause-shows : goal.returns-clause-shows
returns-clause-shows c = all_taken (λ p. Shows c.loop-p.matrix (locate c.args.first.now p) (locate c.args.second.now p) Zero) c.args.shared.now c.args.shared.now c.loop-p.p-index c.loop-p-test.false refl c.loop-p.invariant.shows
