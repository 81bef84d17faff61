use Rattle.std.proofs.Common.{subst}
use Rattle.validity.specs.ValidGeometries.{AreSearched}
use Rattle.validity.proofs.Kept.{is_kept}
use Rattle.validity.proofs.valid_geometry.with_boxes.Goals as goal

pub returns-clause-kept : goal.returns-clause-kept
returns-clause-kept c = is_kept c.args.outline c.args.boxes c.requires.boxes c.requires.faultless

pub returns-clause-searched : goal.returns-clause-searched
returns-clause-searched c = subst (AreSearched c.in_ok-positions.positions.items) c.geometry.ensures c.in_ok-positions.ensures
