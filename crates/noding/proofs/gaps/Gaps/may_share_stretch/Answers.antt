use Rattle.std.proofs.Common.{sym, ◌∙◌}
use Rattle.noding.proofs.Shared.{none_shares}
use Rattle.noding.proofs.gaps.Gaps.may_share_stretch.Goals as goal

pub returns-clause-none : goal.returns-clause-none
returns-clause-none c none = none_shares c.args.edge.now c.args.others.now (sym c.overlaps_on_line.ensures ∙ none)
