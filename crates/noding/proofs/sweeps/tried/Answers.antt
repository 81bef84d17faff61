use Rattle.std.proofs.Common.{rules, sym, ◌∙◌}
use Rattle.noding.proofs.Sweeping.{y_apart, no_common_cut}
use Rattle.noding.proofs.sweeps.tried.Goals as goal

pub returns-else-y_ranges_overlap-clause-exact : goal.returns-else-y_ranges_overlap-clause-exact
returns-else-y_ranges_overlap-clause-exact c = y_apart c.args.first.now c.args.second.now (sym c.y_ranges_overlap.ensures ∙ c.if-y_ranges_overlap.false)

pub returns-else-y_ranges_overlap-clause-found : goal.returns-else-y_ranges_overlap-clause-found
returns-else-y_ranges_overlap-clause-found c = λ p hp k. absurd (no_common_cut c.args.first.now c.args.second.now (y_apart c.args.first.now c.args.second.now (sym c.y_ranges_overlap.ensures ∙ c.if-y_ranges_overlap.false)) p hp k)

pub returns-then-y_ranges_overlap-clause-counted : goal.returns-then-y_ranges_overlap-clause-counted
returns-then-y_ranges_overlap-clause-counted c = search rules

pub returns-else-y_ranges_overlap-clause-counted : goal.returns-else-y_ranges_overlap-clause-counted
returns-else-y_ranges_overlap-clause-counted c = search rules
