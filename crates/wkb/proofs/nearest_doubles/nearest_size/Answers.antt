use Rattle.std.proofs.Common.{◌∙◌, sym}
use Rattle.wkb.proofs.Scaling.{no_size, rounded_up, rounded_down}
use Rattle.wkb.proofs.nearest_doubles.nearest_size.Goals as goal

pub returns-then-number-eq0-clause-value : goal.returns-then-number-eq0-clause-value
returns-then-number-eq0-clause-value c = no_size c.args.number c.args.parts c.if-number-eq0.true c.requires.some

pub returns-then-is_rounded_up-clause-value : goal.returns-then-is_rounded_up-clause-value
returns-then-is_rounded_up-clause-value c =
    rounded_up c.args.number c.args.parts c.from.result c.significand-found.result c.significand-found.ensures c.from.ensures
    (sym c.is_rounded_up.ensures ∙ c.if-is_rounded_up.true)

pub returns-else-is_rounded_up-clause-value : goal.returns-else-is_rounded_up-clause-value
returns-else-is_rounded_up-clause-value c =
    rounded_down c.args.number c.args.parts c.from.result c.significand-found.result c.significand-found.ensures c.from.ensures
    (sym c.is_rounded_up.ensures ∙ c.if-is_rounded_up.false)
