use Rattle.std.specs.Prelude.{pos, ℤ, int_lt}
use Rattle.std.proofs.Common.{sym, ap, ◌∙◌}
use mir.Syntax.{w128}
use Rattle.orient.proofs.Bounds.{read}
use Rattle.orient.proofs.Tests.{test_decides, test_fails}
use Rattle.orient.proofs.crossings.crosses_up.Goals as goal

pub returns-then-spans : goal.returns-then-spans
returns-then-spans c = test_decides _ _ _ (sym c.spans.ensures ∙ c.if-spans.true)
    (ap (λ (n : ℤ). int_lt n (pos 0)) (read w128 c.signed_side_rightward.result _ (record { sfits = c.signed_side_rightward.type_inv }) c.signed_side_rightward.ensures))

pub returns-else-spans : goal.returns-else-spans
returns-else-spans c = test_fails _ _ _ (sym c.spans.ensures ∙ c.if-spans.false) c.if-spans.false
