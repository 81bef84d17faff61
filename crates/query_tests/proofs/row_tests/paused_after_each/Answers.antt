use Rattle.std.proofs.Common.{◌∙◌, ap}
use Rattle.executor.proofs.PausedLemmas.{paused_for}
use Rattle.executor.specs.Streams.{Stream}
use Rattle.query_tests.proofs.row_tests.paused_after_each.Goals as goal

pub loop-init : goal.loop-init
loop-init c =
    paused_for _ _ _ _ _ _ _ c.new-2.ensures.tables c.new-2.ensures.query c.new-2.ensures.conditions c.pause-paused.ensures.of

pub loop-preserved : goal.loop-preserved
loop-preserved c =
    paused_for _ _ _ _ _ _ _
    (c.next_observed.ensures.tables ∙ ap (λ (s : Stream). s.tables) c.resume-rows.ensures.resumed)
    (c.next_observed.ensures.query ∙ ap (λ (s : Stream). s.query) c.resume-rows.ensures.resumed)
    (c.next_observed.ensures.conditions ∙ ap (λ (s : Stream). s.conditions) c.resume-rows.ensures.resumed)
    c.pause-paused-in-loop.ensures.of
