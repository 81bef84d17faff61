-- The tables before the one that fails were checked.
use Rattle.std.proofs.Common.{inr}
use Rattle.sfq_tiles.specs.Checks.{IsCheckEnding}
use Rattle.sfq_tiles.proofs.SplitLemmas.{checked_more, failed_with}
use Rattle.sfq_tiles.proofs.inputs.check_places.Goals as goal

pub returns-in_err-check_place-clause-ending : goal.returns-in_err-check_place-clause-ending
returns-in_err-check_place-clause-ending g c =
    let h = c.in_err-check_place.ensures.ending in
    failed_with (IsCheckEnding (g.I.Sources.bytes c.args.sources.now) c.args.directory.now c.args.schema.now)
    c.from_residual-in_err-check_place.result c.in_err-check_place.field-0.0 c.from_residual-in_err-check_place.ensures.1
    (inr (inr (record { place = c.loop-place.place; table = h.0; there = h.1; before = c.loop-place.invariant; ends = h.2 })))

pub loop-place-preserved : goal.loop-place-preserved
loop-place-preserved g c =
    checked_more (g.I.Sources.bytes c.args.sources.now) c.args.directory.now c.args.schema.now c.loop-place.place
    c.loop-place.invariant
    c.in_ok-check_place.ensures.checked
