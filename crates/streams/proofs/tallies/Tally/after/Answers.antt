use Rattle.std.proofs.Common.{◌∙◌, ◌≤◌, sym, drop, length, arith, length-drop}
use Rattle.streams.proofs.RunLemmas.{more}
use Rattle.streams.proofs.tallies.Tally.after.Goals as goal

pub loop-at-preserved-then-run-lt-LONG_RUN : goal.loop-at-preserved-then-run-lt-LONG_RUN
loop-at-preserved-then-run-lt-LONG_RUN c =
    let bytes = c.args.bytes.now in
    let at = c.loop-at.at in
    let count = c.some_length-count.result in
    let before = c.loop-at.invariant.0 in
    let within : count ≤ length (drop at bytes) = rw (sym c.from_place-rest.ensures) c.some_length-count.ensures.within in
    let size = length-drop at bytes in (
      omega (arith, before, within, size),
      c.after_each-tally.ensures ∙ more c.args.self c.loop-at.tally bytes c.from_place-rest.result.now c.before_place.result.now at count c.loop-at.invariant.1 c.from_place-rest.ensures c.before_place.ensures,
    )

pub loop-at-preserved : goal.loop-at-preserved
loop-at-preserved c =
    let bytes = c.args.bytes.now in
    let at = c.loop-at.at in
    let count = c.run_length-run.result in
    let before = c.loop-at.invariant.0 in
    let within : count ≤ length (drop at bytes) = rw (sym c.from_place-rest.ensures) c.run_length-run.ensures.within in
    let size = length-drop at bytes in (
      omega (arith, before, within, size),
      c.after_run-tally.ensures ∙ more c.args.self c.loop-at.tally bytes c.from_place-rest.result.now c.before_place-else-run-lt-LONG_RUN.result.now at count c.loop-at.invariant.1 c.from_place-rest.ensures c.before_place-else-run-lt-LONG_RUN.ensures,
    )
