use Rattle.std.proofs.Common.{◌∙◌, ◌≤◌, ap, sym, take, drop, length, take-add, arith, length-drop}
use Rattle.std.specs.List.{fold}
use Rattle.std.proofs.lemmas.List.{length-take-le}
use Rattle.std.proofs.lemmas.List.Sums.{fold-append}
use Rattle.streams.specs.Bounds.{tally_after}
use Rattle.streams.proofs.tallies.Tally.after_each.Goals as goal

pub loop-at-preserved : goal.loop-at-preserved
loop-at-preserved c =
    let bytes = c.args.bytes.now in
    let at = c.loop-at.at in
    let count = c.staying-count.result in
    let before = c.loop-at.invariant.0 in
    let within : count ≤ length (drop at bytes) = rw (sym c.from_place.ensures) c.staying-count.ensures.within in
    let size = length-drop at bytes in (
      omega (arith, before, within, size),
      c.after_staying-tally.ensures (take count c.from_place.result.now) (length-take-le count c.from_place.result.now c.staying-count.ensures.within) c.staying-count.ensures.stay
          ∙ ap (λ t. fold tally_after t (take count c.from_place.result.now)) c.loop-at.invariant.1
          ∙ ap (λ l. fold tally_after (fold tally_after c.args.self (take at bytes)) (take count l)) c.from_place.ensures
          ∙ sym (fold-append tally_after c.args.self (take at bytes) (take count (drop at bytes))) ∙ ap (fold tally_after c.args.self) (sym (take-add at count bytes)),
    )
