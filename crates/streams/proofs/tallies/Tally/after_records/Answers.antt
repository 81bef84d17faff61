use Rattle.std.proofs.Common.{◌∙◌, ap, sym, take, drop, take-append-drop}
use Rattle.std.specs.List.{fold}
use Rattle.std.proofs.lemmas.List.Sums.{fold-append}
use Rattle.streams.specs.Bounds.{tally_after}
use Rattle.streams.proofs.tallies.Tally.after_records.Goals as goal

pub returns-in-Some : goal.returns-in-Some
returns-in-Some c =
    let end = c.in-Some.end in
    let bytes = c.args.bytes.now in
    c.after_each.ensures ∙ ap (λ t. fold tally_after t c.from_place.result.now) (c.at_new_record.ensures ∙ sym c.in-Some.ensures.tally)
    ∙ ap (fold tally_after (fold tally_after c.args.self (take end bytes))) c.from_place.ensures
    ∙ sym (fold-append tally_after c.args.self (take end bytes) (drop end bytes)) ∙ ap (fold tally_after c.args.self) (take-append-drop end bytes)
