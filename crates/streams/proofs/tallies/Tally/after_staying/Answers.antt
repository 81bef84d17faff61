use Rattle.streams.proofs.RunLemmas.{run-of}
use Rattle.streams.proofs.tallies.Tally.after_staying.Goals as goal

pub returns : goal.returns
returns c = λ bytes size all.
    rw (c.checked.ensures, c.place_in_field.ensures, c.saturating_add.ensures, c.saturating_add-2.ensures) (run-of c.args.self c.args.count bytes c.requires size all)
