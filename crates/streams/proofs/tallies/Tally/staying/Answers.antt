use Rattle.std.proofs.Common.{◌∙◌, sym, take}
use Rattle.basics.proofs.Lists.{front_passes}
use Rattle.streams.specs.FieldRuns.{is_plain, stays}
use Rattle.streams.specs.declared.tallies.Place.TheVariants as at
use Rattle.streams.proofs.RunLemmas.{plain-stay}
use Rattle.streams.proofs.tallies.Tally.staying.Goals as goal

pub returns-then-is_outside-clause-stay : goal.returns-then-is_outside-clause-stay
returns-then-is_outside-clause-stay c =
    plain-stay c.args.self.place (take c.plain.result c.args.bytes.now) (sym c.is_outside.ensures ∙ c.if-is_outside.true)
    (rw c.plain.ensures.count (front_passes is_plain c.args.bytes.now))

pub returns-in-Quoted-clause-stay : goal.returns-in-Quoted-clause-stay
returns-in-Quoted-clause-stay c = rw (c.in-Quoted.is, c.quoted.ensures.count) (front_passes (stays at.Quoted) c.args.bytes.now)
