use Rattle.std.proofs.Common.{◌≢◌, arith, inr, length, refl, rules}
use Rattle.csv.specs.Records.{fields_of}
use Rattle.tiles.proofs.FaultLemmas.{taken_is_left}
use Rattle.tiles.proofs.plain_records.PlainRecords.read_even.Goals as goal

pub returns-then-len-width-clause-fault : goal.returns-then-len-width-clause-fault
returns-then-len-width-clause-fault g c =
    let fields = fields_of c.read.new.fields in
    let uneven : length fields ≢ c.args.width = search rules in
    inr (
      refl,
      inr (taken_is_left g.R.Read.remaining c.args.self.now c.read.new.self fields (λ f. length f ≢ c.args.width)
          (λ rest gives. rw c.if-found.true at (c.in_ok-found.ensures.takes rest gives)) uneven),
    )
