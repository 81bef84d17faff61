use Rattle.std.proofs.Common.{length, arith}
use Rattle.streams.proofs.RunLemmas.{count-before, none-before}
use Rattle.streams.proofs.tallies.before_quote.Goals as goal

pub returns-in-Some-clause-none : goal.returns-in-Some-clause-none
returns-in-Some-clause-none c =
    let bytes = c.args.bytes.now in
    let first = c.in-Some.ensures in
    none-before bytes c.in-Some.place (count-before bytes c.in-Some.place (omega (arith, first.0.high)) first.0.before (λ lt. first.1))

pub returns-in-None-clause-none : goal.returns-in-None-clause-none
returns-in-None-clause-none c =
    let bytes = c.args.bytes.now in
    none-before bytes (length bytes) (count-before bytes (length bytes) (omega arith) c.in-None.ensures (λ lt. absurd (omega (arith, lt))))
