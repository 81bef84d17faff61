use Rattle.std.proofs.Common.{subst}
use Rattle.std.specs.Int.{IsGcd}
use Rattle.std.proofs.lemmas.Nat.Gcd.{IsGcd-from_mod, IsGcd-from_zero}
use Rattle.fraction.proofs.DivisorLemmas.{gcd_from}
use Rattle.fraction.proofs.divisors.greatest_common_divisor.Goals as goal

pub loop-next-preserved : goal.loop-next-preserved
loop-next-preserved c = λ g h. c.loop-next.invariant g (IsGcd-from_mod c.loop-next.last c.loop-next.next g (subst (λ n. IsGcd c.loop-next.next n g) c.rest-rest.ensures h))

pub returns : goal.returns
returns c = gcd_from c.args.a c.args.b c.loop-next.last (c.loop-next.invariant c.loop-next.last (IsGcd-from_zero c.loop-next.last c.loop-next.next c.loop-next-test.false))
