use Rattle.std.proofs.Common.{sym, rules}
use Rattle.de9im.proofs.fullness.is_full_off.Goals as goal

pub returns-then-ne : goal.returns-then-ne
returns-then-ne c = λ _ e. record {
  in_exterior = c.is_full_outside.ensures c.if-is_full_outside.true c.args.first.now (sym c.kind.ensures) e;
  in_interior = λ k. absurd (first_of (search rules, cc));
}

pub returns-else-ne : goal.returns-else-ne
returns-else-ne c = λ full e. record {
  in_exterior = c.is_full_outside.ensures c.if-is_full_outside.true c.args.first.now (sym c.kind.ensures) e;
  in_interior = λ _. c.is_full_in.ensures full c.args.first.now (sym c.kind-else-ne.ensures) e;
}
