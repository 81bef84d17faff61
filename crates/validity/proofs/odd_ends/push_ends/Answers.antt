use Rattle.std.proofs.Common.{◌<◌, length, arith}
use Rattle.std.proofs.lemmas.Bool.Decides.{nat_tests}
use Rattle.validity.proofs.OddEndFacts.{two_ends}
use Rattle.validity.proofs.odd_ends.push_ends.Goals as goal

pub returns-in_ok-push-2 : goal.returns-in_ok-push-2
returns-in_ok-push-2 c =
    let some : 0 < length c.args.line.now = grind (arith, nat_tests) in
    two_ends c.args.ends.now.items c.push.new.self.items c.push-then-not-is_empty.new.self.items c.args.line.now c.index-line-0.result c.index-line-line.result some c.index-line-0.is c.index-line-line.is
    c.in_ok-push.ensures.items c.in_ok-push-2.ensures.items
