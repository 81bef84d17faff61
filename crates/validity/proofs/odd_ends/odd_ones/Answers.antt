use Rattle.std.proofs.Common.{sym, subst, List}
use Rattle.geometry_model.specs.Points.{Position}
use Rattle.validity.proofs.OddEndFacts.{IsKeptOdd, nothing_odd, odd_toggled, odd_of_all}
use Rattle.validity.proofs.odd_ends.odd_ones.Goals as goal

pub loop-position-init : goal.loop-position-init
loop-position-init c = subst (λ (l : List Position). IsKeptOdd l c.args.given.now 0) (sym c.new-found.ensures.items) (nothing_odd c.args.given.now)

pub loop-position-preserved : goal.loop-position-preserved
loop-position-preserved c = odd_toggled c.loop-position.found.items c.toggle.new.found.items c.args.given.now c.loop-position.position-index c.position-item.result c.requires c.loop-position-test.true c.position-item.is
    c.in_ok-toggle.ensures c.loop-position.invariant

pub returns-clause-ascend : goal.returns-clause-ascend
returns-clause-ascend c = c.loop-position.invariant.ascend

pub returns-clause-parity : goal.returns-clause-parity
returns-clause-parity c = odd_of_all c.loop-position.found.items c.args.given.now c.loop-position.position-index c.loop-position-test.false c.loop-position.invariant
