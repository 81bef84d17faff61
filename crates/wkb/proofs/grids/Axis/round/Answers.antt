use Rattle.std.proofs.Common.{ℕ, subst}
use Rattle.wkb.specs.Doubles.{value}
use Rattle.wkb.specs.Ticks.{in_ticks, IsFar, IsRoundedDown}
use Rattle.wkb.proofs.RoundedFacts.{is_far, read_far, read_near}
use Rattle.wkb.proofs.grids.Axis.round.Goals as goal

pub returns-in-None : goal.returns-in-None
returns-in-None c = is_far c.args.self.now (value c.args.bits) c.parts.ensures.axis
    (subst (λ (n : ℕ). IsFar (in_ticks n (value c.args.bits))) c.parts.ensures.value c.in-None.ensures)

pub returns-in-None-coordinate : goal.returns-in-None-coordinate
returns-in-None-coordinate c =
    read_far c.args.self.now (value c.args.bits) c.in-Some.found c.nearest.result
    (subst (λ (n : ℕ). IsRoundedDown (in_ticks n (value c.args.bits)) c.in-Some.found) c.parts.ensures.value c.in-Some.ensures)
    (record { sfits = c.nearest.type_inv }) c.nearest.ensures c.in-None-coordinate.ensures

pub returns : goal.returns
returns c =
    read_near c.args.self.now (value c.args.bits) c.in-Some.found c.nearest.result c.in-Some-coordinate.found c.past-past.result
    c.is_no_way.result c.whole_size.result
    (subst (λ (n : ℕ). IsRoundedDown (in_ticks n (value c.args.bits)) c.in-Some.found) c.parts.ensures.value c.in-Some.ensures)
    (record { sfits = c.nearest.type_inv }) (record { sfits = c.past-past.type_inv }) c.nearest.ensures
    c.in-Some-coordinate.ensures.0 c.in-Some-coordinate.ensures.1
    c.past-past.ensures c.is_no_way.ensures c.whole_size.ensures
