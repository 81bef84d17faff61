use Rattle.std.proofs.Common.{rules, ◌≡◌, ◌↔◌, IsTrue, sym, subst, ◌∙◌}
use Rattle.fraction.specs.Ranges.{IsKeptPoint}
use Rattle.fraction.proofs.OrderLemmas.{triples_say, point_ties_are}
use Rattle.fraction.proofs.rational_points.RatPointPartialEq.eq.Goals as goal

pub returns-clause-exact : goal.returns-clause-exact
returns-clause-exact c =
    let triple : IsTrue c.eq.result ↔ (c.args.self.now ≡ c.args.other.now) = search rules in
    triples_say c.eq.result c.args.self.now c.args.other.now (subst IsKeptPoint c.self.view_is c.self.invariant) (subst IsKeptPoint c.other.view_is c.other.invariant) triple

pub returns-clause-order : goal.returns-clause-order
returns-clause-order c = returns-clause-exact c ∙ sym (point_ties_are c.args.self.now c.args.other.now (subst IsKeptPoint c.self.view_is c.self.invariant).range.positive (subst IsKeptPoint c.other.view_is c.other.invariant).range.positive)
