use Rattle.std.proofs.Common.{ℕ, ◌+◌, ◌<◌, ◌≤◌, sym, subst, length, arith}
use Rattle.basics.proofs.Numbers.{at_least_same}
use Rattle.geometry_model.specs.Geometries.{edges_of_line}
use Rattle.geometry_model.specs.Validity.{Clash}
use Rattle.witnesses.proofs.ClashFacts.{later_clash, all_clashes}
use Rattle.witnesses.proofs.rings.clash_with.Goals as goal

later : (i j : ℕ) → i + 1 ≤ j → i < j
later i j h = omega (arith, h)

pub returns-then-clashes-clause-place : goal.returns-then-clashes-clause-place
returns-then-clashes-clause-place c = record {
  i = c.args.i;
  j = c.loop-j.j;
  later = later c.args.i c.loop-j.j c.loop-j.auto.j;
  first = c.edge-first.ensures;
  second = c.edge-second.ensures;
  clash = subst (λ (n : ℕ). Clash n c.args.i c.loop-j.j c.edge-first.result c.edge-second.result) c.edge_count-count.ensures (c.clashes.ensures.yes c.if-clashes.true);
  exact = c.met-shared.ensures.exact;
}

pub returns-then-clashes-clause-first : goal.returns-then-clashes-clause-first
returns-then-clashes-clause-first c = record {
  j = c.loop-j.j;
  later = later c.args.i c.loop-j.j c.loop-j.auto.j;
  first = c.edge-first.ensures;
  second = c.edge-second.ensures;
  clash = subst (λ (n : ℕ). Clash n c.args.i c.loop-j.j c.edge-first.result c.edge-second.result) c.edge_count-count.ensures (c.clashes.ensures.yes c.if-clashes.true);
  none_before = c.loop-j.invariant;
}

pub loop-j-preserved : goal.loop-j-preserved
loop-j-preserved c = later_clash c.args.ring.now c.args.i c.loop-j.j c.edge-first.result c.edge-second.result c.edge-first.ensures c.edge-second.ensures
    (λ k. c.clashes.ensures.no c.if-clashes.false (subst (λ (n : ℕ). Clash n c.args.i c.loop-j.j c.edge-first.result c.edge-second.result) (sym c.edge_count-count.ensures) k)) c.loop-j.invariant

pub returns-clause-none : goal.returns-clause-none
returns-clause-none c = all_clashes c.args.ring.now c.args.i c.loop-j.j (at_least_same c.edge_count-count.result (length (edges_of_line c.args.ring.now)) c.loop-j.j c.edge_count-count.ensures c.loop-j-test.false) c.loop-j.invariant
