use Rattle.de9im.proofs.SameEdges.{same_found, opposite_found}
use Rattle.de9im.proofs.same_edges.have_same_ends.Goals as goal

pub returns-then-eq : goal.returns-then-eq
returns-then-eq c k = opposite_found c.args.one.now c.args.other.now c.start.result c.end.result c.end-then-eq.result
    c.start-then-eq.result
    c.eq.result c.eq-then-eq.result c.start.ensures c.end.ensures.value c.eq.ensures.both c.if-eq.true
    c.end-then-eq.ensures.value c.start-then-eq.ensures c.eq-then-eq.ensures.both k

pub returns-then-eq-2 : goal.returns-then-eq-2
returns-then-eq-2 c k = same_found c.args.one.now c.args.other.now c.start-2.result c.start-3.result c.end-then-eq-2.result
    c.end-then-eq-2-2.result c.eq-2.result c.eq-then-eq-2.result c.start-2.ensures c.start-3.ensures c.eq-2.ensures.both
    c.if-eq-2.true
    c.end-then-eq-2.ensures.value c.end-then-eq-2-2.ensures.value c.eq-then-eq-2.ensures.both k
