use Rattle.std.proofs.Common.{ap, arith}
use Rattle.validity.proofs.RingNumbers.{lines_cover}
use Rattle.validity.proofs.Rays.{ring_spans_evenly, next_hole, no_hole_nested}
use Rattle.validity.proofs.nesting.may_holes_nest_by.Goals as goal

pub loop-hole-init : goal.loop-hole-init
loop-hole-init c hole low within = absurd (omega (arith, low, within))

pub line_edges-edges-requires : goal.line_edges-edges-requires
line_edges-edges-requires c = omega (
  arith,
  c.loop-hole-test.true,
  lines_cover c.args.outline.now c.args.first c.args.end c.requires.are,
)

pub may_one_be_surrounded-requires : goal.may_one_be_surrounded-requires
may_one_be_surrounded-requires c = ring_spans_evenly c.args.outline.now c.args.first c.args.end c.loop-hole.hole
    c.line_edges-edges.result.now c.requires.closed c.requires.are c.line_edges-edges.ensures

pub loop-hole-preserved : goal.loop-hole-preserved
loop-hole-preserved c = next_hole c.args.outline.now c.args.first c.loop-hole.hole c.line_edges-edges.result.now _
    c.line_edges-edges.ensures (ap (λ v. v.1) c.in_ok-firsts.ensures)
    c.loop-hole.invariant (c.in_ok-may_one_be_surrounded.ensures c.if-branch.false)

pub returns : goal.returns
returns c none = no_hole_nested c.args.outline.now c.args.first c.args.end c.loop-hole.hole c.requires.are c.loop-hole-test.false
    c.loop-hole.invariant
