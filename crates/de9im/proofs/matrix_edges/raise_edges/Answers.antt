use Rattle.std.proofs.Common.{◌≡◌, ◌<◌, drop, arith, rules}
use Rattle.geometry_model.specs.Geometries.{edges}
use Rattle.matrix_laws.specs.Cells.{Covers}
use Rattle.de9im.proofs.Growth.{grows_through}
use Rattle.de9im.proofs.EdgePoints.{ends_kept, covers_kept, ready_kept}
use Rattle.de9im.proofs.OutsideEdges.{with_part, one_before, same_there, at_the_start}
use Rattle.de9im.proofs.matrix_edges.raise_edges.Goals as goal

pub is_full-requires-clause-ends : goal.is_full-requires-clause-ends
is_full-requires-clause-ends c = ends_kept c.args.first.now c.args.second.now c.args.matrix.now c.loop-left.matrix
    c.loop-left.invariant.grows.grown c.requires.ends

pub is_full-requires-clause-ready : goal.is_full-requires-clause-ready
is_full-requires-clause-ready c = ready_kept c.args.pass c.args.first.now c.args.second.now c.args.matrix.now c.loop-left.matrix
    c.loop-left.invariant.grows.grown c.requires.ready

pub raise_passed_over-left-requires-clause-ends : goal.raise_passed_over-left-requires-clause-ends
raise_passed_over-left-requires-clause-ends c = ends_kept c.args.first.now c.args.second.now c.args.matrix.now c.loop-left.matrix
    c.loop-left.invariant.grows.grown c.requires.ends

pub raise_edge_along-requires-clause-ready : goal.raise_edge_along-requires-clause-ready
raise_edge_along-requires-clause-ready c =
    let a = c.args.first.now in
    let b = c.args.second.now in
    let n = c.raise_passed_over-left.new.matrix in
    ready_kept c.args.pass a b c.args.matrix.now n (grows_through a b c.args.matrix.now c.loop-left.matrix n
    c.loop-left.invariant.grows c.raise_passed_over-left.ensures.grows).grown c.requires.ready

pub raise_edge_along-requires-clause-ends : goal.raise_edge_along-requires-clause-ends
raise_edge_along-requires-clause-ends c =
    let a = c.args.first.now in
    let b = c.args.second.now in
    let n = c.raise_passed_over-left.new.matrix in
    ends_kept a b c.args.matrix.now n (grows_through a b c.args.matrix.now c.loop-left.matrix n
    c.loop-left.invariant.grows c.raise_passed_over-left.ensures.grows).grown c.requires.ends

pub returns-then-left-eq0-clause-grows : goal.returns-then-left-eq0-clause-grows
returns-then-left-eq0-clause-grows c = grows_through c.args.first.now c.args.second.now c.args.matrix.now c.loop-left.matrix
    c.raise_passed_over-left.new.matrix c.loop-left.invariant.grows c.raise_passed_over-left.ensures.grows

pub returns-then-left-eq0-clause-covers : goal.returns-then-left-eq0-clause-covers
returns-then-left-eq0-clause-covers c =
    let a = c.args.first.now in
    let b = c.args.second.now in
    let n = c.raise_passed_over-left.new.matrix in
    let left = c.raise_passed_over-left.result in
    let passed = c.raise_passed_over-left.ensures in
    at_the_start (Covers a b n) (edges a) left c.if-left-eq0.true (with_part (Covers a b n) (edges a) left c.loop-left.left
    passed.before passed.covers (covers_kept a b (drop c.loop-left.left (edges a)) c.loop-left.matrix n passed.grows.grown
    c.loop-left.invariant.covers))

pub loop-left-preserved : goal.loop-left-preserved
loop-left-preserved c =
    let a = c.args.first.now in
    let b = c.args.second.now in
    let m = c.loop-left.matrix in
    let n = c.raise_passed_over-left.new.matrix in
    let o = c.raise_edge_along.new.matrix in
    let left = c.raise_passed_over-left.result in
    let edge = c.index-segments-left.result in
    let passed = c.raise_passed_over-left.ensures in
    let before = passed.before in
    let within = c.loop-left.invariant.within in
    let some : 0 < left = search rules in
    let done = c.in_ok-along.ensures in
    record {
      within = omega (arith, within, before);
      grows = grows_through a b c.args.matrix.now n o (grows_through a b c.args.matrix.now m n c.loop-left.invariant.grows
          passed.grows) done.grows;
      covers = one_before (Covers a b o) (edges a) left edge some (omega (arith, within, before))
          (same_there (edges a) c.segments.result.now left edge c.segments.ensures c.index-segments-left.is) done.covers
          (covers_kept a b (drop left (edges a)) n o done.grows.grown (with_part (Covers a b n) (edges a) left c.loop-left.left
          before passed.covers (covers_kept a b (drop c.loop-left.left (edges a)) m n passed.grows.grown
          c.loop-left.invariant.covers)));
      merged = done.merged;
    }

pub returns-clause-covers : goal.returns-clause-covers
returns-clause-covers c =
    let none : c.loop-left.left ≡ 0 = search rules in
    at_the_start (Covers c.args.first.now c.args.second.now c.loop-left.matrix) (edges c.args.first.now) c.loop-left.left none
    c.loop-left.invariant.covers
