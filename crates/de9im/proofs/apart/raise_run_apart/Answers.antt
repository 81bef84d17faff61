use Rattle.std.proofs.Common.{◌≡◌, ◌<◌, ◌≤◌, ◌-◌, refl, subst, arith, rules}
use Rattle.std.specs.Prelude.{slice_range}
use Rattle.std.specs.List.{All, list_any}
use Rattle.geometry_model.specs.Geometries.{edges}
use Rattle.geometry_model.specs.FirstFaults.{share_point}
use Rattle.edge_boxes.proofs.Near.{none_in_part}
use Rattle.matrix_laws.specs.Cells.{Covers}
use Rattle.de9im.proofs.Growth.{grows_itself, grows_through}
use Rattle.de9im.proofs.EdgePoints.{ends_kept, covers_kept}
use Rattle.de9im.proofs.OutsideEdges.{one_more, same_there}
use Rattle.de9im.proofs.ApartChains.{among_apart, between_places, both_parts, full_run_covers, none_between, starts_at}
use Rattle.de9im.proofs.apart.raise_run_apart.Goals as goal

pub loop-left-init : goal.loop-left-init
loop-left-init c = record {
  least = c.requires.ordered;
  before = omega arith;
  within = c.requires.within;
  grows = grows_itself c.args.first.now c.args.second.now c.args.matrix.now;
  covers = none_between (Covers c.args.first.now c.args.second.now c.args.matrix.now) (edges c.args.first.now) c.args.end
      c.args.end refl;
  known = search rules;
}

pub returns-then-is_full_off-clause-covers : goal.returns-then-is_full_off-clause-covers
returns-then-is_full_off-clause-covers c =
    let a = c.args.first.now in
    let b = c.args.second.now in
    full_run_covers a b c.loop-left.matrix c.args.from c.args.end c.requires.apart
    (ends_kept a b c.args.matrix.now c.loop-left.matrix c.loop-left.invariant.grows.grown c.requires.ends)
    (c.is_full_off.ensures c.if-is_full_off.true)

pub left_beside-left-requires-clause-ends : goal.left_beside-left-requires-clause-ends
left_beside-left-requires-clause-ends c = ends_kept c.args.first.now c.args.second.now c.args.matrix.now c.loop-left.matrix
    c.loop-left.invariant.grows.grown c.requires.ends

pub returns-then-left-from-clause-covers : goal.returns-then-left-from-clause-covers
returns-then-left-from-clause-covers c =
    let covered = Covers c.args.first.now c.args.second.now c.loop-left.matrix in
    let es = edges c.args.first.now in
    let left = c.left_beside-left.result in
    subst (λ n. All covered (slice_range es n c.args.end)) c.if-left-from.true
    (both_parts covered es left c.loop-left.left c.args.end c.left_beside-left.ensures.before c.loop-left.invariant.before
    c.left_beside-left.ensures.covers c.loop-left.invariant.covers)

pub raise_edge_apart-part-requires-clause-apart : goal.raise_edge_apart-part-requires-clause-apart
raise_edge_apart-part-requires-clause-apart c =
    let a = c.args.first.now in
    let left = c.left_beside-left.result in
    let edge = c.index-segments-left.result in
    let least = c.left_beside-left.ensures.from in
    let before = c.left_beside-left.ensures.before in
    let upto = c.loop-left.invariant.before in
    let within = c.requires.within in
    let some : c.args.from < left = search rules in
    among_apart c.args.second.now (slice_range (edges a) c.args.from c.args.end) edge c.requires.apart
    (between_places (edges a) c.args.from c.args.end (left - 1) edge (omega (arith, some)) (omega (
      arith,
      some,
      before,
      upto,
    )) within
    (same_there (edges a) c.segments.result.now left edge c.segments.ensures c.index-segments-left.is))

pub raise_edge_apart-part-requires-clause-ends : goal.raise_edge_apart-part-requires-clause-ends
raise_edge_apart-part-requires-clause-ends c = ends_kept c.args.first.now c.args.second.now c.args.matrix.now c.loop-left.matrix
    c.loop-left.invariant.grows.grown c.requires.ends

pub start_in_part-next-requires-clause-apart : goal.start_in_part-next-requires-clause-apart
start_in_part-next-requires-clause-apart c =
    let left = c.left_beside-left.result in
    let before = c.left_beside-left.ensures.before in
    let upto = c.loop-left.invariant.before in
    let some : c.args.from < left = search rules in
    none_in_part (λ e. list_any (share_point e) (edges c.args.second.now)) (edges c.args.first.now) c.args.from (left - 1)
    c.args.end
    (omega (arith, some)) (omega (arith, before, upto)) c.requires.apart

pub start_in_part-next-requires-clause-ends : goal.start_in_part-next-requires-clause-ends
start_in_part-next-requires-clause-ends c =
    let a = c.args.first.now in
    let b = c.args.second.now in
    let n = c.raise_edge_apart-part.new.matrix in
    ends_kept a b c.args.matrix.now n
    (grows_through a b c.args.matrix.now c.loop-left.matrix n c.loop-left.invariant.grows
    c.raise_edge_apart-part.ensures.grows).grown
    c.requires.ends

pub start_in_part-next-requires-clause-part : goal.start_in_part-next-requires-clause-part
start_in_part-next-requires-clause-part c =
    let a = c.args.first.now in
    let left = c.left_beside-left.result in
    let edge = c.index-segments-left.result in
    let before = c.left_beside-left.ensures.before in
    let within = c.loop-left.invariant.within in
    let some : c.args.from < left = search rules in
    starts_at c.args.second.now c.raise_edge_apart-part.result (edges a) (left - 1) edge (omega (arith, some, before, within))
    (same_there (edges a) c.segments.result.now left edge c.segments.ensures c.index-segments-left.is)
    c.raise_edge_apart-part.ensures.part

pub loop-left-preserved : goal.loop-left-preserved
loop-left-preserved c =
    let a = c.args.first.now in
    let b = c.args.second.now in
    let m = c.loop-left.matrix in
    let n = c.raise_edge_apart-part.new.matrix in
    let es = edges a in
    let end = c.args.end in
    let left = c.left_beside-left.result in
    let edge = c.index-segments-left.result in
    let before = c.left_beside-left.ensures.before in
    let upto = c.loop-left.invariant.before in
    let within = c.requires.within in
    let some : c.args.from < left = search rules in
    let done = c.raise_edge_apart-part.ensures in
    let start = c.start_in_part-next.ensures in
    let back = start.before in
    let later = covers_kept a b (slice_range es left end) m n done.grows.grown (both_parts (Covers a b m) es left
    c.loop-left.left end
    before upto c.left_beside-left.ensures.covers c.loop-left.invariant.covers) in
    let from_edge = one_more (Covers a b n) es left end edge (omega (arith, some)) (omega (arith, before, upto)) within
    (same_there es c.segments.result.now left edge c.segments.ensures c.index-segments-left.is) done.covers later in
    record {
      least = start.from;
      before = omega (arith, back, before, upto);
      within = omega (arith, back, before, upto, within);
      grows = grows_through a b c.args.matrix.now m n c.loop-left.invariant.grows done.grows;
      covers = both_parts (Covers a b n) es c.start_in_part-next.result.0 (left - 1) end back (omega (arith, before, upto))
          start.covers from_edge;
      known = start.known;
    }

pub returns-clause-covers : goal.returns-clause-covers
returns-clause-covers c =
    let least = c.loop-left.invariant.least in
    let stop : c.loop-left.left ≤ c.args.from = search rules in
    let e : c.loop-left.left ≡ c.args.from = omega (arith, least, stop) in
    subst (λ n. All (Covers c.args.first.now c.args.second.now c.loop-left.matrix) (slice_range (edges c.args.first.now) n
    c.args.end))
    e c.loop-left.invariant.covers
