use Rattle.std.proofs.Common.{◌∙◌, ◌+◌, refl, sym, ap, arith}
use Rattle.geometry_model.specs.declared.validity_faults.ValidityFault.TheVariants as validity
use Rattle.validity.specs.Neighbours.{first_near, ring_envelopes}
use Rattle.validity.proofs.NearNumbers.{near_found, rings_near, rings_cover, found_near, passed_early, passed_late, passed_near}
use Rattle.validity.proofs.RingNumbers.{rings_meet_at, lines_cover}
use Rattle.validity.proofs.first_faults.ring_meets_near.Goals as goal
use Rattle.validity.proofs.first_faults.ring_meets_near.Goals.{else-ring-later-via-then-ring-later+then-later-end+in_ok-rings_share+else-branch, else-ring-later-via-then-ring-later+else-later-end, else-ring-later-via-else-ring-later}

pub line_boxes-requires : goal.line_boxes-requires
line_boxes-requires c = omega (arith, lines_cover c.args.outline.now c.requires.ring.first c.args.end c.requires.ring.are, c.requires.ring.before)

pub loop-later-init : goal.loop-later-init
loop-later-init c =
    near_found c.args.outline.now (validity.RingsMeet c.args.ring) (c.args.ring + 1) c.args.end _ (ring_envelopes c.args.outline.now)
    (rings_cover c.args.outline.now c.requires.ring.first c.args.end c.requires.ring.are)
    (rings_near c.args.outline.now c.requires.ring.first c.args.end c.args.ring c.requires.closed c.requires.ring.are c.requires.ring.from c.requires.ring.before)
    ∙ ap (first_near c.args.outline.now (validity.RingsMeet c.args.ring) (c.args.ring + 1) c.args.end) (sym c.requires.near)

pub rings_share-requires-clause-first : goal.rings_share-requires-clause-first
rings_share-requires-clause-first c = omega (arith, lines_cover c.args.outline.now c.requires.ring.first c.args.end c.requires.ring.are, c.requires.ring.before)

pub rings_share-requires-clause-second : goal.rings_share-requires-clause-second
rings_share-requires-clause-second c = omega (arith, lines_cover c.args.outline.now c.requires.ring.first c.args.end c.requires.ring.are, c.if-later-end.true)

pub returns-then-branch : goal.returns-then-branch
returns-then-branch c = sym (c.loop-later.invariant ∙ found_near c.args.outline.now (validity.RingsMeet c.args.ring) (c.args.ring + 1) c.args.end c.args.near.now c.loop-later.later-index _ 0 c.loop-later-test.true refl
    (omega (arith, c.if-ring-later.true)) c.if-later-end.true
    (rings_meet_at c.args.outline.now c.requires.ring.first c.args.end c.args.ring _ c.requires.ring.are c.requires.ring.from c.if-ring-later.true c.if-later-end.true ∙ (sym c.in_ok-rings_share.ensures ∙ c.if-branch.true)))

pub loop-later-preserved : goal.loop-later-preserved
loop-later-preserved c = c.loop-later.invariant ∙ (elim c.else-ring-later.branch [
  | else-ring-later-via-then-ring-later+then-later-end+in_ok-rings_share+else-branch w ↦ passed_near c.args.outline.now (validity.RingsMeet c.args.ring) (c.args.ring + 1) c.args.end c.args.near.now c.loop-later.later-index _ 0 c.loop-later-test.true refl
      (rings_meet_at c.args.outline.now c.requires.ring.first c.args.end c.args.ring _ c.requires.ring.are c.requires.ring.from w.if-ring-later.true w.if-later-end.true ∙ (sym w.in_ok-rings_share.ensures ∙ w.if-branch.false))
  | else-ring-later-via-then-ring-later+else-later-end w ↦ passed_late c.args.outline.now (validity.RingsMeet c.args.ring) (c.args.ring + 1) c.args.end c.args.near.now c.loop-later.later-index _ 0 c.loop-later-test.true refl w.if-later-end.false
  | else-ring-later-via-else-ring-later w ↦ passed_early c.args.outline.now (validity.RingsMeet c.args.ring) (c.args.ring + 1) c.args.end c.args.near.now c.loop-later.later-index _ 0 c.loop-later-test.true refl (omega (arith, w.if-ring-later.false))
])
