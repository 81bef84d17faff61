use Rattle.std.proofs.Common.{◌∙◌, ◌+◌, refl, sym, ap, arith}
use Rattle.geometry_model.specs.declared.validity_faults.ValidityFault.TheVariants as validity
use Rattle.validity.specs.Neighbours.{first_near, ring_envelopes}
use Rattle.validity.proofs.NearNumbers.{near_found, holes_near, rings_cover, found_near, passed_early, passed_late, passed_near}
use Rattle.validity.proofs.RingNumbers.{holes_nested_at, lines_cover}
use Rattle.validity.proofs.first_faults.hole_nested_near.Goals as goal
use Rattle.validity.proofs.first_faults.hole_nested_near.Goals.{else-hole-later-via-then-hole-later+then-later-end+else-are_nested, else-hole-later-via-then-hole-later+else-later-end, else-hole-later-via-else-hole-later}

pub loop-later-init : goal.loop-later-init
loop-later-init c =
    near_found c.args.outline.now (validity.HolesNested c.args.hole) (c.args.hole + 1) c.args.end _ (ring_envelopes c.args.outline.now)
    (rings_cover c.args.outline.now c.requires.hole.first c.args.end c.requires.hole.are)
    (holes_near c.args.outline.now c.requires.hole.first c.args.end c.args.hole c.requires.closed c.requires.hole.are c.requires.hole.after c.requires.hole.before)
    ∙ ap (first_near c.args.outline.now (validity.HolesNested c.args.hole) (c.args.hole + 1) c.args.end) (sym c.requires.near)

pub are_nested-requires-clause-first : goal.are_nested-requires-clause-first
are_nested-requires-clause-first c = omega (arith, lines_cover c.args.outline.now c.requires.hole.first c.args.end c.requires.hole.are, c.requires.hole.before)

pub are_nested-requires-clause-second : goal.are_nested-requires-clause-second
are_nested-requires-clause-second c = omega (arith, lines_cover c.args.outline.now c.requires.hole.first c.args.end c.requires.hole.are, c.if-later-end.true)

pub returns-then-are_nested : goal.returns-then-are_nested
returns-then-are_nested c = sym (c.loop-later.invariant ∙ found_near c.args.outline.now (validity.HolesNested c.args.hole) (c.args.hole + 1) c.args.end c.args.near.now c.loop-later.later-index _ 0 c.loop-later-test.true refl
    (omega (arith, c.if-hole-later.true)) c.if-later-end.true
    (holes_nested_at c.args.outline.now c.requires.hole.first c.args.end c.args.hole _ c.requires.hole.are c.requires.hole.after c.if-hole-later.true c.if-later-end.true ∙ (sym c.are_nested.ensures ∙ c.if-are_nested.true)))

pub loop-later-preserved : goal.loop-later-preserved
loop-later-preserved c = c.loop-later.invariant ∙ (elim c.else-hole-later.branch [
  | else-hole-later-via-then-hole-later+then-later-end+else-are_nested w ↦ passed_near c.args.outline.now (validity.HolesNested c.args.hole) (c.args.hole + 1) c.args.end c.args.near.now c.loop-later.later-index _ 0 c.loop-later-test.true refl
      (holes_nested_at c.args.outline.now c.requires.hole.first c.args.end c.args.hole _ c.requires.hole.are c.requires.hole.after w.if-hole-later.true w.if-later-end.true ∙ (sym w.are_nested.ensures ∙ w.if-are_nested.false))
  | else-hole-later-via-then-hole-later+else-later-end w ↦ passed_late c.args.outline.now (validity.HolesNested c.args.hole) (c.args.hole + 1) c.args.end c.args.near.now c.loop-later.later-index _ 0 c.loop-later-test.true refl w.if-later-end.false
  | else-hole-later-via-else-hole-later w ↦ passed_early c.args.outline.now (validity.HolesNested c.args.hole) (c.args.hole + 1) c.args.end c.args.near.now c.loop-later.later-index _ 0 c.loop-later-test.true refl (omega (arith, w.if-hole-later.false))
])
