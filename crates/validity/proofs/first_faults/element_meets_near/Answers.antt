use Rattle.std.proofs.Common.{◌∙◌, ◌+◌, refl, sym, ap, arith, length}
use Rattle.geometry_model.specs.Geometries.{Geometry, elements}
use Rattle.geometry_model.specs.declared.validity_faults.ValidityFault.TheVariants as validity
use Rattle.validity.specs.Neighbours.{first_near, element_envelopes}
use Rattle.validity.proofs.NearNumbers.{near_found, elements_near, elements_cover, found_near, passed_early, passed_late, passed_near}
use Rattle.validity.proofs.RingNumbers.{elements_meet_at}
use Rattle.validity.proofs.first_faults.element_meets_near.Goals as goal
use Rattle.validity.proofs.first_faults.element_meets_near.Goals.{else-element-later-via-then-element-later+then-later-count+in_ok-elements_share+else-branch, else-element-later-via-then-element-later+else-later-count, else-element-later-via-else-element-later}

pub loop-later-init : goal.loop-later-init
loop-later-init c =
    near_found c.args.outline.now (validity.ElementsMeet c.args.element) (c.args.element + 1) (length (elements c.args.outline.now)) _ (element_envelopes c.args.outline.now)
    (elements_cover c.args.outline.now) (elements_near c.args.outline.now c.args.element c.requires.closed)
    ∙ ap (first_near c.args.outline.now (validity.ElementsMeet c.args.element) (c.args.element + 1) (length (elements c.args.outline.now))) (sym c.requires.near)

pub returns-then-branch : goal.returns-then-branch
returns-then-branch c =
    let g = c.args.outline.now in
    let count = ap (λ (g : Geometry). length (elements g)) c.geometry.ensures in
    sym (c.loop-later.invariant ∙ found_near g (validity.ElementsMeet c.args.element) (c.args.element + 1) (length (elements g)) c.args.near.now c.loop-later.later-index _ 0 c.loop-later-test.true refl
    (omega (arith, c.if-element-later.true)) (omega (arith, c.if-later-count.true, c.element_count-count.ensures, count))
    (elements_meet_at g c.args.element _ c.if-element-later.true ∙ (sym c.in_ok-elements_share.ensures ∙ c.if-branch.true)))

pub loop-later-preserved : goal.loop-later-preserved
loop-later-preserved c =
    let g = c.args.outline.now in
    let count = ap (λ (g : Geometry). length (elements g)) c.geometry.ensures in
    c.loop-later.invariant ∙ (elim c.else-element-later.branch [
      | else-element-later-via-then-element-later+then-later-count+in_ok-elements_share+else-branch w ↦ passed_near g (validity.ElementsMeet c.args.element) (c.args.element + 1) (length (elements g)) c.args.near.now c.loop-later.later-index _ 0 c.loop-later-test.true refl
          (elements_meet_at g c.args.element _ w.if-element-later.true ∙ (sym w.in_ok-elements_share.ensures ∙ w.if-branch.false))
      | else-element-later-via-then-element-later+else-later-count w ↦ passed_late g (validity.ElementsMeet c.args.element) (c.args.element + 1) (length (elements g)) c.args.near.now c.loop-later.later-index _ 0 c.loop-later-test.true refl
          (omega (arith, w.if-later-count.false, c.element_count-count.ensures, count))
      | else-element-later-via-else-element-later w ↦ passed_early g (validity.ElementsMeet c.args.element) (c.args.element + 1) (length (elements g)) c.args.near.now c.loop-later.later-index _ 0 c.loop-later-test.true refl (omega (arith, w.if-element-later.false))
    ])
