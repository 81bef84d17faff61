use Rattle.std.proofs.Common.{◌≡◌, ◌∙◌, refl, sym, ap, ℤ, pos, ◌*ℤ◌, ◌<ℤ◌, ◌≤ℤ◌, ◌≤◌, ◌*◌, unsigned_abs, to_z, of_z, arith}
use Rattle.std.proofs.lemmas.Int.{ints, to_z-of_z}
use mir.Syntax.{w64, w128}
use mir.Val.{SFits}
use Rattle.geometry_model.specs.WellKnownText.{coordinate_limit}
use Rattle.orient.proofs.Bounds.{read}
use Rattle.witnesses.specs.Heights.{moved_point}
use Rattle.witnesses.proofs.NumberReads.{rise_fits, run_fits_twice}
use Rattle.witnesses.proofs.FaceFacts.{half_way, one_step}
use Rattle.witnesses.proofs.faces.half_way.Goals as goal

-- a run that isn't 0 is above 0
above : (r : ℤ) → SFits w128 r → pos 0 ≤ℤ r → (of_z w128 r ≡ 0 → ⊥) → pos 0 <ℤ r
above r f h n = nonzero r h (λ e. n (ap (of_z w128) e))
  where
    nonzero : (r : ℤ) → pos 0 ≤ℤ r → (r ≡ pos 0 → ⊥) → pos 0 <ℤ r
    nonzero r h n = grind (arith, ints, h, n)

-- twice a run fits
twice : (r : ℤ) → unsigned_abs r ≤ 2 * coordinate_limit → to_z w128 (of_z w128 (pos 2 *ℤ to_z w128 (of_z w128 r))) ≡ pos 2 *ℤ r
twice r h = ap (λ (z : ℤ). to_z w128 (of_z w128 (pos 2 *ℤ z))) (to_z-of_z w128 r (run_fits_twice r h)) ∙ to_z-of_z w128 (pos 2 *ℤ r) (fits r h)
  where
    fits : (r : ℤ) → unsigned_abs r ≤ 2 * coordinate_limit → SFits w128 (pos 2 *ℤ r)
    fits r h = omega (arith, ints)

pub returns-then-height-eq0-clause-half : goal.returns-then-height-eq0-clause-half
returns-then-height-eq0-clause-half c = one_step c.args.side c.args.p.now c.args.height c.moved.result _ _ c.denominator.ensures.kept.range.positive c.requires
    (sym (to_z-of_z w128 c.args.height.run (run_fits_twice c.args.height.run c.requires.run)) ∙ ap (to_z w128) c.if-height-eq0.true) refl
    (read w128 c.from-w.result _ (record { sfits = c.from-w.type_inv }) (c.from-w.ensures ∙ read w64 c.denominator.result _ (record { sfits = c.denominator.type_inv }) c.denominator.ensures.value)) c.moved.ensures

pub returns-else-height-eq0-clause-half : goal.returns-else-height-eq0-clause-half
returns-else-height-eq0-clause-half c = half_way c.args.side c.args.p.now c.args.height c.moved-else-height-eq0.result _ c.denominator.ensures.kept.range.positive c.requires
    (above c.args.height.run (run_fits_twice c.args.height.run c.requires.run) c.requires.forward c.if-height-eq0.false) (twice c.args.height.run c.requires.run)
    (c.moved-else-height-eq0.ensures ∙ ap (λ (z : ℤ). moved_point c.args.side c.args.p.now (to_z w128 (of_z w128 (pos 2 *ℤ to_z w128 (of_z w128 c.args.height.run)))) z) (to_z-of_z w128 c.args.height.rise (rise_fits c.args.height.rise c.requires.rise)))
