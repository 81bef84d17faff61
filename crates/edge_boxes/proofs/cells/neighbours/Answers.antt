use Rattle.std.proofs.Common.{◌≡◌, sym, subst, refl, ℤ, pos, ◌<ℤ◌, ◌≤◌, ◌*◌}
use Rattle.std.specs.Prelude.{unsigned_abs}
use Rattle.std.proofs.lemmas.Int.{to_z-of_z}
use mir.Syntax.{w32, w64, w128}
use mir.Val.{SFits}
use Rattle.geometry_model.specs.WellKnownText.{coordinate_limit}
use Rattle.orient.proofs.Bounds.{read_within}
use Rattle.edge_boxes.proofs.Floors.{floor_as, ceiling_as}
use Rattle.edge_boxes.proofs.cells.neighbours.Goals as goal

-- a bound by a denominator, at numbers that are equal
within_as : (n w n' w' : ℤ) → n' ≡ n → w' ≡ w → unsigned_abs n ≤ coordinate_limit * unsigned_abs w → unsigned_abs n' ≤ coordinate_limit * unsigned_abs w'
within_as n w n' w' e f h = subst (λ (x : ℤ). unsigned_abs x ≤ coordinate_limit * unsigned_abs w') (sym e) (subst (λ (x : ℤ). unsigned_abs n ≤ coordinate_limit * unsigned_abs x) (sym f) h)

pub floor-floor-requires : goal.floor-floor-requires
floor-floor-requires c = record {
  positive = subst (λ (z : ℤ). pos 0 <ℤ z) (sym (to_z-of_z w64 c.args.denominator c.ranges.denominator)) c.requires.positive;
  within = within_as c.args.numerator c.args.denominator _ _ (to_z-of_z w128 c.args.numerator c.ranges.numerator) (to_z-of_z w64 c.args.denominator c.ranges.denominator) c.requires.within;
}

pub ceiling-requires : goal.ceiling-requires
ceiling-requires c =
    let f : SFits w32 c.floor-floor.result = record { sfits = c.floor-floor.type_inv } in
    record {
      positive = subst (λ (z : ℤ). pos 0 <ℤ z) (sym (to_z-of_z w64 c.args.denominator c.ranges.denominator)) c.requires.positive;
      floor = floor_as _ _ c.floor-floor.result _ _ _ refl refl (sym (to_z-of_z w32 c.floor-floor.result f)) c.floor-floor.ensures.floor;
      bound = read_within w32 coordinate_limit c.floor-floor.result c.floor-floor.result f refl c.floor-floor.ensures.bound;
    }

pub returns : goal.returns
returns c = record {
  floor = floor_as _ _ c.floor-floor.result c.args.numerator c.args.denominator _ (to_z-of_z w128 c.args.numerator c.ranges.numerator) (to_z-of_z w64 c.args.denominator c.ranges.denominator)
      (sym (to_z-of_z w32 c.floor-floor.result (record { sfits = c.floor-floor.type_inv }))) c.floor-floor.ensures.floor;
  ceiling = ceiling_as _ _ c.ceiling.result c.args.numerator c.args.denominator _ (to_z-of_z w128 c.args.numerator c.ranges.numerator) (to_z-of_z w64 c.args.denominator c.ranges.denominator)
      (sym (to_z-of_z w32 c.ceiling.result (record { sfits = c.ceiling.type_inv }))) c.ceiling.ensures;
}
