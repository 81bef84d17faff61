use Rattle.std.proofs.Common.{◌≡◌, ◌≤◌, ◌*◌, sym, ap, ap₂, ◌∙◌, subst, refl, ℤ, pos, to_z, of_z}
use Rattle.std.specs.Prelude.{unsigned_abs}
use Rattle.std.specs.Int.{int_div_euclid}
use Rattle.std.proofs.lemmas.Int.{to_z-of_z}
use mir.Syntax.{w32, w64, w128}
use mir.Val.{SFits}
use Rattle.geometry_model.specs.WellKnownText.{coordinate_limit}
use Rattle.edge_boxes.specs.BoxCells.{IsFloor}
use Rattle.edge_boxes.proofs.Floors.{euclid_floor, floor_short, floor_as, floor_over_one, short_fits}
use Rattle.edge_boxes.proofs.cells.floor.Goals as goal

-- the quotient is the floor
is_floor : (c : goal.After-rounded_down) → IsFloor c.args.numerator c.args.denominator c.rounded_down.result
is_floor c =
    let e : c.rounded_down.result ≡ int_div_euclid c.args.numerator c.args.denominator = c.rounded_down.ensures ∙ ap₂ int_div_euclid (to_z-of_z w128 c.args.numerator c.ranges.numerator) (to_z-of_z w64 c.args.denominator c.ranges.denominator) in
    floor_as c.args.numerator c.args.denominator _ c.args.numerator c.args.denominator c.rounded_down.result refl refl (sym e) (euclid_floor c.args.numerator c.args.denominator c.requires.positive)

is_short : (c : goal.After-rounded_down) → unsigned_abs c.rounded_down.result ≤ coordinate_limit
is_short c = floor_short c.args.numerator c.args.denominator c.rounded_down.result c.requires.positive c.requires.within (is_floor c)

-- a long number that is short, cast
cast_read : (q : ℤ) → SFits w128 q → unsigned_abs q ≤ coordinate_limit → to_z w32 (of_z w32 (to_z w128 (of_z w128 q))) ≡ q
cast_read q f h = ap (λ (x : ℤ). to_z w32 (of_z w32 x)) (to_z-of_z w128 q f) ∙ to_z-of_z w32 q (short_fits q h)

-- a denominator whose bits are those of 1
is_one : (w : ℤ) → SFits w64 w → of_z w64 w ≡ 1 → w ≡ pos 1
is_one w f h = sym (to_z-of_z w64 w f) ∙ ap (to_z w64) h

short_over_one : (n w : ℤ) → w ≡ pos 1 → unsigned_abs n ≤ coordinate_limit * unsigned_abs w → unsigned_abs n ≤ coordinate_limit
short_over_one n w e h = subst (λ (x : ℤ). unsigned_abs n ≤ coordinate_limit * unsigned_abs x) e h

pub overflow_cast-result : goal.overflow_cast-result
overflow_cast-result c =
    let one = is_one c.args.denominator c.ranges.denominator c.if-denominator-eq1.true in
    subst (SFits w32) (sym (to_z-of_z w128 c.args.numerator c.ranges.numerator)) (short_fits c.args.numerator (short_over_one c.args.numerator c.args.denominator one c.requires.within))

pub overflow_cast-result-else-denominator-eq1 : goal.overflow_cast-result-else-denominator-eq1
overflow_cast-result-else-denominator-eq1 c = subst (SFits w32) (sym (to_z-of_z w128 c.rounded_down.result (record { sfits = c.rounded_down.type_inv }))) (short_fits c.rounded_down.result (is_short c))

pub returns-then-denominator-eq1 : goal.returns-then-denominator-eq1
returns-then-denominator-eq1 c =
    let one = is_one c.args.denominator c.ranges.denominator c.if-denominator-eq1.true in
    let short = short_over_one c.args.numerator c.args.denominator one c.requires.within in
    let e = cast_read c.args.numerator c.ranges.numerator short in
    record { floor = floor_over_one c.args.numerator c.args.denominator _ one e; bound = subst (λ (x : ℤ). unsigned_abs x ≤ coordinate_limit) (sym e) short }

pub returns-else-denominator-eq1 : goal.returns-else-denominator-eq1
returns-else-denominator-eq1 c =
    let e = cast_read c.rounded_down.result (record { sfits = c.rounded_down.type_inv }) (is_short c) in
    record {
      floor = floor_as c.args.numerator c.args.denominator c.rounded_down.result c.args.numerator c.args.denominator _ refl refl (sym e) (is_floor c);
      bound = subst (λ (x : ℤ). unsigned_abs x ≤ coordinate_limit) (sym e) (is_short c);
    }
