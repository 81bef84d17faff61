use Rattle.std.proofs.Common.{◌≡◌, ◌∙◌, sym, ap, ap₂, subst, ℤ, pos, ◌+ℤ◌, ◌-ℤ◌, ◌*ℤ◌, ◌<ℤ◌, ◌≤◌, ◌*◌, unsigned_abs, to_z, of_z}
use Rattle.std.proofs.lemmas.Int.{to_z-of_z}
use mir.Syntax.{w64, w128}
use mir.Val.{SFits}
use Rattle.basics.proofs.Signs.{strict_plus_plus}
use Rattle.geometry_model.specs.Points.{Point}
use Rattle.geometry_model.specs.WellKnownText.{coordinate_limit}
use Rattle.fraction.specs.Ranges.{IsKeptPoint}
use Rattle.orient.proofs.Bounds.{read, point_within}
use Rattle.witnesses.specs.declared.heights.Side.TheVariants.{Upper, Lower}
use Rattle.witnesses.specs.Heights.{moved_point, rise_limit}
use Rattle.witnesses.proofs.NumberReads.{scaled_read, sum_fits, denominator_within}
use Rattle.witnesses.proofs.faces.moved.Goals as goal

-- the three numbers, each read where it comes from
record Moved (p : Point) (scale rise nx ny d' d : ℤ) : Type 0 where
  x : to_z w128 (of_z w128 (to_z w128 (of_z w128 scale) *ℤ to_z w128 (of_z w128 nx))) ≡ scale *ℤ p.X
  y : to_z w128 (of_z w128 (to_z w128 (of_z w128 scale) *ℤ to_z w128 (of_z w128 ny))) ≡ scale *ℤ p.Y
  w : to_z w128 (of_z w128 (to_z w128 (of_z w128 scale) *ℤ to_z w128 (of_z w128 d))) ≡ scale *ℤ p.W
  fits : SFits w128 (scale *ℤ p.Y +ℤ rise) × SFits w128 (scale *ℤ p.Y -ℤ rise)

moved : (p : Point) (scale rise nx ny d' d : ℤ) → IsKeptPoint p → SFits w128 scale → SFits w128 nx → SFits w128 ny → SFits w64 d' → SFits w128 d → nx ≡ p.X → ny ≡ p.Y → d' ≡ p.W → d ≡ to_z w64 (of_z w64 d') → unsigned_abs scale ≤ 4 * coordinate_limit → unsigned_abs rise ≤ rise_limit
    → Moved p scale rise nx ny d' d
moved p scale rise nx ny d' d k fs fx fy fd' fd ex ey ed' ed hs hr = record {
  x = scaled_read scale nx p.X fs fx ex hs (point_within p k).x;
  y = scaled_read scale ny p.Y fs fy ey hs (point_within p k).y;
  w = scaled_read scale d p.W fs fd (ed ∙ read w64 d' p.W fd' ed') hs (denominator_within p.W (point_within p k).denominator);
  fits = sum_fits scale p.Y rise hs (point_within p k).y hr;
}

abbrev at : (c : goal.In-Upper) → Moved c.args.p.now c.args.scale c.args.rise c.numerator_x.result c.numerator_y.result c.denominator.result c.from.result
at c = moved c.args.p.now c.args.scale c.args.rise c.numerator_x.result c.numerator_y.result c.denominator.result c.from.result c.numerator_x.ensures.kept c.ranges.scale (record { sfits = c.numerator_x.type_inv }) (record { sfits = c.numerator_y.type_inv }) (record { sfits = c.denominator.type_inv }) (record { sfits = c.from.type_inv })
    c.numerator_x.ensures.value c.numerator_y.ensures.value c.denominator.ensures.value c.from.ensures c.requires.scale_bound c.requires.rise_bound

abbrev at-lower : (c : goal.In-Lower) → Moved c.args.p.now c.args.scale c.args.rise c.numerator_x.result c.numerator_y.result c.denominator.result c.from.result
at-lower c = moved c.args.p.now c.args.scale c.args.rise c.numerator_x.result c.numerator_y.result c.denominator.result c.from.result c.numerator_x.ensures.kept c.ranges.scale (record { sfits = c.numerator_x.type_inv }) (record { sfits = c.numerator_y.type_inv }) (record { sfits = c.denominator.type_inv }) (record { sfits = c.from.type_inv })
    c.numerator_x.ensures.value c.numerator_y.ensures.value c.denominator.ensures.value c.from.ensures c.requires.scale_bound c.requires.rise_bound

pub overflow_add-y : goal.overflow_add-y
overflow_add-y c = subst (SFits w128) (sym (ap₂ (λ (x y : ℤ). x +ℤ y) (at c).y (to_z-of_z w128 c.args.rise c.ranges.rise))) (at c).fits.0

pub overflow_sub-y : goal.overflow_sub-y
overflow_sub-y c = subst (SFits w128) (sym (ap₂ (λ (x y : ℤ). x -ℤ y) (at-lower c).y (to_z-of_z w128 c.args.rise c.ranges.rise))) (at-lower c).fits.1

pub new-requires : goal.new-requires
new-requires c = subst (λ (z : ℤ). pos 0 <ℤ z) (sym (at c).w) (strict_plus_plus c.args.scale c.args.p.now.W c.requires.scale c.numerator_x.ensures.kept.range.positive)

pub new-requires-in-Lower : goal.new-requires-in-Lower
new-requires-in-Lower c = subst (λ (z : ℤ). pos 0 <ℤ z) (sym (at-lower c).w) (strict_plus_plus c.args.scale c.args.p.now.W c.requires.scale c.numerator_x.ensures.kept.range.positive)

-- the point of the three numbers
upper_is : (p : Point) (scale rise nx ny d' d : ℤ) (r : Point) → Moved p scale rise nx ny d' d → SFits w128 rise
    → r ≡ record { X = to_z w128 (of_z w128 (to_z w128 (of_z w128 scale) *ℤ to_z w128 (of_z w128 nx))); Y = to_z w128 (of_z w128 (to_z w128 (of_z w128 (to_z w128 (of_z w128 scale) *ℤ to_z w128 (of_z w128 ny))) +ℤ to_z w128 (of_z w128 rise))); W = to_z w128 (of_z w128 (to_z w128 (of_z w128 scale) *ℤ to_z w128 (of_z w128 d))) }
    → r ≡ moved_point Upper p scale rise
upper_is p scale rise nx ny d' d r m f e = e ∙ (λ i. record { X = m.x i; Y = (ap (λ (z : ℤ). to_z w128 (of_z w128 z)) (ap₂ (λ (x y : ℤ). x +ℤ y) m.y (to_z-of_z w128 rise f)) ∙ to_z-of_z w128 (scale *ℤ p.Y +ℤ rise) m.fits.0) i; W = m.w i })

lower_is : (p : Point) (scale rise nx ny d' d : ℤ) (r : Point) → Moved p scale rise nx ny d' d → SFits w128 rise
    → r ≡ record { X = to_z w128 (of_z w128 (to_z w128 (of_z w128 scale) *ℤ to_z w128 (of_z w128 nx))); Y = to_z w128 (of_z w128 (to_z w128 (of_z w128 (to_z w128 (of_z w128 scale) *ℤ to_z w128 (of_z w128 ny))) -ℤ to_z w128 (of_z w128 rise))); W = to_z w128 (of_z w128 (to_z w128 (of_z w128 scale) *ℤ to_z w128 (of_z w128 d))) }
    → r ≡ moved_point Lower p scale rise
lower_is p scale rise nx ny d' d r m f e = e ∙ (λ i. record { X = m.x i; Y = (ap (λ (z : ℤ). to_z w128 (of_z w128 z)) (ap₂ (λ (x y : ℤ). x -ℤ y) m.y (to_z-of_z w128 rise f)) ∙ to_z-of_z w128 (scale *ℤ p.Y -ℤ rise) m.fits.1) i; W = m.w i })

pub returns-in-Upper : goal.returns-in-Upper
returns-in-Upper c = upper_is c.args.p.now c.args.scale c.args.rise c.numerator_x.result c.numerator_y.result c.denominator.result c.from.result c.new.result (moved c.args.p.now c.args.scale c.args.rise c.numerator_x.result c.numerator_y.result c.denominator.result c.from.result c.numerator_x.ensures.kept c.ranges.scale (record { sfits = c.numerator_x.type_inv }) (record { sfits = c.numerator_y.type_inv }) (record { sfits = c.denominator.type_inv }) (record { sfits = c.from.type_inv })
    c.numerator_x.ensures.value c.numerator_y.ensures.value c.denominator.ensures.value c.from.ensures c.requires.scale_bound c.requires.rise_bound) c.ranges.rise c.new.ensures
    ∙ ap (λ s. moved_point s c.args.p.now c.args.scale c.args.rise) (sym c.in-Upper.is)

pub returns-in-Lower : goal.returns-in-Lower
returns-in-Lower c = lower_is c.args.p.now c.args.scale c.args.rise c.numerator_x.result c.numerator_y.result c.denominator.result c.from.result c.new-in-Lower.result (moved c.args.p.now c.args.scale c.args.rise c.numerator_x.result c.numerator_y.result c.denominator.result c.from.result c.numerator_x.ensures.kept c.ranges.scale (record { sfits = c.numerator_x.type_inv }) (record { sfits = c.numerator_y.type_inv }) (record { sfits = c.denominator.type_inv }) (record { sfits = c.from.type_inv })
    c.numerator_x.ensures.value c.numerator_y.ensures.value c.denominator.ensures.value c.from.ensures c.requires.scale_bound c.requires.rise_bound) c.ranges.rise c.new-in-Lower.ensures
    ∙ ap (λ s. moved_point s c.args.p.now c.args.scale c.args.rise) (sym c.in-Lower.is)
