use Rattle.std.proofs.Common.{◌≡◌, Bool, true, false, ◌&&◌, refl, sym, ap, ap₂, subst, ◌∙◌, ℤ, pos, ◌+ℤ◌, ◌-ℤ◌, ◌≤ℤ◌, ◌<ℤ◌, int_le, rules, arith, w64}
use borrow.Author.Differences.{ints}
use Rattle.std.proofs.lemmas.Int.{to_z-of_z}
use mir.Val.{to_z, of_z, SFits}
use Rattle.geometry_model.specs.Points.{Position, Point, point_at, same_point}
use Rattle.geometry_model.specs.Geometries.{Edge}
use Rattle.geometry_model.specs.Sides.{side, on}
use Rattle.fraction.specs.Ranges.{meeting_limit}
use Rattle.noding.specs.Meetings.{IsMeeting}
use Rattle.noding.proofs.MeetBounds.{WeightsFit, side_weights_fit}
use Rattle.noding.proofs.Crossing.{edge, point_of, Straddles, crossing_is, apart_beside, straddling}
use Rattle.noding.proofs.segment_crossings.crossing.Goals as goal

abbrev read : ℤ → ℤ
read z = to_z w64 (of_z w64 z)

-- the code's test of the two numbers
test_is : (s t : ℤ) → SFits w64 s → SFits w64 t → (b : Bool) → b ≡ (int_le (read s) (pos 0) && int_le (pos 0) (read t)) → (v : Bool) → b ≡ v → (int_le s (pos 0) && int_le (pos 0) t) ≡ v
test_is s t fs ft b e v f = sym (ap₂ (λ (x y : ℤ). int_le x (pos 0) && int_le (pos 0) y) (to_z-of_z w64 s fs) (to_z-of_z w64 t ft)) ∙ sym e ∙ f

pub record Read (s t : ℤ) : Type 0 where
  pub lower : s ≤ℤ pos 0
  pub upper : pos 0 ≤ℤ t
  pub fits : WeightsFit s t
  pub upper_is : read t ≡ t
  pub opposite_is : read (pos 0 -ℤ read s) ≡ pos 0 -ℤ s

-- the weights as the code makes them
reading : (s t : ℤ) → SFits w64 s → SFits w64 t → (int_le s (pos 0) && int_le (pos 0) t) ≡ true → s <ℤ t → (t -ℤ s) ≤ℤ pos meeting_limit → Read s t
reading s t fs ft e d l =
    let both : (s ≤ℤ pos 0) × (pos 0 ≤ℤ t) = straddling s t e in
    let fits : WeightsFit s t = side_weights_fit s t both.0 both.1 d l in
    record {
      lower = both.0;
      upper = both.1;
      fits = fits;
      upper_is = to_z-of_z w64 t ft;
      opposite_is = ap (λ (z : ℤ). read (pos 0 -ℤ z)) (to_z-of_z w64 s fs) ∙ to_z-of_z w64 (pos 0 -ℤ s) fits.opposite;
    }

straddles : (e : Edge) (c d : Position) (p : Point) (s t : ℤ) → Read s t → s ≡ side e.start e.end (point_at c) → t ≡ side e.start e.end (point_at d) → s <ℤ t → pos 0 <ℤ p.W
    → same_point p (point_of c (read t) d (read (pos 0 -ℤ read s))) ≡ true → Straddles e c d p
straddles e c d p s t r es et h hp same = record {
  is_point = hp;
  differ = less s t _ _ es et h;
  lower = low s _ es r.lower;
  upper = high t _ et r.upper;
  same = ap₂ (λ (m n : ℤ). same_point p (point_of c m d n)) (sym (r.upper_is ∙ et)) (sym (r.opposite_is ∙ ap (λ (z : ℤ). pos 0 -ℤ z) es)) ∙ same;
}
  where
    less : (s t s' t' : ℤ) → s ≡ s' → t ≡ t' → s <ℤ t → s' <ℤ t'
    less s t s' t' e f h = omega (arith, ints)

    low : (s s' : ℤ) → s ≡ s' → s ≤ℤ pos 0 → s' ≤ℤ pos 0
    low s s' e h = omega (arith, ints)

    high : (t t' : ℤ) → t ≡ t' → pos 0 ≤ℤ t → pos 0 ≤ℤ t'
    high t t' e h = omega (arith, ints)

beside : (e : Edge) (c d : Position) (s t : ℤ) → s ≡ side e.start e.end (point_at c) → t ≡ side e.start e.end (point_at d) → s <ℤ t → (int_le s (pos 0) && int_le (pos 0) t) ≡ false → (p : Point) → pos 0 <ℤ p.W
    → on e p && on (edge c d) p ≡ false
beside e c d s t es et h f = apart_beside e c d (less s t _ _ es et h) (sym (ap₂ (λ (x y : ℤ). int_le x (pos 0) && int_le (pos 0) y) es et) ∙ f)
  where
    less : (s t s' t' : ℤ) → s ≡ s' → t ≡ t' → s <ℤ t → s' <ℤ t'
    less s t s' t' e f h = omega (arith, ints)

pub point_between-requires-clause-second_weight : goal.point_between-requires-clause-second_weight
point_between-requires-clause-second_weight c =
    let r : Read c.args.below c.args.above = reading c.args.below c.args.above c.ranges.below c.ranges.above (test_is c.args.below c.args.above c.ranges.below c.ranges.above c.are_opposite.result c.are_opposite.ensures true c.if-are_opposite.true) c.requires.differ c.requires.limit in
    subst (λ (z : ℤ). pos 0 ≤ℤ z) (sym r.opposite_is) r.fits.positive

pub point_between-requires-clause-some : goal.point_between-requires-clause-some
point_between-requires-clause-some c =
    let r : Read c.args.below c.args.above = reading c.args.below c.args.above c.ranges.below c.ranges.above (test_is c.args.below c.args.above c.ranges.below c.ranges.above c.are_opposite.result c.are_opposite.ensures true c.if-are_opposite.true) c.requires.differ c.requires.limit in
    subst (λ (z : ℤ). pos 0 <ℤ z) (sym (ap₂ (λ (x y : ℤ). x +ℤ y) r.upper_is r.opposite_is)) r.fits.some

pub point_between-requires-clause-limit : goal.point_between-requires-clause-limit
point_between-requires-clause-limit c =
    let r : Read c.args.below c.args.above = reading c.args.below c.args.above c.ranges.below c.ranges.above (test_is c.args.below c.args.above c.ranges.below c.ranges.above c.are_opposite.result c.are_opposite.ensures true c.if-are_opposite.true) c.requires.differ c.requires.limit in
    subst (λ (z : ℤ). z ≤ℤ pos meeting_limit) (sym (ap₂ (λ (x y : ℤ). x +ℤ y) r.upper_is r.opposite_is)) r.fits.limit

pub returns-then-are_opposite-clause-exact : goal.returns-then-are_opposite-clause-exact
returns-then-are_opposite-clause-exact c =
    let r : Read c.args.below c.args.above = reading c.args.below c.args.above c.ranges.below c.ranges.above (test_is c.args.below c.args.above c.ranges.below c.ranges.above c.are_opposite.result c.are_opposite.ensures true c.if-are_opposite.true) c.requires.differ c.requires.limit in
    let p : Point = c.point_between.result in
    let s : Straddles c.args.first.now c.args.lower c.args.upper p = straddles c.args.first.now c.args.lower c.args.upper p c.args.below c.args.above r c.requires.below_is c.requires.above_is c.requires.differ c.point_between.ensures.positive c.point_between.ensures.same in
    subst (IsMeeting c.args.first.now (edge c.args.lower c.args.upper)) (sym c.at_if_on.ensures.value) (crossing_is c.args.first.now c.args.lower c.args.upper p s (on c.args.first.now p) refl)

pub returns-else-are_opposite-clause-exact : goal.returns-else-are_opposite-clause-exact
returns-else-are_opposite-clause-exact c = beside c.args.first.now c.args.lower c.args.upper c.args.below c.args.above c.requires.below_is c.requires.above_is c.requires.differ
    (test_is c.args.below c.args.above c.ranges.below c.ranges.above c.are_opposite.result c.are_opposite.ensures false c.if-are_opposite.false)

pub point_between-requires-clause-first_weight : goal.point_between-requires-clause-first_weight
point_between-requires-clause-first_weight c =
    let r : Read c.args.below c.args.above = reading c.args.below c.args.above c.ranges.below c.ranges.above (test_is c.args.below c.args.above c.ranges.below c.ranges.above c.are_opposite.result c.are_opposite.ensures true c.if-are_opposite.true) c.requires.differ c.requires.limit in
    subst (λ (z : ℤ). pos 0 ≤ℤ z) (sym r.upper_is) r.upper

-- ---- what the point keeps

pub at_if_on-requires-clause-positive : goal.at_if_on-requires-clause-positive
at_if_on-requires-clause-positive c = c.point_between.ensures.positive

pub at_if_on-requires-clause-limit : goal.at_if_on-requires-clause-limit
at_if_on-requires-clause-limit c = c.point_between.ensures.limit

pub at_if_on-requires-clause-least : goal.at_if_on-requires-clause-least
at_if_on-requires-clause-least c = c.point_between.ensures.least

pub returns-then-are_opposite-clause-points : goal.returns-then-are_opposite-clause-points
returns-then-are_opposite-clause-points c = c.at_if_on.ensures.points

pub returns-then-are_opposite-clause-limit : goal.returns-then-are_opposite-clause-limit
returns-then-are_opposite-clause-limit c = c.at_if_on.ensures.limit

pub returns-then-are_opposite-clause-least : goal.returns-then-are_opposite-clause-least
returns-then-are_opposite-clause-least c = c.at_if_on.ensures.least

pub returns-else-are_opposite-clause-points : goal.returns-else-are_opposite-clause-points
returns-else-are_opposite-clause-points c = search rules

pub returns-else-are_opposite-clause-limit : goal.returns-else-are_opposite-clause-limit
returns-else-are_opposite-clause-limit c = search rules

pub returns-else-are_opposite-clause-least : goal.returns-else-are_opposite-clause-least
returns-else-are_opposite-clause-least c = search rules
