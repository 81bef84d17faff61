-- Envelopes overlap exactly where they share a position.
use Rattle.std.proofs.Common.{◌≡◌, ◌≤ℤ◌, arith, true}
use Rattle.std.specs.Prelude.{◌&&◌, int_le}
use Rattle.std.specs.Int.{int_max}
use Rattle.std.proofs.lemmas.Bool.{and_parts, and_from}
use Rattle.std.proofs.lemmas.Int.{clamps}
use borrow.Author.Differences.{ints}
use Rattle.geometry_model.specs.Envelopes.{Envelope, overlap}
use Rattle.geometry_model.specs.Points.{Position}
use Rattle.library_calls.specs.Indexes.{IsInside, IsOrdered, OverlapIsShared}

-- the position with the greater of the two least bounds is in both
shared : (e f : Envelope) → IsOrdered e → IsOrdered f → overlap e f ≡ true → (p : Position) × (IsInside e p × IsInside f p)
shared e f one other met =
    let all = and_parts (int_le e.least_x f.greatest_x && int_le f.least_x e.greatest_x && int_le e.least_y f.greatest_y)
    (int_le f.least_y e.greatest_y) met in
    let few = and_parts (int_le e.least_x f.greatest_x && int_le f.least_x e.greatest_x) (int_le e.least_y f.greatest_y) all.0 in
    let two = and_parts (int_le e.least_x f.greatest_x) (int_le f.least_x e.greatest_x) few.0 in
    let a : int_le e.least_x f.greatest_x ≡ true = two.0 in
    let b : int_le f.least_x e.greatest_x ≡ true = two.1 in
    let c : int_le e.least_y f.greatest_y ≡ true = few.1 in
    let d : int_le f.least_y e.greatest_y ≡ true = all.1 in
    let across : e.least_x ≤ℤ e.greatest_x = one.across in
    let across' : f.least_x ≤ℤ f.greatest_x = other.across in
    let up : e.least_y ≤ℤ e.greatest_y = one.up in
    let up' : f.least_y ≤ℤ f.greatest_y = other.up in (
      record { x = int_max e.least_x f.least_x; y = int_max e.least_y f.least_y },
      (
        record {
          right = omega (arith, ints, clamps);
          left = omega (arith, ints, clamps);
          above = omega (arith, ints, clamps);
          below = omega (arith, ints, clamps);
        },
        record {
          right = omega (arith, ints, clamps);
          left = omega (arith, ints, clamps);
          above = omega (arith, ints, clamps);
          below = omega (arith, ints, clamps);
        },
      ),
    )

-- where a position is in both, no side of one is past the other's
overlaps : (e f : Envelope) (p : Position) → IsInside e p → IsInside f p → overlap e f ≡ true
overlaps e f p one other =
    let a : e.least_x ≤ℤ p.x = one.right in let a' : f.least_x ≤ℤ p.x = other.right in
    let b : p.x ≤ℤ e.greatest_x = one.left in let b' : p.x ≤ℤ f.greatest_x = other.left in
    let c : e.least_y ≤ℤ p.y = one.above in let c' : f.least_y ≤ℤ p.y = other.above in
    let d : p.y ≤ℤ e.greatest_y = one.below in let d' : p.y ≤ℤ f.greatest_y = other.below in
    let across = and_from (int_le e.least_x f.greatest_x) (int_le f.least_x e.greatest_x) (grind (arith, ints, a, b'))
    (grind (arith, ints, a', b)) in
    let few = and_from (int_le e.least_x f.greatest_x && int_le f.least_x e.greatest_x) (int_le e.least_y f.greatest_y) across
    (grind (arith, ints, c, d')) in
    and_from (int_le e.least_x f.greatest_x && int_le f.least_x e.greatest_x && int_le e.least_y f.greatest_y)
    (int_le f.least_y e.greatest_y) few (grind (arith, ints, c', d))

pub overlap_is_shared : OverlapIsShared
overlap_is_shared e f one other = (shared e f one other, λ found. overlaps e f found.0 found.1.0 found.1.1)
