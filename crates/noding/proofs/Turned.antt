-- The same edge from its end to its start, and edges on two lines that don't cross.
use Rattle.std.proofs.Common.{◌≡◌, Bool, true, false, ◌&&◌, sym, ap, ap₂, ◌∙◌, arith, ℤ, pos, ◌+ℤ◌, ◌-ℤ◌, ◌*ℤ◌, ◌≤ℤ◌}
use borrow.Author.Differences.{ints}
use Rattle.std.specs.Cmp.{both_ways}
use Rattle.std.proofs.lemmas.Bool.{and_parts}
use Rattle.geometry_model.specs.Points.{Position, Point, IsPoint, point_at}
use Rattle.geometry_model.specs.Geometries.{Edge}
use Rattle.geometry_model.specs.Sides.{side, on, on_one_line}
use Rattle.geometry_model.proofs.DimensionFacts.{is_false}
use Rattle.fraction.specs.Ranges.{IsOnGrid, meeting_limit}
use Rattle.geometry_laws.proofs.Hulls.{OnHull, on_from_hull, hull_from_on}
use Rattle.geometry_laws.proofs.Cuts.{one_line}
use Rattle.matrix_laws.proofs.EdgeMeeting.{shares_point}
use Rattle.noding.specs.Meetings.{on_both, IsMeeting}
use Rattle.noding.specs.declared.answers.Meet.{Meet}
use Rattle.noding.specs.declared.answers.Meet.TheVariants.{Apart, At, Along}
use Rattle.noding.proofs.MeetBounds.{sides_within}
use Rattle.noding.proofs.Crossing.{edge}

-- an edge taken from its end to its start holds the same points
on_turned : (c d : Position) (p : Point) → IsPoint p → on (edge d c) p ≡ true → on (edge c d) p ≡ true
on_turned c d p hp k =
    let h : OnHull (edge d c) p = hull_from_on (edge d c) p hp k in
    on_from_hull (edge c d) p (record {
      k = h.k;
      m = h.n;
      n = h.m;
      from_k = h.from_k;
      from_m = h.from_n;
      from_n = h.from_m;
      x_is = exchanged (h.m *ℤ d.x) (h.n *ℤ c.x) (h.k *ℤ p.X) h.x_is;
      y_is = exchanged (h.m *ℤ d.y) (h.n *ℤ c.y) (h.k *ℤ p.Y) h.y_is;
      w_is = exchanged h.m h.n (h.k *ℤ p.W) h.w_is;
    })
  where
    exchanged : (x y z : ℤ) → z ≡ x +ℤ y → z ≡ y +ℤ x
    exchanged x y z e = omega (arith, ints)

-- so both edges hold the same points whichever way the second is taken
same_turned : (e : Edge) (c d : Position) (p : Point) → IsPoint p → on_both e (edge c d) p ≡ on_both e (edge d c) p
same_turned e c d p hp = ap (λ (t : Bool). on e p && t) (both_ways (on (edge c d) p) (on (edge d c) p) (λ k. on_turned d c p hp k) (λ k. on_turned c d p hp k))

-- and their meeting is the same
pub meeting_turned : (e : Edge) (c d : Position) (m : Meet) → IsMeeting e (edge d c) m → IsMeeting e (edge c d) m
meeting_turned e c d Apart h = λ p hp. same_turned e c d p hp ∙ h p hp
meeting_turned e c d (At q) h = λ p hp. same_turned e c d p hp ∙ h p hp
meeting_turned e c d (Along q r) h = record { in_order = h.in_order; exact = λ p hp. same_turned e c d p hp ∙ h.exact p hp }

-- one end is farther on one side of the other edge's line
pub unequal_sides : (e f : Edge) → (side e.start e.end (point_at f.start) ≡ side e.start e.end (point_at f.end) → ⊥) → on_one_line e f ≡ false
unequal_sides e f differ = is_false (on_one_line e f) (λ k. differ ((one_line e f k).start ∙ sym (one_line e f k).end))

-- both ends are equally far on one side of the other edge's line
pub apart_parallel : (e f : Edge) → side e.start e.end (point_at f.start) ≡ side e.start e.end (point_at f.end) → (side e.start e.end (point_at f.start) ≡ pos 0 → ⊥) → IsMeeting e f Apart
apart_parallel e f same off p hp = is_false (on_both e f p) (λ k. clash (and_parts (on e p) (on f p) k))
  where
    no_difference : (x y : ℤ) → x ≡ y → x -ℤ y ≡ pos 0
    no_difference x y h = omega (arith, ints)

    clash : (on e p ≡ true) × (on f p ≡ true) → ⊥
    clash k = (shares_point e f p hp (is_false (on_one_line e f) (λ l. off (one_line e f l).start)) k.0 k.1).w_is_not (no_difference (side e.start e.end (point_at f.start)) (side e.start e.end (point_at f.end)) same)

-- ---- the sides of both ends, as numbers
-- the sides of two positions, computed as numbers, differ by no more than the limit
pub numbers_within : (a b c d : Position) (s t : ℤ) → s ≡ side a b (point_at c) → t ≡ side a b (point_at d) → IsOnGrid a → IsOnGrid b → IsOnGrid c → IsOnGrid d → (t -ℤ s) ≤ℤ pos meeting_limit
numbers_within a b c d s t e f ha hb hc hd = at_most (t -ℤ s) (side a b (point_at d) -ℤ side a b (point_at c)) (ap₂ (λ (x y : ℤ). x -ℤ y) f e) (sides_within a b c d ha hb hc hd)
  where
    at_most : (y z : ℤ) → y ≡ z → z ≤ℤ pos meeting_limit → y ≤ℤ pos meeting_limit
    at_most y z e h = omega (arith, ints)
