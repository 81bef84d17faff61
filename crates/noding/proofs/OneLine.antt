-- Edges on one line: what both hold is what lies from the greater of their lesser ends to the lesser of their greater ends.
use Rattle.std.proofs.Common.{◌≡◌, ◌⊎◌, inl, inr, true, false, ◌&&◌, sym, ap, subst, ◌∙◌, pos}
use Rattle.std.specs.Cmp.{both_ways}
use Rattle.std.specs.declared.cmp.Ordering.TheVariants.{Less, Equal, Greater}
use Rattle.std.specs.Ordering.{int_eq, is_le, ord_max, ord_min}
use Rattle.std.proofs.lemmas.Bool.{and_parts, and_from}
use Rattle.basics.proofs.Tests.{equal_from, equal_yes}
use Rattle.geometry_model.specs.Points.{Position, Point, IsPoint, point_at, same_point, compare}
use Rattle.geometry_model.specs.Geometries.{Edge}
use Rattle.geometry_model.specs.Sides.{side, on, on_one_line}
use Rattle.geometry_model.specs.Dimensions.{area}
use Rattle.geometry_model.proofs.DimensionFacts.{is_false}
use Rattle.fraction.specs.Orders.{position_order}
use Rattle.geometry_laws.proofs.PointOrder.{same_reflexive, same_symmetric, equal_is_same}
use Rattle.geometry_laws.proofs.Respect.{on_respects}
use Rattle.geometry_laws.proofs.Hulls.{on_parts, on_from_hull}
use Rattle.geometry_laws.proofs.LineOrder.{area_on_line}
use Rattle.geometry_laws.proofs.RingParity.{position_is_point, side_is_area}
use Rattle.geometry_laws.proofs.Cuts.{hull_of_start, hull_of_end, not_less_self, OneLine, one_line}
use Rattle.noding.specs.Meetings.{on_both, on_stretch, IsMeeting}
use Rattle.noding.specs.declared.answers.Meet.TheVariants.{Apart, At, Along}
use Rattle.noding.proofs.Order.{NotAfter, not_after_same, not_after_trans, not_after_both, IsGreater, IsLesser, greater_is, lesser_is}
use Rattle.noding.proofs.Ends.{HasEnds, has_ends, at_low, at_high, not_before_low, not_after_high, held}

-- the greater of two edges' lesser ends, and the lesser of their greater ends
abbrev pub from_of : Edge → Edge → Position
from_of e f = ord_max position_order (ord_min position_order e.start e.end) (ord_min position_order f.start f.end)

abbrev pub to_of : Edge → Edge → Position
to_of e f = ord_min position_order (ord_max position_order e.start e.end) (ord_max position_order f.start f.end)

-- two edges on one line, by their ends
pub record Lined (e f : Edge) : Type 0 where
  pub e_low : Position
  pub e_high : Position
  pub f_low : Position
  pub f_high : Position
  pub from : Position
  pub to : Position
  pub wide : e.start ≡ e.end → ⊥
  pub one_line : OneLine e f
  pub e_ends : HasEnds e e_low e_high
  pub f_ends : HasEnds f f_low f_high
  pub greater : IsGreater e_low f_low from
  pub lesser : IsLesser e_high f_high to

abbrev pub lined : (e f : Edge) → (e.start ≡ e.end → ⊥) → (f.start ≡ f.end → ⊥) → on_one_line e f ≡ true → Lined e f
lined e f we wf h = record {
  e_low = ord_min position_order e.start e.end;
  e_high = ord_max position_order e.start e.end;
  f_low = ord_min position_order f.start f.end;
  f_high = ord_max position_order f.start f.end;
  from = from_of e f;
  to = to_of e f;
  wide = we;
  one_line = one_line e f h;
  e_ends = has_ends e we;
  f_ends = has_ends f wf;
  greater = greater_is (ord_min position_order e.start e.end) (ord_min position_order f.start f.end);
  lesser = lesser_is (ord_max position_order e.start e.end) (ord_max position_order f.start f.end);
}

-- the position is on the line of the edge
abbrev pub OnLine : Edge → Position → Type 0
OnLine e a = side e.start e.end (point_at a) ≡ pos 0

-- an edge's start is on its line
pub start_on_line : (e : Edge) → OnLine e e.start
start_on_line e = (on_parts e (point_at e.start) (on_from_hull e (point_at e.start) (hull_of_start e))).on_line

-- and so is its end
pub end_on_line : (e : Edge) → OnLine e e.end
end_on_line e = (on_parts e (point_at e.end) (on_from_hull e (point_at e.end) (hull_of_end e))).on_line

one_of : (P : Position → Type 0) (a b m : Position) → (m ≡ a) ⊎ (m ≡ b) → P a → P b → P m
one_of P a b m (inl e) h k = subst P (sym e) h
one_of P a b m (inr e) h k = subst P (sym e) k

-- all four ends, and the two chosen ones, are on the one line
pub e_low_on_line : (e f : Edge) (l : Lined e f) → OnLine e l.e_low
e_low_on_line e f l = at_low (OnLine e) e l.e_low l.e_high l.e_ends (start_on_line e) (end_on_line e)

e_high_on_line : (e f : Edge) (l : Lined e f) → OnLine e l.e_high
e_high_on_line e f l = at_high (OnLine e) e l.e_low l.e_high l.e_ends (start_on_line e) (end_on_line e)

f_low_on_line : (e f : Edge) (l : Lined e f) → OnLine e l.f_low
f_low_on_line e f l = at_low (OnLine e) f l.f_low l.f_high l.f_ends l.one_line.start l.one_line.end

f_high_on_line : (e f : Edge) (l : Lined e f) → OnLine e l.f_high
f_high_on_line e f l = at_high (OnLine e) f l.f_low l.f_high l.f_ends l.one_line.start l.one_line.end

from_on_line : (e f : Edge) (l : Lined e f) → OnLine e l.from
from_on_line e f l = one_of (OnLine e) l.e_low l.f_low l.from l.greater.is_one (e_low_on_line e f l) (f_low_on_line e f l)

to_on_line : (e f : Edge) (l : Lined e f) → OnLine e l.to
to_on_line e f l = one_of (OnLine e) l.e_high l.f_high l.to l.lesser.is_one (e_high_on_line e f l) (f_high_on_line e f l)

-- ---- what both hold lies within
-- a point of the line from the greater of the lesser ends to the lesser of the greater ends
pub record Within (e f : Edge) (l : Lined e f) (x : Point) : Type 0 where
  pub on_line : side e.start e.end x ≡ pos 0
  pub past : NotAfter (point_at l.from) x
  pub short : NotAfter x (point_at l.to)

-- what both edges hold isn't before either's lesser end nor after either's greater end
within_from : (e f : Edge) (l : Lined e f) (x : Point) → IsPoint x → on_both e f x ≡ true → Within e f l x
within_from e f l x hx k =
    let both : (on e x ≡ true) × (on f x ≡ true) = and_parts (on e x) (on f x) k in
    record {
      on_line = (on_parts e x both.0).on_line;
      past = one_of (λ a. NotAfter (point_at a) x) l.e_low l.f_low l.from l.greater.is_one (not_before_low e l.e_low l.e_high l.e_ends x hx both.0) (not_before_low f l.f_low l.f_high l.f_ends x hx both.1);
      short = one_of (λ a. NotAfter x (point_at a)) l.e_high l.f_high l.to l.lesser.is_one (not_after_high e l.e_low l.e_high l.e_ends x hx both.0) (not_after_high f l.f_low l.f_high l.f_ends x hx both.1);
    }

-- ---- and what lies within both hold
-- a point of the line between those two is within both edges
held_by_both : (e f : Edge) (l : Lined e f) (x : Point) → IsPoint x → Within e f l x → on_both e f x ≡ true
held_by_both e f l x hx w = and_from (on e x) (on f x)
    (held e l.e_low l.e_high l.e_ends x hx (area_on_line e.start e.end (point_at l.e_low) (point_at l.e_high) x l.wide (e_low_on_line e f l) (e_high_on_line e f l) w.on_line)
    (past l.e_low l.greater.first) (short l.e_high l.lesser.first))
    (held f l.f_low l.f_high l.f_ends x hx (area_on_line e.start e.end (point_at l.f_low) (point_at l.f_high) x l.wide (f_low_on_line e f l) (f_high_on_line e f l) w.on_line)
    (past l.f_low l.greater.second) (short l.f_high l.lesser.second))
  where
    past : (a : Position) → NotAfter (point_at a) (point_at l.from) → NotAfter (point_at a) x
    past a h = not_after_trans (point_at a) (point_at l.from) x (position_is_point a) (position_is_point l.from) hx h w.past

    short : (a : Position) → NotAfter (point_at l.to) (point_at a) → NotAfter x (point_at a)
    short a h = not_after_trans x (point_at l.to) (point_at a) hx (position_is_point l.to) (position_is_point a) w.short h

-- ---- the three answers
-- where the later beginning is after the earlier end the edges have nothing in common
pub apart_on_line : (e f : Edge) (l : Lined e f) → compare (point_at l.from) (point_at l.to) ≡ Greater → IsMeeting e f Apart
apart_on_line e f l g p hp = is_false (on_both e f p) (λ k. off (within_from e f l p hp k))
  where
    off : Within e f l p → ⊥
    off w = let clash : false ≡ true = sym (ap is_le g) ∙ not_after_trans (point_at l.from) p (point_at l.to) (position_is_point l.from) hp (position_is_point l.to) w.past w.short in cc

-- where the two are one point the edges have that alone in common
pub touching_on_line : (e f : Edge) (l : Lined e f) → compare (point_at l.from) (point_at l.to) ≡ Equal → IsMeeting e f (At (point_at l.from))
touching_on_line e f l g p hp = both_ways (on_both e f p) (same_point (point_at l.from) p) (λ k. one (within_from e f l p hp k)) (λ k. other k)
  where
    same : same_point (point_at l.from) (point_at l.to) ≡ true
    same = (equal_is_same (point_at l.from) (point_at l.to)).0 g

    one : Within e f l p → same_point (point_at l.from) p ≡ true
    one w = not_after_both (point_at l.from) p (position_is_point l.from) hp w.past
        (not_after_trans p (point_at l.to) (point_at l.from) hp (position_is_point l.to) (position_is_point l.from) w.short (not_after_same (point_at l.to) (point_at l.from) (same_symmetric (point_at l.to) (point_at l.from) ∙ same)))

    there : on_both e f (point_at l.from) ≡ true
    there = held_by_both e f l (point_at l.from) (position_is_point l.from) (record {
      on_line = from_on_line e f l;
      past = not_after_same (point_at l.from) (point_at l.from) (same_reflexive (point_at l.from));
      short = not_after_same (point_at l.from) (point_at l.to) same;
    })

    other : same_point (point_at l.from) p ≡ true → on_both e f p ≡ true
    other k =
        let both : (on e (point_at l.from) ≡ true) × (on f (point_at l.from) ≡ true) = and_parts (on e (point_at l.from)) (on f (point_at l.from)) there in
        and_from (on e p) (on f p) (sym (on_respects e (point_at l.from) p (position_is_point l.from) hp k) ∙ both.0) (sym (on_respects f (point_at l.from) p (position_is_point l.from) hp k) ∙ both.1)

-- where it is before, they have the stretch between in common
pub along_the_line : (e f : Edge) (l : Lined e f) → compare (point_at l.from) (point_at l.to) ≡ Less → IsMeeting e f (Along (point_at l.from) (point_at l.to))
along_the_line e f l g = record { in_order = g; exact = λ p hp. both_ways (on_both e f p) (on_stretch (record { lesser = point_at l.from; greater = point_at l.to }) p) (λ k. one p (within_from e f l p hp k)) (λ k. other p hp k) }
  where
    one : (p : Point) → Within e f l p → on_stretch (record { lesser = point_at l.from; greater = point_at l.to }) p ≡ true
    one p w = and_from (int_eq (area (point_at l.from) (point_at l.to) p) (pos 0) && is_le (compare (point_at l.from) p)) (is_le (compare p (point_at l.to)))
        (and_from (int_eq (area (point_at l.from) (point_at l.to) p) (pos 0)) (is_le (compare (point_at l.from) p))
        (equal_yes (area (point_at l.from) (point_at l.to) p) (pos 0) (area_on_line e.start e.end (point_at l.from) (point_at l.to) p l.wide (from_on_line e f l) (to_on_line e f l) w.on_line)) w.past) w.short

    differ : l.from ≡ l.to → ⊥
    differ q = not_less_self (point_at l.from) (point_at l.to) (subst (λ (a : Position). same_point (point_at l.from) (point_at a) ≡ true) q (same_reflexive (point_at l.from))) g

    -- a position on the edge's line is on that of the stretch
    across : (a : Position) → OnLine e a → side l.from l.to (point_at a) ≡ pos 0
    across a h = side_is_area l.from l.to (point_at a) ∙ area_on_line e.start e.end (point_at l.from) (point_at l.to) (point_at a) l.wide (from_on_line e f l) (to_on_line e f l) h

    back : (p : Point) → area (point_at l.from) (point_at l.to) p ≡ pos 0 → side e.start e.end p ≡ pos 0
    back p z = side_is_area e.start e.end p ∙ area_on_line l.from l.to (point_at e.start) (point_at e.end) p differ (across e.start (start_on_line e)) (across e.end (end_on_line e)) (side_is_area l.from l.to p ∙ z)

    other : (p : Point) → IsPoint p → on_stretch (record { lesser = point_at l.from; greater = point_at l.to }) p ≡ true → on_both e f p ≡ true
    other p hp k =
        let outer : (int_eq (area (point_at l.from) (point_at l.to) p) (pos 0) && is_le (compare (point_at l.from) p) ≡ true) × (is_le (compare p (point_at l.to)) ≡ true) = and_parts (int_eq (area (point_at l.from) (point_at l.to) p) (pos 0) && is_le (compare (point_at l.from) p)) (is_le (compare p (point_at l.to))) k in
        let inner : (int_eq (area (point_at l.from) (point_at l.to) p) (pos 0) ≡ true) × (is_le (compare (point_at l.from) p) ≡ true) = and_parts (int_eq (area (point_at l.from) (point_at l.to) p) (pos 0)) (is_le (compare (point_at l.from) p)) outer.0 in
        held_by_both e f l p hp (record { on_line = back p (equal_from (area (point_at l.from) (point_at l.to) p) (pos 0) inner.0); past = inner.1; short = outer.1 })
