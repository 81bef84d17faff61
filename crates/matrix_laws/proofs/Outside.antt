-- A point outside the envelope of a geometry is in its exterior, so two geometries with a common point have envelopes that meet.
use Rattle.std.proofs.Common.{◌≡◌, ◌≢◌, ◌⊎◌, inl, inr, Bool, true, false, ◌&&◌, if◌then◌else◌, ℤ, pos, ◌+ℤ◌, ◌-ℤ◌, ◌*ℤ◌, ◌<ℤ◌, ◌≤ℤ◌, int_lt, int_le, refl, sym, ap, ap₂, ◌∙◌, List, [], ◌∷◌, flat_map, Option, Some, None, arith}
use borrow.Author.Differences.{ints}
use Rattle.std.proofs.lemmas.Int.{clamps}
use Rattle.std.specs.Int.{int_min, int_max}
use Rattle.std.proofs.lemmas.Bool.{and_from}
use lib.Signed.{≤ℤ_refl}
use Rattle.geometry_model.specs.Points.{Position, Point, IsPoint, point_at}
use Rattle.geometry_model.specs.Geometries.{Edge, Geometry, edges, edges_of_line, edges_of_lines, lines, listed, positions, rings, joined_rings}
use Rattle.geometry_model.specs.Sides.{side, on}
use Rattle.geometry_model.specs.Crossings.{exactly_one as xor, reaches, spans, side_rightward, strictly_above}
use Rattle.geometry_model.specs.Locations.{is_at, locate}
use Rattle.geometry_model.specs.Labels.{above}
use Rattle.geometry_model.specs.Envelopes.{Envelope, envelope_at, joined, with_position, envelope_of_positions, envelope, overlap, meets}
use Rattle.geometry_model.specs.declared.point_sets.Location.TheVariants.{Interior, Exterior}
use Rattle.basics.proofs.Ring.{solve, var, lit, ◌⊕◌, ◌⊖◌, ◌⊗◌}
use Rattle.basics.proofs.Signs.{plus_plus, plus_minus, minus_plus, strict_plus_plus, strict_minus_plus, cancel_positive, cancel_negative, less_yes, less_no, at_most_yes, at_most_no, at_most_from, not_at_most_from}
use Rattle.basics.proofs.Orders.{weak_negative, weak_positive, gap_weak, gap_positive, positive_same, at_most_less, less_at_most, max_first, min_first, less_weak, at_most_from_gap}
use Rattle.basics.proofs.Bools.{by_contraries}
use Rattle.geometry_laws.specs.RingLaws.{IsClosed}
use Rattle.geometry_laws.specs.PieceLaws.{HasClosedRings}
use Rattle.geometry_laws.specs.CoverLaws.{value}
use Rattle.geometry_laws.proofs.Each.{Each, each_map, each_left, each_right, each_append, parity_none, same_parity}
use Rattle.geometry_laws.proofs.RingParity.{each_from_all, parity_of_rings, rings_cancel, rightward_left, rightward_right}
use Rattle.geometry_laws.proofs.Lines.{off_beyond}
use Rattle.geometry_laws.proofs.Locating.{Off, locate_off, start_is_on}
use Rattle.geometry_laws.proofs.Triangles.{dot}
use Rattle.geometry_laws.proofs.Xor.{xor_self}
use Rattle.geometry_laws.proofs.Hulls.{ordered}
use Rattle.geometry_laws.proofs.LineSides.{side'}
use Rattle.matrix_laws.specs.PolygonLaws.{IsOutside}

-- ---- all positions on one side of the point
abbrev RightOf : Point → Position → Type 0
RightOf p a = p.X <ℤ (a.x *ℤ p.W)

abbrev LeftOf : Point → Position → Type 0
LeftOf p a = (a.x *ℤ p.W) <ℤ p.X

abbrev Over : Point → Position → Type 0
Over p a = p.Y <ℤ (a.y *ℤ p.W)

abbrev Under : Point → Position → Type 0
Under p a = (a.y *ℤ p.W) <ℤ p.Y

abbrev OneSide : Point → List Position → Type 0
OneSide p qs = Each (RightOf p) qs ⊎ Each (LeftOf p) qs ⊎ Each (Over p) qs ⊎ Each (Under p) qs

-- ---- the envelope holds all positions
pub record Holds (e : Envelope) (a : Position) : Type 0 where
  pub low_x : e.least_x ≤ℤ a.x
  pub high_x : a.x ≤ℤ e.greatest_x
  pub low_y : e.least_y ≤ℤ a.y
  pub high_y : a.y ≤ℤ e.greatest_y

min_right : (x y z : ℤ) → y ≤ℤ z → int_min x y ≤ℤ z
min_right x y z h = omega (arith, ints, clamps)

max_right : (x y z : ℤ) → z ≤ℤ y → z ≤ℤ int_max x y
max_right x y z h = omega (arith, ints, clamps)

-- the envelope of a position and of more holds the position
holds_first : (a : Position) (o : Option Envelope) → Holds (with_position a o) a
holds_first a None = record { low_x = ≤ℤ_refl a.x; high_x = ≤ℤ_refl a.x; low_y = ≤ℤ_refl a.y; high_y = ≤ℤ_refl a.y }
holds_first a (Some e) = record { low_x = min_first a.x e.least_x; high_x = max_first a.x e.greatest_x; low_y = min_first a.y e.least_y; high_y = max_first a.y e.greatest_y }

-- and still holds what the others' envelope holds
holds_rest : (a : Position) (e : Envelope) (b : Position) → Holds e b → Holds (joined (envelope_at a) e) b
holds_rest a e b h = record { low_x = min_right a.x e.least_x b.x h.low_x; high_x = max_right a.x e.greatest_x b.x h.high_x; low_y = min_right a.y e.least_y b.y h.low_y; high_y = max_right a.y e.greatest_y b.y h.high_y }

-- so the envelope of positions holds each of them
holds_all : (a : Position) (rest : List Position) → Each (Holds (with_position a (envelope_of_positions rest))) (a ∷ rest)
holds_all a [] = (holds_first a None, tt)
holds_all a (b ∷ rest) = (
  holds_first a (Some (with_position b (envelope_of_positions rest))),
  each_map (Holds (with_position b (envelope_of_positions rest))) (Holds (joined (envelope_at a) (with_position b (envelope_of_positions rest)))) (b ∷ rest) (holds_rest a (with_position b (envelope_of_positions rest))) (holds_all b rest),
)

-- a number at most another, times one above 0
times : (x y w : ℤ) → pos 0 <ℤ w → x ≤ℤ y → (x *ℤ w) ≤ℤ (y *ℤ w)
times x y w hw h = apart (x *ℤ w) (y *ℤ w) ((y -ℤ x) *ℤ w) (solve (x ∷ y ∷ w ∷ []) (var 1 ⊗ var 2 ⊖ var 0 ⊗ var 2) ((var 1 ⊖ var 0) ⊗ var 2) tt) (plus_plus (y -ℤ x) w (gap_weak x y h) (weak_positive w hw))
  where
    apart : (s t r : ℤ) → t -ℤ s ≡ r → pos 0 ≤ℤ r → s ≤ℤ t
    apart s t r e h = omega (arith, ints)

-- a point outside the envelope has all positions on one side of it, since the envelope holds them
one_side : (qs : List Position) (p : Point) → IsPoint p → IsOutside (envelope_of_positions qs) p → OneSide p qs
one_side [] p hp h = inl tt
one_side (a ∷ rest) p hp h = go h
  where
    go : IsOutside (Some (with_position a (envelope_of_positions rest))) p → OneSide p (a ∷ rest)
    go (inl k) = inl (each_map (Holds (with_position a (envelope_of_positions rest))) (RightOf p) (a ∷ rest) (λ q b. less_at_most p.X ((with_position a (envelope_of_positions rest)).least_x *ℤ p.W) (q.x *ℤ p.W) k (times _ q.x p.W hp b.low_x)) (holds_all a rest))
    go (inr (inl k)) = inr (inl (each_map (Holds (with_position a (envelope_of_positions rest))) (LeftOf p) (a ∷ rest) (λ q b. at_most_less (q.x *ℤ p.W) ((with_position a (envelope_of_positions rest)).greatest_x *ℤ p.W) p.X (times q.x _ p.W hp b.high_x) k) (holds_all a rest)))
    go (inr (inr (inl k))) = inr (inr (inl (each_map (Holds (with_position a (envelope_of_positions rest))) (Over p) (a ∷ rest) (λ q b. less_at_most p.Y ((with_position a (envelope_of_positions rest)).least_y *ℤ p.W) (q.y *ℤ p.W) k (times _ q.y p.W hp b.low_y)) (holds_all a rest))))
    go (inr (inr (inr k))) = inr (inr (inr (each_map (Holds (with_position a (envelope_of_positions rest))) (Under p) (a ∷ rest) (λ q b. at_most_less (q.y *ℤ p.W) ((with_position a (envelope_of_positions rest)).greatest_y *ℤ p.W) p.Y (times q.y _ p.W hp b.high_y) k) (holds_all a rest))))

-- ---- what holds of all positions holds of the ends of all edges
ends_of_line : (P : Position → Type 0) (l : List Position) → Each P l → Each (λ e. P e.start × P e.end) (edges_of_line l)
ends_of_line P [] h = tt
ends_of_line P (a ∷ []) h = tt
ends_of_line P (a ∷ b ∷ rest) h = ((h.0, h.1.0), ends_of_line P (b ∷ rest) h.1)

ends_of_lines : (P : Position → Type 0) (ls : List (List Position)) → Each P (flat_map (λ line. line) ls) → Each (λ e. P e.start × P e.end) (edges_of_lines ls)
ends_of_lines P [] h = tt
ends_of_lines P (l ∷ ls) h = each_append (λ e. P e.start × P e.end) (edges_of_line l) (edges_of_lines ls) (ends_of_line P l (each_left P l (flat_map (λ line. line) ls) h)) (ends_of_lines P ls (each_right P l (flat_map (λ line. line) ls) h))

-- ---- an edge whose ends are on one side of the point doesn't go through it
-- a product of a number above 0 and one below 0 is -1 at most
slope : (w s : ℤ) → pos 0 <ℤ w → s <ℤ pos 0 → (w *ℤ s +ℤ pos 1) ≤ℤ pos 0
slope w s h k = total (w *ℤ s +ℤ pos 1) (w *ℤ (s +ℤ pos 1)) w (solve (w ∷ s ∷ []) (var 0 ⊗ var 1 ⊕ lit (pos 1)) (var 0 ⊗ (var 1 ⊕ lit (pos 1)) ⊖ var 0 ⊕ lit (pos 1)) tt) (plus_minus w (s +ℤ pos 1) (weak_positive w h) (next s k)) h
  where
    next : (s : ℤ) → s <ℤ pos 0 → (s +ℤ pos 1) ≤ℤ pos 0
    next s h = omega (arith, ints)

    total : (v p w : ℤ) → v ≡ p -ℤ w +ℤ pos 1 → p ≤ℤ pos 0 → pos 0 <ℤ w → v ≤ℤ pos 0
    total v p w e h k = omega (arith, ints)

lower : (x y : ℤ) → x <ℤ y → (x -ℤ y) <ℤ pos 0
lower x y h = omega (arith, ints)

carried : (x y : ℤ) → x ≡ y → y ≤ℤ pos 0 → x ≤ℤ pos 0
carried x y e h = omega (arith, ints)

-- each of these four takes a linear form that is at most 0 at both ends of the edge and above 0 at the point;
-- such a form is at most 0 on the whole edge. First: both ends are right of the point
off_right : (p : Point) (e : Edge) → IsPoint p → RightOf p e.start → RightOf p e.end → on e p ≡ false
off_right p e hp s t = off_beyond (record { a = pos 0 -ℤ p.W *ℤ p.W; b = pos 0; c = p.X *ℤ p.W +ℤ pos 1 }) e p hp (record { at_start = at e.start s; at_end = at e.end t })
    (positive_same _ p.W (solve (p.X ∷ p.Y ∷ p.W ∷ []) ((lit (pos 0) ⊖ var 2 ⊗ var 2) ⊗ var 0 ⊕ lit (pos 0) ⊗ var 1 ⊕ (var 0 ⊗ var 2 ⊕ lit (pos 1)) ⊗ var 2) (var 2) tt) hp)
  where
    at : (a : Position) → RightOf p a → value (record { a = pos 0 -ℤ p.W *ℤ p.W; b = pos 0; c = p.X *ℤ p.W +ℤ pos 1 }) (point_at a) ≤ℤ pos 0
    at a h = carried _ (p.W *ℤ (p.X -ℤ a.x *ℤ p.W) +ℤ pos 1) (solve (p.X ∷ p.W ∷ a.x ∷ a.y ∷ []) ((lit (pos 0) ⊖ var 1 ⊗ var 1) ⊗ var 2 ⊕ lit (pos 0) ⊗ var 3 ⊕ (var 0 ⊗ var 1 ⊕ lit (pos 1)) ⊗ lit (pos 1)) (var 1 ⊗ (var 0 ⊖ var 2 ⊗ var 1) ⊕ lit (pos 1)) tt) (slope p.W (p.X -ℤ a.x *ℤ p.W) hp (lower p.X (a.x *ℤ p.W) h))

-- both ends are left of the point
off_left : (p : Point) (e : Edge) → IsPoint p → LeftOf p e.start → LeftOf p e.end → on e p ≡ false
off_left p e hp s t = off_beyond (record { a = p.W *ℤ p.W; b = pos 0; c = pos 1 -ℤ p.X *ℤ p.W }) e p hp (record { at_start = at e.start s; at_end = at e.end t })
    (positive_same _ p.W (solve (p.X ∷ p.Y ∷ p.W ∷ []) ((var 2 ⊗ var 2) ⊗ var 0 ⊕ lit (pos 0) ⊗ var 1 ⊕ (lit (pos 1) ⊖ var 0 ⊗ var 2) ⊗ var 2) (var 2) tt) hp)
  where
    at : (a : Position) → LeftOf p a → value (record { a = p.W *ℤ p.W; b = pos 0; c = pos 1 -ℤ p.X *ℤ p.W }) (point_at a) ≤ℤ pos 0
    at a h = carried _ (p.W *ℤ (a.x *ℤ p.W -ℤ p.X) +ℤ pos 1) (solve (p.X ∷ p.W ∷ a.x ∷ a.y ∷ []) ((var 1 ⊗ var 1) ⊗ var 2 ⊕ lit (pos 0) ⊗ var 3 ⊕ (lit (pos 1) ⊖ var 0 ⊗ var 1) ⊗ lit (pos 1)) (var 1 ⊗ (var 2 ⊗ var 1 ⊖ var 0) ⊕ lit (pos 1)) tt) (slope p.W (a.x *ℤ p.W -ℤ p.X) hp (lower (a.x *ℤ p.W) p.X h))

-- both ends are over the point
off_over : (p : Point) (e : Edge) → IsPoint p → Over p e.start → Over p e.end → on e p ≡ false
off_over p e hp s t = off_beyond (record { a = pos 0; b = pos 0 -ℤ p.W *ℤ p.W; c = p.Y *ℤ p.W +ℤ pos 1 }) e p hp (record { at_start = at e.start s; at_end = at e.end t })
    (positive_same _ p.W (solve (p.X ∷ p.Y ∷ p.W ∷ []) (lit (pos 0) ⊗ var 0 ⊕ (lit (pos 0) ⊖ var 2 ⊗ var 2) ⊗ var 1 ⊕ (var 1 ⊗ var 2 ⊕ lit (pos 1)) ⊗ var 2) (var 2) tt) hp)
  where
    at : (a : Position) → Over p a → value (record { a = pos 0; b = pos 0 -ℤ p.W *ℤ p.W; c = p.Y *ℤ p.W +ℤ pos 1 }) (point_at a) ≤ℤ pos 0
    at a h = carried _ (p.W *ℤ (p.Y -ℤ a.y *ℤ p.W) +ℤ pos 1) (solve (p.Y ∷ p.W ∷ a.x ∷ a.y ∷ []) (lit (pos 0) ⊗ var 2 ⊕ (lit (pos 0) ⊖ var 1 ⊗ var 1) ⊗ var 3 ⊕ (var 0 ⊗ var 1 ⊕ lit (pos 1)) ⊗ lit (pos 1)) (var 1 ⊗ (var 0 ⊖ var 3 ⊗ var 1) ⊕ lit (pos 1)) tt) (slope p.W (p.Y -ℤ a.y *ℤ p.W) hp (lower p.Y (a.y *ℤ p.W) h))

-- both ends are under the point
off_under : (p : Point) (e : Edge) → IsPoint p → Under p e.start → Under p e.end → on e p ≡ false
off_under p e hp s t = off_beyond (record { a = pos 0; b = p.W *ℤ p.W; c = pos 1 -ℤ p.Y *ℤ p.W }) e p hp (record { at_start = at e.start s; at_end = at e.end t })
    (positive_same _ p.W (solve (p.X ∷ p.Y ∷ p.W ∷ []) (lit (pos 0) ⊗ var 0 ⊕ (var 2 ⊗ var 2) ⊗ var 1 ⊕ (lit (pos 1) ⊖ var 1 ⊗ var 2) ⊗ var 2) (var 2) tt) hp)
  where
    at : (a : Position) → Under p a → value (record { a = pos 0; b = p.W *ℤ p.W; c = pos 1 -ℤ p.Y *ℤ p.W }) (point_at a) ≤ℤ pos 0
    at a h = carried _ (p.W *ℤ (a.y *ℤ p.W -ℤ p.Y) +ℤ pos 1) (solve (p.Y ∷ p.W ∷ a.x ∷ a.y ∷ []) (lit (pos 0) ⊗ var 2 ⊕ (var 1 ⊗ var 1) ⊗ var 3 ⊕ (lit (pos 1) ⊖ var 0 ⊗ var 1) ⊗ lit (pos 1)) (var 1 ⊗ (var 3 ⊗ var 1 ⊖ var 0) ⊕ lit (pos 1)) tt) (slope p.W (a.y *ℤ p.W -ℤ p.Y) hp (lower (a.y *ℤ p.W) p.Y h))

-- ---- what is above the point
-- an edge whose ends both are, or both aren't, to the right of the point doesn't span it, so it isn't above it
beside : (p : Point) (e : Edge) → reaches e.start p ≡ reaches e.end p → strictly_above e p ≡ false
beside p e f = ap (λ (t : Bool). t && int_lt (side_rightward e p) (pos 0)) (ap (λ (t : Bool). xor t (reaches e.end p)) f ∙ xor_self (reaches e.end p))

-- both ends are right of the point
beside_right : (p : Point) (e : Edge) → RightOf p e.start → RightOf p e.end → strictly_above e p ≡ false
beside_right p e s t = beside p e (at_most_no (e.start.x *ℤ p.W) p.X s ∙ sym (at_most_no (e.end.x *ℤ p.W) p.X t))

-- both ends are left of the point
beside_left : (p : Point) (e : Edge) → LeftOf p e.start → LeftOf p e.end → strictly_above e p ≡ false
beside_left p e s t = beside p e (at_most_yes (e.start.x *ℤ p.W) p.X (less_weak (e.start.x *ℤ p.W) p.X s) ∙ sym (at_most_yes (e.end.x *ℤ p.W) p.X (less_weak (e.end.x *ℤ p.W) p.X t)))

-- the side of a point as a sum over both ends: its height over the end, times the other end's distance in x
pub by_heights : (a b : Position) (p : Point) → p.W *ℤ side a b p ≡ (p.Y -ℤ a.y *ℤ p.W) *ℤ (b.x *ℤ p.W -ℤ p.X) +ℤ (p.Y -ℤ b.y *ℤ p.W) *ℤ (p.X -ℤ a.x *ℤ p.W)
by_heights a b p = solve (a.x ∷ a.y ∷ b.x ∷ b.y ∷ p.X ∷ p.Y ∷ p.W ∷ []) (var 6 ⊗ side') ((var 5 ⊖ var 1 ⊗ var 6) ⊗ (var 2 ⊗ var 6 ⊖ var 4) ⊕ (var 5 ⊖ var 3 ⊗ var 6) ⊗ (var 4 ⊖ var 0 ⊗ var 6)) tt

-- with both ends lower than the point both parts of that sum are at least 0: the point isn't under the edge
under_side : (a b : Position) (p : Point) → IsPoint p → Under p a → Under p b → reaches a p ≡ true → reaches b p ≡ false → int_lt (side a b p) (pos 0) ≡ false
under_side a b p hp s t e f = less_no (side a b p) (pos 0) (weak_positive (side a b p) (cancel_positive p.W (side a b p) (weak_positive p.W hp) (sum _ _ _ (by_heights a b p)
    (strict_plus_plus (p.Y -ℤ a.y *ℤ p.W) (b.x *ℤ p.W -ℤ p.X) (gap_positive (a.y *ℤ p.W) p.Y s) (gap_positive p.X (b.x *ℤ p.W) (not_at_most_from (b.x *ℤ p.W) p.X f)))
    (plus_plus (p.Y -ℤ b.y *ℤ p.W) (p.X -ℤ a.x *ℤ p.W) (weak_positive _ (gap_positive (b.y *ℤ p.W) p.Y t)) (gap_weak (a.x *ℤ p.W) p.X (at_most_from (a.x *ℤ p.W) p.X e))))))
  where
    sum : (x y z : ℤ) → x ≡ y +ℤ z → pos 0 <ℤ y → pos 0 ≤ℤ z → pos 0 <ℤ x
    sum x y z e h k = omega (arith, ints)

-- with both ends higher both parts are at most 0, and one is less: the point is under the edge
over_side : (a b : Position) (p : Point) → IsPoint p → Over p a → Over p b → reaches a p ≡ true → reaches b p ≡ false → int_lt (side a b p) (pos 0) ≡ true
over_side a b p hp s t e f = less_yes (side a b p) (pos 0) (cancel_negative p.W (side a b p) (weak_positive p.W hp) (sum _ _ _ (by_heights a b p)
    (strict_minus_plus (p.Y -ℤ a.y *ℤ p.W) (b.x *ℤ p.W -ℤ p.X) (lower p.Y (a.y *ℤ p.W) s) (gap_positive p.X (b.x *ℤ p.W) (not_at_most_from (b.x *ℤ p.W) p.X f)))
    (minus_plus (p.Y -ℤ b.y *ℤ p.W) (p.X -ℤ a.x *ℤ p.W) (weak_negative _ (lower p.Y (b.y *ℤ p.W) t)) (gap_weak (a.x *ℤ p.W) p.X (at_most_from (a.x *ℤ p.W) p.X e)))))
  where
    sum : (x y z : ℤ) → x ≡ y +ℤ z → y <ℤ pos 0 → z ≤ℤ pos 0 → x <ℤ pos 0
    sum x y z e h k = omega (arith, ints)

-- an edge with both ends under the point isn't above it
above_under : (p : Point) (e : Edge) → IsPoint p → Under p e.start → Under p e.end → strictly_above e p ≡ false
above_under p e hp s t = go (reaches e.start p) refl (reaches e.end p) refl
  where
    go : (u : Bool) → reaches e.start p ≡ u → (v : Bool) → reaches e.end p ≡ v → strictly_above e p ≡ false
    go true f true g = beside p e (f ∙ sym g)
    go false f false g = beside p e (f ∙ sym g)
    go true f false g = ap₂ (λ (x y : Bool). x && y) (ap₂ xor f g) (ap (λ (z : ℤ). int_lt z (pos 0)) (rightward_left e p hp f g) ∙ under_side e.start e.end p hp s t f g)
    go false f true g = ap₂ (λ (x y : Bool). x && y) (ap₂ xor f g) (ap (λ (z : ℤ). int_lt z (pos 0)) (rightward_right e p hp f g) ∙ under_side e.end e.start p hp t s g f)

-- an edge with both ends over the point is above it exactly where it spans it
above_over : (p : Point) (e : Edge) → IsPoint p → Over p e.start → Over p e.end → strictly_above e p ≡ spans e p
above_over p e hp s t = go (reaches e.start p) refl (reaches e.end p) refl
  where
    none : reaches e.start p ≡ reaches e.end p → spans e p ≡ false
    none f = ap (λ (u : Bool). xor u (reaches e.end p)) f ∙ xor_self (reaches e.end p)

    go : (u : Bool) → reaches e.start p ≡ u → (v : Bool) → reaches e.end p ≡ v → strictly_above e p ≡ spans e p
    go true f true g = beside p e (f ∙ sym g) ∙ sym (none (f ∙ sym g))
    go false f false g = beside p e (f ∙ sym g) ∙ sym (none (f ∙ sym g))
    go true f false g = ap₂ (λ (x y : Bool). x && y) (ap₂ xor f g) (ap (λ (z : ℤ). int_lt z (pos 0)) (rightward_left e p hp f g) ∙ over_side e.start e.end p hp s t f g) ∙ sym (ap₂ xor f g)
    go false f true g = ap₂ (λ (x y : Bool). x && y) (ap₂ xor f g) (ap (λ (z : ℤ). int_lt z (pos 0)) (rightward_right e p hp f g) ∙ over_side e.end e.start p hp t s g f) ∙ sym (ap₂ xor f g)

-- ---- the parity of the rings
-- with no edge above the point the parity is even
nothing_above : (rs : List (List Position)) (p : Point) → Each (λ e. strictly_above e p ≡ false) (edges_of_lines rs) → above (Geometry.Polygon rs) p ≡ Exterior
nothing_above rs p h = ap (λ (t : Bool). if t then Interior else Exterior) (parity_of_rings rs p ∙ parity_none (λ e. strictly_above e p) (edges_of_lines rs) h)

-- where the edges above are just those that span the point it is even too: of a closed ring an even number of edges spans it
all_above : (rs : List (List Position)) (p : Point) → Each IsClosed rs → Each (λ e. strictly_above e p ≡ spans e p) (edges_of_lines rs) → above (Geometry.Polygon rs) p ≡ Exterior
all_above rs p c h = ap (λ (t : Bool). if t then Interior else Exterior) (parity_of_rings rs p ∙ same_parity (λ e. strictly_above e p) (λ e. spans e p) (edges_of_lines rs) h ∙ rings_cancel (λ a. reaches a p) rs c)

-- so with all positions on one side of the point, whichever it is, the rings above it count even
rings_aside : (rs : List (List Position)) (p : Point) → IsPoint p → Each IsClosed rs → OneSide p (flat_map (λ line. line) rs) → above (Geometry.Polygon rs) p ≡ Exterior
rings_aside rs p hp c (inl h) = nothing_above rs p (each_map (λ e. RightOf p e.start × RightOf p e.end) (λ e. strictly_above e p ≡ false) (edges_of_lines rs) (λ e k. beside_right p e k.0 k.1) (ends_of_lines (RightOf p) rs h))
rings_aside rs p hp c (inr (inl h)) = nothing_above rs p (each_map (λ e. LeftOf p e.start × LeftOf p e.end) (λ e. strictly_above e p ≡ false) (edges_of_lines rs) (λ e k. beside_left p e k.0 k.1) (ends_of_lines (LeftOf p) rs h))
rings_aside rs p hp c (inr (inr (inl h))) = all_above rs p c (each_map (λ e. Over p e.start × Over p e.end) (λ e. strictly_above e p ≡ spans e p) (edges_of_lines rs) (λ e k. above_over p e hp k.0 k.1) (ends_of_lines (Over p) rs h))
rings_aside rs p hp c (inr (inr (inr h))) = nothing_above rs p (each_map (λ e. Under p e.start × Under p e.end) (λ e. strictly_above e p ≡ false) (edges_of_lines rs) (λ e k. above_under p e hp k.0 k.1) (ends_of_lines (Under p) rs h))

-- ---- off all edges and listed positions
-- the point is at no listed position, since it isn't on the edge from that position to itself
listed_off : (P : Position → Type 0) (p : Point) → IsPoint p → ((e : Edge) → P e.start → P e.end → on e p ≡ false) → (qs : List Position) → Each P qs → Each (λ a. is_at p a ≡ false) qs
listed_off P p hp f qs h = each_map P (λ a. is_at p a ≡ false) qs (λ a k. by_contraries (is_at p a) (on (dot a) p) (start_is_on (dot a) p hp) (f (dot a) k k)) h

-- a side that keeps edges off the point keeps all edges and listed positions of a geometry off it
off_by : (P : Position → Type 0) (g : Geometry) (p : Point) → IsPoint p → ((e : Edge) → P e.start → P e.end → on e p ≡ false) → Each P (positions g) → Off g p
off_by P g p hp f h = record {
  edges_off = each_map (λ e. P e.start × P e.end) (λ e. on e p ≡ false) (edges g) (λ e k. f e k.0 k.1) (ends_of_lines P (lines g) (each_right P (listed g) (flat_map (λ line. line) (lines g)) h));
  listed_off = listed_off P p hp f (listed g) (each_left P (listed g) (flat_map (λ line. line) (lines g)) h);
}

-- so with all positions on one side the point is off the geometry
off_aside : (g : Geometry) (p : Point) → IsPoint p → OneSide p (positions g) → Off g p
off_aside g p hp (inl h) = off_by (RightOf p) g p hp (λ e s t. off_right p e hp s t) h
off_aside g p hp (inr (inl h)) = off_by (LeftOf p) g p hp (λ e s t. off_left p e hp s t) h
off_aside g p hp (inr (inr (inl h))) = off_by (Over p) g p hp (λ e s t. off_over p e hp s t) h
off_aside g p hp (inr (inr (inr h))) = off_by (Under p) g p hp (λ e s t. off_under p e hp s t) h

-- and nothing but an area has rings to count above it
above_aside : (g : Geometry) (p : Point) → IsPoint p → Each IsClosed (rings g) → OneSide p (positions g) → above g p ≡ Exterior
above_aside (Geometry.Point o) p hp c h = refl
above_aside (Geometry.MultiPoint qs) p hp c h = refl
above_aside (Geometry.LineString l) p hp c h = refl
above_aside (Geometry.MultiLineString ls) p hp c h = refl
above_aside (Geometry.Polygon rs) p hp c h = rings_aside rs p hp c h
above_aside (Geometry.MultiPolygon es) p hp c h = rings_aside (joined_rings es) p hp c h

-- off a geometry the parity of the rings above decides the location, and outside the envelope it is even
pub outside_is_exterior : (g : Geometry) → HasClosedRings g → (p : Point) → IsPoint p → IsOutside (envelope g) p → locate g p ≡ Exterior
outside_is_exterior g c p hp h = locate_off g p hp (off_aside g p hp (one_side (positions g) p hp h)) ∙ above_aside g p hp (each_from_all IsClosed (rings g) c) (one_side (positions g) p hp h)

-- ---- two geometries with a common point
-- a number that is neither left of one interval nor right of another shows that the one begins no later than the other ends
within_x : (s t x w : ℤ) → pos 0 <ℤ w → (x <ℤ (s *ℤ w) → ⊥) → ((t *ℤ w) <ℤ x → ⊥) → int_le s t ≡ true
within_x s t x w hw f g = at_most_yes s t (at_most_from_gap s t (ordered s t w hw (through (s *ℤ w) x (t *ℤ w) f g)))
  where
    through : (u x v : ℤ) → (x <ℤ u → ⊥) → (v <ℤ x → ⊥) → u ≤ℤ v
    through u x v f g = grind (arith, ints)

-- envelopes that a point is outside neither of overlap, by four such comparisons
overlaps : (e f : Envelope) (p : Point) → IsPoint p → (IsOutside (Some e) p → ⊥) → (IsOutside (Some f) p → ⊥) → overlap e f ≡ true
overlaps e f p hp h k = and_from (int_le e.least_x f.greatest_x && int_le f.least_x e.greatest_x && int_le e.least_y f.greatest_y) (int_le f.least_y e.greatest_y)
    (and_from (int_le e.least_x f.greatest_x && int_le f.least_x e.greatest_x) (int_le e.least_y f.greatest_y)
    (and_from (int_le e.least_x f.greatest_x) (int_le f.least_x e.greatest_x)
    (within_x e.least_x f.greatest_x p.X p.W hp (λ s. h (inl s)) (λ s. k (inr (inl s))))
    (within_x f.least_x e.greatest_x p.X p.W hp (λ s. k (inl s)) (λ s. h (inr (inl s)))))
    (within_x e.least_y f.greatest_y p.Y p.W hp (λ s. h (inr (inr (inl s)))) (λ s. k (inr (inr (inr s))))))
    (within_x f.least_y e.greatest_y p.Y p.W hp (λ s. k (inr (inr (inl s)))) (λ s. h (inr (inr (inr s)))))

-- every point is outside an absent envelope, so both are there
meet_by_point : (o u : Option Envelope) (p : Point) → IsPoint p → (IsOutside o p → ⊥) → (IsOutside u p → ⊥) → meets o u ≡ true
meet_by_point None u p hp h k = absurd (h tt)
meet_by_point (Some e) None p hp h k = absurd (k tt)
meet_by_point (Some e) (Some f) p hp h k = overlaps e f p hp h k

-- outside its envelope a point is exterior to a geometry, so a point of both lies in both envelopes
pub common_point_meets : (a b : Geometry) → HasClosedRings a → HasClosedRings b → (p : Point) → IsPoint p → locate a p ≢ Exterior → locate b p ≢ Exterior → meets (envelope a) (envelope b) ≡ true
common_point_meets a b ca cb p hp f g = meet_by_point (envelope a) (envelope b) p hp (λ h. f (outside_is_exterior a ca p hp h)) (λ h. g (outside_is_exterior b cb p hp h))
