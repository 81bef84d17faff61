-- In a valid polygon the holes lie inside the outer ring and apart from one another, so the interior is what is inside the outer ring and in no hole.
use Rattle.std.proofs.Common.{ℕ, suc, ◌+◌, ◌≡◌, ◌⊎◌, inl, inr, ◌↔◌, Bool, true, false, if◌then◌else◌, refl, sym, ap, ap₂, ◌∙◌, List, [], ◌∷◌, All, Contains, arith}
use Rattle.std.proofs.lemmas.Bool.{false_from_ne_true, true_from_ne_false}
use Rattle.basics.proofs.Bools.{not_both}
use Rattle.geometry_model.specs.Points.{Position, Point, IsPoint}
use Rattle.geometry_model.specs.Geometries.{Edge, Polygon, edges_of_line, edges_of_lines}
use Rattle.geometry_model.specs.Sides.{on}
use Rattle.geometry_model.specs.Crossings.{exactly_one as xor, strictly_above, odd_above}
use Rattle.geometry_model.specs.Locations.{locate}
use Rattle.geometry_model.specs.Labels.{above}
use Rattle.geometry_model.specs.Validity.{Element, IsValid, RingsShare, inside}
use Rattle.geometry_model.specs.declared.point_sets.Location.TheVariants.{Interior, Exterior}
use Rattle.geometry_model.specs.declared.validity_faults.ValidityFault.TheVariants.{RingNotClosed, RingsMeet, HoleOutside, HolesNested}
use Rattle.geometry_laws.specs.RingLaws.{IsClosed}
use Rattle.geometry_laws.proofs.Each.{Each, Among, each_at, each_of, parity_append}
use Rattle.geometry_laws.proofs.RingParity.{each_from_all, parity_of_rings}
use Rattle.geometry_laws.proofs.Locating.{Off, locate_off}
use Rattle.geometry_laws.proofs.CoverTheorems.{all_from_each}
use Rattle.geometry_laws.proofs.Xor.{xor_false}
use Rattle.matrix_laws.proofs.Places.{Pairs, place_of, each_by, pairs_by, next_less, some_next}
use Rattle.matrix_laws.proofs.Nested.{odd_in, Disjoint, on_ring, parity_in, carried_in, over_neither}
use Rattle.matrix_laws.proofs.Closing.{closed}

-- ---- what validity says
-- rings for which validity finds no shared point have no point on edges of both: it would be found at the edges' places
pub disjoint_from : (r s : List Position) → (RingsShare r s → ⊥) → Disjoint r s
disjoint_from r s f z hz e g a b h k = f (record {
  i = (place_of e (edges_of_line r) a).index;
  j = (place_of g (edges_of_line s) b).index;
  e = e;
  f = g;
  first = (place_of e (edges_of_line r) a).there;
  second = (place_of g (edges_of_line s) b).there;
  share = record { at = z; is_point = hz; on_first = h; on_second = k };
})

-- two holes share no point, and neither is inside the other
pub record Apart (h k : List Position) : Type 0 where
  pub disjoint : Disjoint h k
  pub not_over : inside h k ≡ false
  pub not_in : inside k h ≡ false

pub record Lawful (outer : List Position) (holes : List (List Position)) : Type 0 where
  pub outer_closed : IsClosed outer
  pub holes_closed : Each IsClosed holes
  pub outer_apart : Each (Disjoint outer) holes
  pub holes_inside : Each (λ h. inside outer h ≡ true) holes
  pub holes_apart : Pairs Apart holes

abbrev whole : List (List Position) → Element
whole rs = record { first = 0; rings = rs }

applies : (rs : List (List Position)) → Contains (whole rs ∷ []) (whole rs)
applies rs = (0, omega arith, refl)

numbered_as : (k : ℕ) → k ≡ 0 + k
numbered_as k = omega arith

-- each of these facts is the absence of a fault: an open ring, two rings that meet, a hole outside, a hole in a hole
pub lawful : (outer : List Position) (holes : List (List Position)) → IsValid (Polygon (outer ∷ holes)) → Lawful outer holes
lawful outer holes v = record {
  outer_closed = closed outer (λ n. v (RingNotClosed 0) (outer, refl, n));
  holes_closed = each_by IsClosed holes (λ i h e. closed h (λ n. v (RingNotClosed (suc i)) (h, e, n)));
  outer_apart = each_by (Disjoint outer) holes (λ i h e. disjoint_from outer h (λ s. v (RingsMeet 0 (suc i)) (whole (outer ∷ holes), 0, suc i, outer, h, applies (outer ∷ holes), some_next i, (numbered_as 0, refl), (numbered_as (suc i), e), s)));
  holes_inside = each_by (λ h. inside outer h ≡ true) holes (λ i h e. true_from_ne_false (inside outer h) (λ f. v (HoleOutside (suc i)) (whole (outer ∷ holes), suc i, outer, h, applies (outer ∷ holes), some_next i, refl, (numbered_as (suc i), e), f)));
  holes_apart = pairs_by Apart holes (λ i j h k l e g. record {
    disjoint = disjoint_from h k (λ s. v (RingsMeet (suc i) (suc j)) (whole (outer ∷ holes), suc i, suc j, h, k, applies (outer ∷ holes), next_less i j l, (numbered_as (suc i), e), (numbered_as (suc j), g), s));
    not_over = false_from_ne_true (inside h k) (λ f. v (HolesNested (suc i) (suc j)) (whole (outer ∷ holes), suc i, suc j, h, k, applies (outer ∷ holes), some_next i, next_less i j l, (numbered_as (suc i), e), (numbered_as (suc j), g), inl f));
    not_in = false_from_ne_true (inside k h) (λ f. v (HolesNested (suc i) (suc j)) (whole (outer ∷ holes), suc i, suc j, h, k, applies (outer ∷ holes), some_next i, next_less i j l, (numbered_as (suc i), e), (numbered_as (suc j), g), inr f));
  });
}

-- ---- a hole's ring is inside the outer ring
-- the points of a ring have, over a closed ring that shares none with it, the parity of its first position, which is inside
ring_inside : (outer h : List Position) → IsClosed outer → Disjoint outer h → inside outer h ≡ true → (p : Point) → IsPoint p → (e : Edge) → Among e (edges_of_line h) → on e p ≡ true → odd_in outer p ≡ true
ring_inside outer [] c d f p hp e m k = absurd m
ring_inside outer (a ∷ rest) c d f p hp e m k = on_ring outer a rest c d e m p hp k ∙ f

-- so every point of a hole's ring is odd over the outer ring
pub hole_ring_is_inside : (outer : List Position) (holes : List (List Position)) → IsValid (Polygon (outer ∷ holes)) → (h : List Position) → Among h holes → (p : Point) → IsPoint p → (e : Edge) → Among e (edges_of_line h) → on e p ≡ true → odd_in outer p ≡ true
hole_ring_is_inside outer holes v h a p hp e m k = go (lawful outer holes v)
  where
    go : Lawful outer holes → odd_in outer p ≡ true
    go l = ring_inside outer h l.outer_closed (each_at (Disjoint outer) holes h l.outer_apart a) (each_at (λ q. inside outer q ≡ true) holes h l.holes_inside a) p hp e m k

-- ---- no point is odd over two holes
abbrev NotBoth : Point → List Position → List Position → Type 0
NotBoth p h k = odd_in h p ≡ true → odd_in k p ≡ true → ⊥

-- holes that share no point and don't lie in one another have no point inside both
pairs_apart : (p : Point) → IsPoint p → (holes : List (List Position)) → Each IsClosed holes → Pairs Apart holes → Pairs (NotBoth p) holes
pairs_apart p hp [] c d = tt
pairs_apart p hp (h ∷ hs) c d = (each_of (NotBoth p h) hs (λ k m. apart_by (each_at (Apart h) hs k d.0 m) (each_at IsClosed hs k c.1 m)), pairs_apart p hp hs c.1 d.1)
  where
    apart_by : {k : List Position} → Apart h k → IsClosed k → NotBoth p h k
    apart_by {k} a ck = over_neither h k c.0 ck a.disjoint a.not_over a.not_in p hp

-- ---- the parity over all holes
pub record OddHole (p : Point) (holes : List (List Position)) : Type 0 where
  pub hole : List Position
  pub among : Among hole holes
  pub odd : odd_in hole p ≡ true

-- a ring in front changes the parity over the others exactly where the point is odd over it
pub one_more : (r : List Position) (rs : List (List Position)) (p : Point) → odd_above (r ∷ rs) p ≡ xor (odd_in r p) (odd_above rs p)
one_more r rs p = parity_of_rings (r ∷ rs) p ∙ parity_append (λ e. strictly_above e p) (edges_of_line r) (edges_of_lines rs) ∙ ap₂ xor (sym (parity_in r p)) (sym (parity_of_rings rs p))

abbrev Counted : Point → List (List Position) → Type 0
Counted p holes = (Each (λ h. odd_in h p ≡ false) holes × (odd_above holes p ≡ false)) ⊎ (OddHole p holes × (odd_above holes p ≡ true))

-- a point is odd over one hole at most, so over all holes it is odd exactly where it is odd over one
counted : (p : Point) (holes : List (List Position)) → Pairs (NotBoth p) holes → Counted p holes
counted p [] n = inl (tt, refl)
counted p (h ∷ hs) n = go (odd_in h p) refl (counted p hs n.1)
  where
    go : (t : Bool) → odd_in h p ≡ t → Counted p hs → Counted p (h ∷ hs)
    go true e (inl r) = inr (record { hole = h; among = inl refl; odd = e }, one_more h hs p ∙ ap₂ xor e r.1)
    go false e (inl r) = inl ((e, r.0), one_more h hs p ∙ ap₂ xor e r.1)
    go true e (inr r) = absurd (each_at (NotBoth p h) hs r.0.hole n.0 r.0.among e r.0.odd)
    go false e (inr r) = inr (record { hole = r.0.hole; among = inr r.0.among; odd = r.0.odd }, one_more h hs p ∙ ap₂ xor e r.1)

-- ---- odd over a polygon: odd over its outer ring, and over no hole
-- a point that is odd over a hole is odd over the outer ring too, and the two parities cancel; so an odd point is over no hole
pub cut : (outer : List Position) (holes : List (List Position)) → Lawful outer holes → (p : Point) → IsPoint p → odd_above (outer ∷ holes) p ≡ true → (odd_in outer p ≡ true) × Each (λ h. odd_in h p ≡ false) holes
cut outer holes l p hp e = go (counted p holes (pairs_apart p hp holes l.holes_closed l.holes_apart))
  where
    go : Counted p holes → (odd_in outer p ≡ true) × Each (λ h. odd_in h p ≡ false) holes
    go (inl r) = (sym (xor_false (odd_in outer p)) ∙ ap (xor (odd_in outer p)) (sym r.1) ∙ sym (one_more outer holes p) ∙ e, r.0)
    go (inr r) = absurd (not_both (odd_above (outer ∷ holes) p) e (one_more outer holes p ∙ ap₂ xor (carried_in outer r.0.hole l.outer_closed (each_at IsClosed holes r.0.hole l.holes_closed r.0.among) (each_at (Disjoint outer) holes r.0.hole l.outer_apart r.0.among) (each_at (λ q. inside outer q ≡ true) holes r.0.hole l.holes_inside r.0.among) p hp r.0.odd) r.1))

-- over no hole the parity is that of the outer ring
pub uncut : (outer : List Position) (holes : List (List Position)) → Lawful outer holes → (p : Point) → IsPoint p → odd_in outer p ≡ true → Each (λ h. odd_in h p ≡ false) holes → odd_above (outer ∷ holes) p ≡ true
uncut outer holes l p hp e h = go (counted p holes (pairs_apart p hp holes l.holes_closed l.holes_apart))
  where
    go : Counted p holes → odd_above (outer ∷ holes) p ≡ true
    go (inl r) = one_more outer holes p ∙ ap₂ xor e r.1
    go (inr r) = absurd (not_both (odd_in r.0.hole p) r.0.odd (each_at (λ q. odd_in q p ≡ false) holes r.0.hole h r.0.among))

-- what is odd over the outer ring and even over the polygon is odd over a hole
pub in_some_hole : (outer : List Position) (holes : List (List Position)) → Lawful outer holes → (p : Point) → IsPoint p → odd_in outer p ≡ true → odd_above (outer ∷ holes) p ≡ false → OddHole p holes
in_some_hole outer holes l p hp e f = go (counted p holes (pairs_apart p hp holes l.holes_closed l.holes_apart))
  where
    go : Counted p holes → OddHole p holes
    go (inl r) = absurd (not_both (odd_above (outer ∷ holes) p) (one_more outer holes p ∙ ap₂ xor e r.1) f)
    go (inr r) = r.0

-- ---- the interior
-- an area has no listed positions, so a point off its edges is off the area
off_rings : (rs : List (List Position)) (p : Point) → Each (λ e. on e p ≡ false) (edges_of_lines rs) → Off (Polygon rs) p
off_rings rs p h = record { edges_off = h; listed_off = tt }

interior_odd : (t : Bool) → (if t then Interior else Exterior) ≡ Interior → t ≡ true
interior_odd true e = refl
interior_odd false e = absurd (cc)

-- off the rings the location is the parity over all rings, which is odd just over the outer ring and no hole
pub holes_are_cut : (outer : List Position) (holes : List (List Position)) → IsValid (Polygon (outer ∷ holes)) → (p : Point) → IsPoint p → All (λ e. on e p ≡ false) (edges_of_lines (outer ∷ holes))
    → (locate (Polygon (outer ∷ holes)) p ≡ Interior) ↔ ((odd_above (outer ∷ []) p ≡ true) × All (λ h. odd_above (h ∷ []) p ≡ false) holes)
holes_are_cut outer holes v p hp off = (λ e. forth (lawful outer holes v) e, λ k. back (lawful outer holes v) k.0 (each_from_all (λ h. odd_in h p ≡ false) holes k.1))
  where
    here : locate (Polygon (outer ∷ holes)) p ≡ above (Polygon (outer ∷ holes)) p
    here = locate_off (Polygon (outer ∷ holes)) p hp (off_rings (outer ∷ holes) p (each_from_all (λ e. on e p ≡ false) (edges_of_lines (outer ∷ holes)) off))

    listed : (odd_in outer p ≡ true) × Each (λ h. odd_in h p ≡ false) holes → (odd_above (outer ∷ []) p ≡ true) × All (λ h. odd_above (h ∷ []) p ≡ false) holes
    listed k = (k.0, all_from_each (λ h. odd_in h p ≡ false) holes k.1)

    forth : Lawful outer holes → locate (Polygon (outer ∷ holes)) p ≡ Interior → (odd_above (outer ∷ []) p ≡ true) × All (λ h. odd_above (h ∷ []) p ≡ false) holes
    forth l e = listed (cut outer holes l p hp (interior_odd (odd_above (outer ∷ holes) p) (sym here ∙ e)))

    back : Lawful outer holes → odd_above (outer ∷ []) p ≡ true → Each (λ h. odd_in h p ≡ false) holes → locate (Polygon (outer ∷ holes)) p ≡ Interior
    back l e h = here ∙ ap (λ (t : Bool). if t then Interior else Exterior) (uncut outer holes l p hp e h)
