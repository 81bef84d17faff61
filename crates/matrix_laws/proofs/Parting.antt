-- At a point strictly within a ring edge of a valid polygon that isn't vertical, just that edge goes through the point: so the rings part the interior from the exterior there.
use Rattle.std.proofs.Common.{ℕ, zero, suc, ◌+◌, ◌<◌, ◌≡◌, ◌⊎◌, inl, inr, Bool, true, false, if◌then◌else◌, ℤ, pos, ◌-ℤ◌, ◌<ℤ◌, int_le, refl, sym, ap, ap₂, subst, ◌∙◌, List, [], ◌∷◌, length, Some, None, slice_get, arith}
use borrow.Author.Differences.{ints}
use Rattle.std.specs.Ordering.{int_eq}
use Rattle.std.specs.declared.cmp.Ordering.{Ordering}
use Rattle.std.specs.declared.cmp.Ordering.TheVariants.{Less, Equal, Greater}
use Rattle.std.proofs.lemmas.Bool.{cases_eq, and_from}
use Rattle.std.proofs.lemmas.Option.{same_Some}
use Rattle.geometry_model.specs.Points.{Position, Point, IsPoint, point_at, same_point, compare}
use Rattle.geometry_model.specs.Geometries.{Edge, Geometry, edges_of_line, edges_of_lines, rings, joined_rings}
use Rattle.geometry_model.specs.Sides.{side, on}
use Rattle.geometry_model.specs.Crossings.{exactly_one as xor, reaches, spans, side_rightward, odd_above, odd_at_or_above}
use Rattle.geometry_model.specs.Locations.{is_at, last_after}
use Rattle.geometry_model.specs.Validity.{IsValid, Clash, ShareOther}
use Rattle.geometry_model.specs.declared.validity_faults.ValidityFault.TheVariants.{RingNotClosed, RingNotSimple}
use Rattle.basics.proofs.Signs.{at_most_yes, at_most_no}
use Rattle.basics.proofs.Tests.{equal_yes}
use Rattle.basics.proofs.Numbers.{less_or_more}
use Rattle.basics.proofs.Bools.{by_contraries, not_both}
use Rattle.basics.proofs.Orders.{weak_positive}
use Rattle.geometry_laws.specs.RingLaws.{IsClosed}
use Rattle.geometry_laws.proofs.Plane.{right}
use Rattle.geometry_laws.proofs.Each.{Each, each_append, parity, parity_append}
use Rattle.geometry_laws.proofs.Xor.{xor_self, xor_assoc}
use Rattle.geometry_laws.proofs.Identities.{right_turned}
use Rattle.geometry_laws.proofs.LineSides.{side_turned}
use Rattle.geometry_laws.proofs.PointOrder.{same_symmetric, equal_is_same}
use Rattle.geometry_laws.proofs.Hulls.{on_parts}
use Rattle.geometry_laws.proofs.RingParity.{reaches_is, position_is_point}
use Rattle.geometry_laws.proofs.Locating.{start_is_on, end_is_on}
use Rattle.geometry_laws.proofs.Cuts.{turn_less, not_after_both, not_before_both, same_end}
use Rattle.geometry_laws.proofs.WithinPiece.{touches, on_from_touch, strictly_right, parity_at_or_above}
use Rattle.geometry_laws.proofs.CoverTheorems.{all_from_each, sides_are_near, near_points_are_so}
use Rattle.geometry_laws.specs.CoverLaws.{MissesUprights, NearSides, AreAllNear, IsNotUprightAt}
use Rattle.geometry_model.specs.Labels.{below, above}
use Rattle.geometry_model.specs.declared.point_sets.Location.TheVariants.{Interior, Exterior}
use Rattle.matrix_laws.specs.PolygonLaws.{ArePartedAs}
use Rattle.matrix_laws.proofs.Closing.{closed}
use Rattle.matrix_laws.proofs.Places.{among_at, each_by, pairs_at}
use Rattle.matrix_laws.proofs.Through.{one_parity, none_parity}
use Rattle.matrix_laws.proofs.Nested.{Disjoint}
use Rattle.matrix_laws.proofs.AreaFacts.{rings_apart}

-- ---- the edge goes through the point
-- an end to the left of the point reaches it
reaches_yes : (a : Position) (x : Point) → pos 0 <ℤ right (point_at a) x → reaches a x ≡ true
reaches_yes a x h = reaches_is a x ∙ at_most_yes (pos 0) (right (point_at a) x) (weak_positive (right (point_at a) x) h)

-- and one to its right doesn't
reaches_no : (a : Position) (x : Point) → pos 0 <ℤ right x (point_at a) → reaches a x ≡ false
reaches_no a x h = reaches_is a x ∙ at_most_no (pos 0) (right (point_at a) x) (turned (right x (point_at a)) (right (point_at a) x) (right_turned x (point_at a)) h)
  where
    turned : (s t : ℤ) → t ≡ pos 0 -ℤ s → pos 0 <ℤ s → t <ℤ pos 0
    turned s t e h = omega (arith, ints)

-- a point on the line of an edge is on neither side of it, whichever way the edge is taken
pub flat : (e : Edge) (p : Point) → side e.start e.end p ≡ pos 0 → side_rightward e p ≡ pos 0
flat e p h = go (int_le e.start.x e.end.x)
  where
    turned : (s t : ℤ) → t ≡ pos 0 -ℤ s → s ≡ pos 0 → t ≡ pos 0
    turned s t e h = omega (arith, ints)

    go : (t : Bool) → (if t then side e.start e.end p else side e.end e.start p) ≡ pos 0
    go true = h
    go false = turned (side e.start e.end p) (side e.end e.start p) (side_turned e.start e.end p) h

-- strictly within an edge that isn't vertical, one end is to the left of the point and one to the right: the edge spans it
pub goes_through : (e : Edge) (p : Point) → IsPoint p → on e p ≡ true → is_at p e.start ≡ false → is_at p e.end ≡ false → (e.start.x ≡ e.end.x → ⊥) → touches e p ≡ true
goes_through e p hp h s t f = and_from (spans e p) (int_eq (side_rightward e p) (pos 0)) (go (compare (point_at e.start) p) refl (compare (point_at e.end) p) refl) (equal_yes (side_rightward e p) (pos 0) (flat e p ((on_parts e p h).on_line)))
  where
    start_line : side e.start e.end (point_at e.start) ≡ pos 0
    start_line = (on_parts e (point_at e.start) (start_is_on e (point_at e.start) (position_is_point e.start) (same_end e.start))).on_line

    end_line : side e.start e.end (point_at e.end) ≡ pos 0
    end_line = (on_parts e (point_at e.end) (end_is_on e (point_at e.end) (position_is_point e.end) (same_end e.end))).on_line

    go : (o : Ordering) → compare (point_at e.start) p ≡ o → (u : Ordering) → compare (point_at e.end) p ≡ u → spans e p ≡ true
    go Less k Less l = absurd (not_both (on e p) h (not_after_both e p hp k l))
    go Less k Equal l = absurd (not_both (is_at p e.end) ((equal_is_same (point_at e.end) p).0 l) t)
    go Less k Greater l = ap₂ xor
        (reaches_yes e.start p (strictly_right e.start e.end (point_at e.start) p f start_line ((on_parts e p h).on_line) k))
        (reaches_no e.end p (strictly_right e.start e.end p (point_at e.end) f ((on_parts e p h).on_line) end_line (turn_less (point_at e.end) p l)))
    go Equal k u l = absurd (not_both (is_at p e.start) ((equal_is_same (point_at e.start) p).0 k) s)
    go Greater k Less l = ap₂ xor
        (reaches_no e.start p (strictly_right e.start e.end p (point_at e.start) f ((on_parts e p h).on_line) start_line (turn_less (point_at e.start) p k)))
        (reaches_yes e.end p (strictly_right e.start e.end (point_at e.end) p f end_line ((on_parts e p h).on_line) l))
    go Greater k Equal l = absurd (not_both (is_at p e.end) ((equal_is_same (point_at e.end) p).0 l) t)
    go Greater k Greater l = absurd (not_both (on e p) h (not_before_both e p hp (turn_less (point_at e.start) p k) (turn_less (point_at e.end) p l)))

-- ---- over all rings
-- the parity over the edges of all rings is the parity of the rings that have an odd number of them
over_rings : (f : Edge → Bool) (rs : List (List Position)) → parity f (edges_of_lines rs) ≡ parity (λ r. parity f (edges_of_line r)) rs
over_rings f [] = refl
over_rings f (r ∷ rs) = parity_append f (edges_of_line r) (edges_of_lines rs) ∙ ap (xor (parity f (edges_of_line r))) (over_rings f rs)

-- ---- neighbours of a ring
abbrev record_of : Position → Position → Edge
record_of a b = record { start = a; end = b }

-- an edge ends where the next one begins
chain : (l : List Position) (k : ℕ) (g h : Edge) → slice_get (edges_of_line l) k ≡ Some g → slice_get (edges_of_line l) (suc k) ≡ Some h → g.end ≡ h.start
chain [] k g h e f = absurd (let z : None ≡ Some g = e in cc)
chain (a ∷ []) k g h e f = absurd (let z : None ≡ Some g = e in cc)
chain (a ∷ b ∷ []) k g h e f = absurd (let z : None ≡ Some h = f in cc)
chain (a ∷ b ∷ c ∷ rest) zero g h e f = sym (ap (λ (d : Edge). d.end) first_is) ∙ ap (λ (d : Edge). d.start) second_is
  where
    first_is : record_of a b ≡ g
    first_is = let z : Some (record_of a b) ≡ Some g = e in cc

    second_is : record_of b c ≡ h
    second_is = let z : Some (record_of b c) ≡ Some h = f in cc
chain (a ∷ b ∷ c ∷ rest) (suc k) g h e f = chain (b ∷ c ∷ rest) k g h e f

-- the first edge begins at the first position
first_start : (a : Position) (rest : List Position) (g : Edge) → slice_get (edges_of_line (a ∷ rest)) 0 ≡ Some g → g.start ≡ a
first_start a [] g e = absurd (let z : None ≡ Some g = e in cc)
first_start a (b ∷ rest) g e = sym (ap (λ (d : Edge). d.start) same)
  where
    same : record_of a b ≡ g
    same = let z : Some (record_of a b) ≡ Some g = e in cc

-- the last edge ends at the last position
last_end : (a : Position) (rest : List Position) (k : ℕ) (g : Edge) → slice_get (edges_of_line (a ∷ rest)) k ≡ Some g → k + 1 ≡ length (edges_of_line (a ∷ rest)) → g.end ≡ last_after a rest
last_end a [] k g e n = absurd (let z : None ≡ Some g = e in cc)
last_end a (b ∷ []) zero g e n = sym (ap (λ (d : Edge). d.end) same)
  where
    same : record_of a b ≡ g
    same = let z : Some (record_of a b) ≡ Some g = e in cc
last_end a (b ∷ []) (suc k) g e n = absurd (let z : None ≡ Some g = e in cc)
last_end a (b ∷ c ∷ rest) zero g e n = absurd (omega (arith, n))
last_end a (b ∷ c ∷ rest) (suc k) g e n = last_end b (c ∷ rest) k g e (omega (arith, n))

-- so in a closed ring the first edge begins where the last one ends
around : (ring : List Position) (j : ℕ) (e f : Edge) → IsClosed ring → slice_get (edges_of_line ring) 0 ≡ Some e → slice_get (edges_of_line ring) j ≡ Some f → j + 1 ≡ length (edges_of_line ring) → e.start ≡ f.end
around [] j e f c g h n = absurd (let z : None ≡ Some e = g in cc)
around (a ∷ rest) j e f c g h n = first_start a rest e g ∙ sym c ∙ sym (last_end a rest j f h n)

-- ---- no other edge of the ring goes through the point
-- two edges of one ring, the one before the other, through a point that is none of their common positions
clashes : (ring : List Position) → IsClosed ring → (i j : ℕ) (e f : Edge) → i < j → slice_get (edges_of_line ring) i ≡ Some e → slice_get (edges_of_line ring) j ≡ Some f → (p : Point) → IsPoint p → on e p ≡ true → on f p ≡ true
    → (same_point p (point_at e.end) ≡ false) ⊎ (same_point p (point_at f.start) ≡ false) → (same_point p (point_at e.start) ≡ false) ⊎ (same_point p (point_at f.end) ≡ false) → Clash (length (edges_of_line ring)) i j e f
clashes ring c i j e f l g h p hp k m s t = go (cases_eq j (i + 1)) (cases_eq i 0) (cases_eq (j + 1) (length (edges_of_line ring)))
  where
    other : (q : Position) → same_point p (point_at q) ≡ false → ShareOther q e f
    other q n = record { at = p; is_point = hp; on_first = k; on_second = m; other = n }

    next : j ≡ i + 1 → (same_point p (point_at e.end) ≡ false) ⊎ (same_point p (point_at f.start) ≡ false) → same_point p (point_at e.end) ≡ false
    next q (inl n) = n
    next q (inr n) = ap (λ (b : Position). same_point p (point_at b)) (chain ring i e f g (ap (slice_get (edges_of_line ring)) (successor i j q) ∙ h)) ∙ n
      where
        successor : (i j : ℕ) → j ≡ i + 1 → suc i ≡ j
        successor i j q = omega (arith, q)

    round : i ≡ 0 → j + 1 ≡ length (edges_of_line ring) → (same_point p (point_at e.start) ≡ false) ⊎ (same_point p (point_at f.end) ≡ false) → same_point p (point_at e.start) ≡ false
    round q w (inl n) = n
    round q w (inr n) = ap (λ (b : Position). same_point p (point_at b)) (around ring j e f c (ap (slice_get (edges_of_line ring)) (sym q) ∙ g) h w) ∙ n

    go : ((j ≡ i + 1) ⊎ (j ≡ i + 1 → ⊥)) → ((i ≡ 0) ⊎ (i ≡ 0 → ⊥)) → ((j + 1 ≡ length (edges_of_line ring)) ⊎ (j + 1 ≡ length (edges_of_line ring) → ⊥)) → Clash (length (edges_of_line ring)) i j e f
    go (inl q) w v = inl (q, other e.end (next q s))
    go (inr q) (inl w) (inl v) = inr (inl (w, v, other e.start (round w v t)))
    go (inr q) (inl w) (inr v) = inr (inr (q, (λ b. v b.1), record { at = p; is_point = hp; on_first = k; on_second = m }))
    go (inr q) (inr w) v = inr (inr (q, (λ b. w b.0), record { at = p; is_point = hp; on_first = k; on_second = m }))

-- ---- no other edge goes through the point
apart_from : (a : Position) (p : Point) → is_at p a ≡ false → same_point p (point_at a) ≡ false
apart_from a p h = same_symmetric p (point_at a) ∙ h

not_on : (e : Edge) (p : Point) → (on e p ≡ true → ⊥) → on e p ≡ false
not_on e p n = by_contraries (on e p) false (λ q. absurd (n q)) refl

-- none of its ring, since the ring is simple
pub no_edge_of_ring : (g : Geometry) → IsValid g → (i : ℕ) (ring : List Position) → slice_get (rings g) i ≡ Some ring → (j : ℕ) (e : Edge) → slice_get (edges_of_line ring) j ≡ Some e
    → (p : Point) → IsPoint p → on e p ≡ true → is_at p e.start ≡ false → is_at p e.end ≡ false → (k : ℕ) (d : Edge) → (k ≡ j → ⊥) → slice_get (edges_of_line ring) k ≡ Some d → on d p ≡ false
no_edge_of_ring g v i ring ri j e ej p hp h s t k d n dk = not_on d p (λ m. pick m (less_or_more k j n))
  where
    ring_closed : IsClosed ring
    ring_closed = closed ring (λ q. v (RingNotClosed i) (ring, ri, q))

    not_simple : (a b : ℕ) (c f : Edge) → a < b → slice_get (edges_of_line ring) a ≡ Some c → slice_get (edges_of_line ring) b ≡ Some f → on c p ≡ true → on f p ≡ true
        → (same_point p (point_at c.end) ≡ false) ⊎ (same_point p (point_at f.start) ≡ false) → (same_point p (point_at c.start) ≡ false) ⊎ (same_point p (point_at f.end) ≡ false) → ⊥
    not_simple a b c f l ca fb m q u w = v (RingNotSimple i) (ring, ri, record { i = a; j = b; e = c; f = f; later = l; first = ca; second = fb; clash = clashes ring ring_closed a b c f l ca fb p hp m q u w })

    pick : on d p ≡ true → (k < j) ⊎ (j < k) → ⊥
    pick m (inl l) = not_simple k j d e l dk ej m h (inr (apart_from e.start p s)) (inr (apart_from e.end p t))
    pick m (inr l) = not_simple j k e d l ej dk h m (inl (apart_from e.end p t)) (inl (apart_from e.start p s))

-- none of another ring, since no two rings share a point
pub no_edge_of_others : (g : Geometry) → IsValid g → (i : ℕ) (ring : List Position) → slice_get (rings g) i ≡ Some ring → (j : ℕ) (e : Edge) → slice_get (edges_of_line ring) j ≡ Some e
    → (p : Point) → IsPoint p → on e p ≡ true → (k : ℕ) (r : List Position) → (k ≡ i → ⊥) → slice_get (rings g) k ≡ Some r → (m : ℕ) (d : Edge) → slice_get (edges_of_line r) m ≡ Some d → on d p ≡ false
no_edge_of_others g v i ring ri j e ej p hp h k r n rk m d dm = not_on d p (λ q. pick q (less_or_more k i n))
  where
    pick : on d p ≡ true → (k < i) ⊎ (i < k) → ⊥
    pick q (inl l) = pairs_at Disjoint (rings g) (rings_apart g v) k i r ring l rk ri p hp d e (among_at (edges_of_line r) m d dm) (among_at (edges_of_line ring) j e ej) q h
    pick q (inr l) = pairs_at Disjoint (rings g) (rings_apart g v) i k ring r l ri rk p hp e d (among_at (edges_of_line ring) j e ej) (among_at (edges_of_line r) m d dm) h q

-- ---- exactly one of the two parities
-- just one edge goes through the point, so it alone is at or above it without being strictly above it
pub rings_part : (g : Geometry) → IsValid g → (i : ℕ) (ring : List Position) → slice_get (rings g) i ≡ Some ring → (j : ℕ) (e : Edge) → slice_get (edges_of_line ring) j ≡ Some e
    → (p : Point) → IsPoint p → on e p ≡ true → is_at p e.start ≡ false → is_at p e.end ≡ false → (e.start.x ≡ e.end.x → ⊥) → xor (odd_above (rings g) p) (odd_at_or_above (rings g) p) ≡ true
rings_part g v i ring ri j e ej p hp h s t f = ap (xor (odd_above (rings g) p)) (parity_at_or_above (rings g) p) ∙ sym (xor_assoc (odd_above (rings g) p) (odd_above (rings g) p) (parity (λ k. touches k p) (edges_of_lines (rings g))))
    ∙ ap (λ (b : Bool). xor b (parity (λ k. touches k p) (edges_of_lines (rings g)))) (xor_self (odd_above (rings g) p)) ∙ over_rings (λ k. touches k p) (rings g)
    ∙ one_parity (λ r. parity (λ k. touches k p) (edges_of_line r)) (rings g) i ring ri
    (one_parity (λ k. touches k p) (edges_of_line ring) j e ej (goes_through e p hp h s t f) (λ k d n q. untouched d (no_edge_of_ring g v i ring ri j e ej p hp h s t k d n q)))
    (λ k r n q. none_parity (λ d. touches d p) (edges_of_line r) (λ m d dm. untouched d (no_edge_of_others g v i ring ri j e ej p hp h k r n q m d dm)))
  where
    untouched : (d : Edge) → on d p ≡ false → touches d p ≡ false
    untouched d n = by_contraries (touches d p) (on d p) (on_from_touch d p hp) n

-- ---- what is just below and just above
-- of the two sides the one with the odd number is interior, and the other one exterior
parted_as : (s t : Bool) → xor s t ≡ true → ArePartedAs (if t then Interior else Exterior) (if s then Interior else Exterior)
parted_as true true e = absurd (cc)
parted_as true false e = inr (refl, refl)
parted_as false true e = inl (refl, refl)
parted_as false false e = absurd (cc)

-- what holds of each edge of each ring, by places, holds of all edges
pub each_ring : (P : Edge → Type 0) (rs : List (List Position)) → ((k : ℕ) (r : List Position) → slice_get rs k ≡ Some r → (m : ℕ) (d : Edge) → slice_get (edges_of_line r) m ≡ Some d → P d) → Each P (edges_of_lines rs)
each_ring P [] f = tt
each_ring P (r ∷ rs) f = each_append P (edges_of_line r) (edges_of_lines rs) (each_by P (edges_of_line r) (λ m d q. f 0 r refl m d q)) (each_ring P rs (λ k q h m d z. f (suc k) q h m d z))

-- every edge through the point is that one, so none of them is vertical
not_upright_at : (g : Geometry) → IsValid g → (i : ℕ) (ring : List Position) → slice_get (rings g) i ≡ Some ring → (j : ℕ) (e : Edge) → slice_get (edges_of_line ring) j ≡ Some e
    → (p : Point) → IsPoint p → on e p ≡ true → is_at p e.start ≡ false → is_at p e.end ≡ false → (e.start.x ≡ e.end.x → ⊥) → Each (IsNotUprightAt p) (edges_of_lines (rings g))
not_upright_at g v i ring ri j e ej p hp h s t f =
    each_ring (IsNotUprightAt p) (rings g) (λ k r rk m d dm. at_ring k r rk m d dm (cases_eq k i))
  where
    none : (d : Edge) → on d p ≡ false → IsNotUprightAt p d
    none d n = λ y q. absurd (let z : true ≡ false = sym y ∙ n in cc)

    at_edge : (k : ℕ) (r : List Position) → k ≡ i → slice_get (rings g) k ≡ Some r → (m : ℕ) (d : Edge) → slice_get (edges_of_line r) m ≡ Some d → (m ≡ j) ⊎ (m ≡ j → ⊥) → IsNotUprightAt p d
    at_edge k r w rk m d dm (inl n) = λ y q. f (subst (λ (c : Edge). c.start.x ≡ c.end.x) (same_Some d e (sym dm ∙ ap₂ (λ (o : List Position) (l : ℕ). slice_get (edges_of_line o) l) (same_Some r ring (sym rk ∙ ap (slice_get (rings g)) w ∙ ri)) n ∙ ej)) q)
    at_edge k r w rk m d dm (inr n) = none d (no_edge_of_ring g v i ring ri j e ej p hp h s t m d n (ap (λ (o : List Position). slice_get (edges_of_line o) m) (sym (same_Some r ring (sym rk ∙ ap (slice_get (rings g)) w ∙ ri))) ∙ dm))

    at_ring : (k : ℕ) (r : List Position) → slice_get (rings g) k ≡ Some r → (m : ℕ) (d : Edge) → slice_get (edges_of_line r) m ≡ Some d → (k ≡ i) ⊎ (k ≡ i → ⊥) → IsNotUprightAt p d
    at_ring k r rk m d dm (inl w) = at_edge k r w rk m d dm (cases_eq m j)
    at_ring k r rk m d dm (inr n) = none d (no_edge_of_others g v i ring ri j e ej p hp h k r n rk m d dm)

-- an area has no edges but those of its rings, and no listed positions
not_upright_area : (g : Geometry) (p : Point) (i : ℕ) (ring : List Position) → slice_get (rings g) i ≡ Some ring → Each (IsNotUprightAt p) (edges_of_lines (rings g)) → MissesUprights g p
not_upright_area (Geometry.Point o) p i ring e h = absurd (let z : None ≡ Some ring = e in cc)
not_upright_area (Geometry.MultiPoint qs) p i ring e h = absurd (let z : None ≡ Some ring = e in cc)
not_upright_area (Geometry.LineString l) p i ring e h = absurd (let z : None ≡ Some ring = e in cc)
not_upright_area (Geometry.MultiLineString ls) p i ring e h = absurd (let z : None ≡ Some ring = e in cc)
not_upright_area (Geometry.Polygon rs) p i ring e h = record { edges = all_from_each (IsNotUprightAt p) (edges_of_lines rs) h; positions = all_from_each (λ a. is_at p a ≡ false) [] tt }
not_upright_area (Geometry.MultiPolygon es) p i ring e h = record { edges = all_from_each (IsNotUprightAt p) (edges_of_lines (joined_rings es)) h; positions = all_from_each (λ a. is_at p a ≡ false) [] tt }

-- below counts the edges at or above, above those strictly above, and just one of these numbers is odd;
-- no edge through the point is vertical, so the points near it lie as these say
pub sides_of_a_ring : (g : Geometry) → IsValid g → (i : ℕ) (ring : List Position) → slice_get (rings g) i ≡ Some ring → (j : ℕ) (e : Edge) → slice_get (edges_of_line ring) j ≡ Some e
    → (p : Point) → IsPoint p → on e p ≡ true → is_at p e.start ≡ false → is_at p e.end ≡ false → (e.start.x ≡ e.end.x → ⊥) → ArePartedAs (below g p) (above g p) × ((k : ℕ) → NearSides g p k) × AreAllNear g p
sides_of_a_ring g v i ring ri j e ej p hp h s t f = (
  parted_as (odd_above (rings g) p) (odd_at_or_above (rings g) p) (rings_part g v i ring ri j e ej p hp h s t f),
  sides_are_near g p hp (not_upright_area g p i ring ri (not_upright_at g v i ring ri j e ej p hp h s t f)),
  near_points_are_so g p hp (not_upright_area g p i ring ri (not_upright_at g v i ring ri j e ej p hp h s t f)),
)
