-- In a valid area no two rings share a point, and a point is in the interior exactly when it is in that of one element.
use Rattle.std.proofs.Common.{ℕ, ◌<◌, ◌≡◌, ◌≢◌, ◌⊎◌, inl, inr, ◌↔◌, Bool, true, false, ◌||◌, if◌then◌else◌, refl, sym, ap, ap₂, subst, ◌∙◌, List, [], ◌∷◌, ◌++◌, Some, slice_get, Contains}
use Rattle.std.specs.List.{list_any}
use Rattle.std.proofs.lemmas.Bool.{cases_eq, false_from_ne_true}
use Rattle.std.proofs.lemmas.List.Folds.{list_any-append}
use Rattle.basics.proofs.Numbers.{less_or_more}
use Rattle.basics.proofs.Bools.{not_both}
use Rattle.geometry_model.specs.Points.{Position, Point, IsPoint, point_at}
use Rattle.geometry_model.specs.Geometries.{Edge, Geometry, Polygon, MultiPolygon, edges_of_line, edges_of_lines, rings, joined_rings}
use Rattle.geometry_model.specs.Sides.{on}
use Rattle.geometry_model.specs.Crossings.{exactly_one as xor, odd_above}
use Rattle.geometry_model.specs.Locations.{on_some, locate}
use Rattle.geometry_model.specs.Validity.{IsValid, ElementsShare, inside, inside_element}
use Rattle.geometry_model.specs.declared.point_sets.Location.TheVariants.{Interior, Boundary, Exterior}
use Rattle.geometry_model.specs.declared.validity_faults.ValidityFault.TheVariants.{ElementsMeet, ElementInside}
use Rattle.geometry_laws.specs.RingLaws.{IsClosed}
use Rattle.geometry_laws.proofs.Each.{Each, Among, each_at, each_of, each_map, each_append, Passing, some_passed, one_passes, none_passes, none_passed, parity, among_either}
use Rattle.geometry_laws.proofs.RingParity.{position_is_point}
use Rattle.geometry_laws.proofs.Cuts.{contains_of_among, among_from_contains}
use Rattle.geometry_laws.proofs.Xor.{xor_assoc}
use Rattle.matrix_laws.proofs.Places.{Pairs, pairs_by, pairs_map, pairs_append, one_before, each_by, place_from_contains, among_at}
use Rattle.matrix_laws.proofs.Nested.{odd_in, Disjoint, disjoint_turned, on_ring, not_each, empty_even, carried_in, over_neither}
use Rattle.matrix_laws.proofs.OneElement.{element_is_valid}
use Rattle.matrix_laws.proofs.Through.{one_parity}
use Rattle.matrix_laws.proofs.Holes.{Lawful, lawful, Apart, OddHole, one_more, disjoint_from, cut, in_some_hole}

-- ---- the rings of an area
-- no two rings of a valid polygon share a point: not the outer one with a hole, and not two holes
polygon_apart : (rs : List (List Position)) → IsValid (Polygon rs) → Pairs Disjoint rs
polygon_apart [] v = tt
polygon_apart (outer ∷ holes) v = go (lawful outer holes v)
  where
    go : Lawful outer holes → Pairs Disjoint (outer ∷ holes)
    go l = (l.outer_apart, pairs_map Apart Disjoint holes (λ h k a. a.disjoint) l.holes_apart)

-- no ring of the one shares a point with a ring of the other
abbrev Separate : List (List Position) → List (List Position) → Type 0
Separate d e = Each (λ r. Each (Disjoint r) e) d

-- elements for which validity finds no shared point have no two rings with a common point
separate_from : (d e : List (List Position)) → (ElementsShare d e → ⊥) → Separate d e
separate_from d e f = each_of (λ r. Each (Disjoint r) e) d (λ r a. each_of (Disjoint r) e (λ s b. disjoint_from r s (λ h. f (record { r = r; s = s; first = contains_of_among r d a; second = contains_of_among s e b; share = h }))))

-- which goes both ways
separate_turned : (d e : List (List Position)) → Separate d e → Separate e d
separate_turned d e h = each_of (λ r. Each (Disjoint r) d) e (λ r a. each_of (Disjoint r) d (λ s b. disjoint_turned s r (each_at (Disjoint s) e r (each_at (λ q. Each (Disjoint q) e) d s h b) a)))

-- rings that are separate from each element are separate from all the elements' rings, joined
spread : (d : List (List Position)) (es : List (List (List Position))) → Each (Separate d) es → Each (λ r. Each (Disjoint r) (joined_rings es)) d
spread d [] h = each_of (λ r. Each (Disjoint r) []) d (λ r a. tt)
spread d (e ∷ es) h = each_of (λ r. Each (Disjoint r) (e ++ joined_rings es)) d (λ r a. each_append (Disjoint r) e (joined_rings es)
    (each_at (λ q. Each (Disjoint q) e) d r h.0 a) (each_at (λ q. Each (Disjoint q) (joined_rings es)) d r (spread d es h.1) a))

-- two rings of an area are of one element, which is valid, or of two, which are separate
joined_apart : (es : List (List (List Position))) → Each (Pairs Disjoint) es → Pairs Separate es → Pairs Disjoint (joined_rings es)
joined_apart [] h k = tt
joined_apart (d ∷ es) h k = pairs_append Disjoint d (joined_rings es) h.0 (joined_apart es h.1 k.1) (spread d es k.0)

-- elements that share a point are a fault, so those of a valid MULTIPOLYGON are separate
elements_apart : (es : List (List (List Position))) → IsValid (MultiPolygon es) → Pairs Separate es
elements_apart es v = pairs_by Separate es (λ i j d e l g h. separate_from d e (λ s. v (ElementsMeet i j) (d, e, l, g, h, s)))

-- no two rings of a valid area share a point
pub rings_apart : (g : Geometry) → IsValid g → Pairs Disjoint (rings g)
rings_apart (Geometry.Point o) v = tt
rings_apart (Geometry.MultiPoint qs) v = tt
rings_apart (Geometry.LineString l) v = tt
rings_apart (Geometry.MultiLineString ls) v = tt
rings_apart (Geometry.Polygon rs) v = polygon_apart rs v
rings_apart (Geometry.MultiPolygon es) v = joined_apart es (each_of (Pairs Disjoint) es (λ d a. polygon_apart d (element_is_valid (MultiPolygon es) v d a))) (elements_apart es v)

-- ---- two elements
record Two (d e : List (List Position)) : Type 0 where
  first : IsValid (Polygon d)
  second : IsValid (Polygon e)
  apart : Separate d e
  not_in : inside_element e d ≡ false
  not_over : inside_element d e ≡ false

turned : (d e : List (List Position)) → Two d e → Two e d
turned d e t = record { first = t.second; second = t.first; apart = separate_turned d e t.apart; not_in = t.not_over; not_over = t.not_in }

-- what validity says of elements at two different places: two valid polygons, separate, neither inside the other
two_of : (es : List (List (List Position))) → IsValid (MultiPolygon es) → (i j : ℕ) (d e : List (List Position)) → (i ≡ j → ⊥) → slice_get es i ≡ Some d → slice_get es j ≡ Some e → Two d e
two_of es v i j d e n g h = record {
  first = element_is_valid (MultiPolygon es) v d (among_at es i d g);
  second = element_is_valid (MultiPolygon es) v e (among_at es j e h);
  apart = go (less_or_more i j n);
  not_in = false_from_ne_true (inside_element e d) (λ f. v (ElementInside i j) (d, e, n, g, h, f));
  not_over = false_from_ne_true (inside_element d e) (λ f. v (ElementInside j i) (e, d, (λ k. n (sym k)), h, g, f));
}
  where
    go : (i < j) ⊎ (j < i) → Separate d e
    go (inl l) = separate_from d e (λ s. v (ElementsMeet i j) (d, e, l, g, h, s))
    go (inr l) = separate_turned e d (separate_from e d (λ s. v (ElementsMeet j i) (e, d, l, h, g, s)))

-- a ring of the one and a ring of the other share no point
between : (d e : List (List Position)) → Separate d e → (r s : List Position) → Among r d → Among s e → Disjoint r s
between d e h r s a b = each_at (Disjoint r) e s (each_at (λ q. Each (Disjoint q) e) d r h a) b

-- ---- the outer ring of the one inside the outer ring of the other, but not inside the other: it is inside a hole, and so is what it holds
in_hole : (o : List Position) (hs : List (List Position)) (b : Position) (v : List Position) → Lawful o hs → IsClosed (b ∷ v) → Each (λ r. Disjoint r (b ∷ v)) (o ∷ hs)
    → odd_above (o ∷ hs) (point_at b) ≡ false → odd_in o (point_at b) ≡ true → (p : Point) → IsPoint p → odd_in (b ∷ v) p ≡ true → (h : List Position) × Among h hs × (odd_in h (point_at b) ≡ true) × (odd_in h p ≡ true)
in_hole o hs b v l c d f e p hp k = go (in_some_hole o hs l (point_at b) (position_is_point b) e f)
  where
    go : OddHole (point_at b) hs → (h : List Position) × Among h hs × (odd_in h (point_at b) ≡ true) × (odd_in h p ≡ true)
    go r = (r.hole, r.among, r.odd, carried_in r.hole (b ∷ v) (each_at IsClosed hs r.hole l.holes_closed r.among) c (each_at (λ q. Disjoint q (b ∷ v)) hs r.hole d.1 r.among) r.odd p hp k)

-- ---- no point is odd over two elements
-- a point that is even over all holes isn't odd over one
even_hole : (hs : List (List Position)) (p : Point) (h : List Position) → Each (λ q. odd_in q p ≡ false) hs → Among h hs → odd_in h p ≡ true → ⊥
even_hole hs p h n a k = not_both (odd_in h p) k (each_at (λ q. odd_in q p ≡ false) hs h n a)

-- no ring of the first shares a point with the second's outer ring
outer_apart : (o : List Position) (hs : List (List Position)) (q : List Position) (ks : List (List Position)) → Separate (o ∷ hs) (q ∷ ks) → Each (λ r. Disjoint r q) (o ∷ hs)
outer_apart o hs q ks h = each_map (λ r. Each (Disjoint r) (q ∷ ks)) (λ r. Disjoint r q) (o ∷ hs) (λ r k. k.0) h

-- the outer ring of the second inside that of the first: what is odd over it is over a hole of the first
swallowed : (o : List Position) (hs : List (List Position)) (b : Position) (v : List Position) (ks : List (List Position)) → Two (o ∷ hs) ((b ∷ v) ∷ ks) → odd_in o (point_at b) ≡ true
    → (p : Point) → IsPoint p → odd_in (b ∷ v) p ≡ true → Each (λ q. odd_in q p ≡ false) hs → ⊥
swallowed o hs b v ks t e p hp k n = go (in_hole o hs b v (lawful o hs t.first) ((lawful (b ∷ v) ks t.second).outer_closed) (outer_apart o hs (b ∷ v) ks t.apart) t.not_over e p hp k)
  where
    go : (h : List Position) × Among h hs × (odd_in h (point_at b) ≡ true) × (odd_in h p ≡ true) → ⊥
    go r = even_hole hs p r.0 n r.1 r.3

-- a point odd over both is inside both outer rings, so the one is inside the other; there the inner element
-- lies in a hole of the outer one, and over that hole the point would be odd
never_both : (d e : List (List Position)) → Two d e → (p : Point) → IsPoint p → odd_above d p ≡ true → odd_above e p ≡ true → ⊥
never_both [] e t p hp g h = not_both (odd_above [] p) g refl
never_both (o ∷ hs) [] t p hp g h = not_both (odd_above [] p) h refl
never_both (o ∷ hs) (q ∷ ks) t p hp g h = outers o q t (cut o hs (lawful o hs t.first) p hp g) (cut q ks (lawful q ks t.second) p hp h)
  where
    by_order : (a : Position) (u : List Position) (b : Position) (v : List Position) → Two ((a ∷ u) ∷ hs) ((b ∷ v) ∷ ks) → (odd_in (a ∷ u) p ≡ true) × Each (λ r. odd_in r p ≡ false) hs → (odd_in (b ∷ v) p ≡ true) × Each (λ r. odd_in r p ≡ false) ks
        → (s : Bool) → odd_in (a ∷ u) (point_at b) ≡ s → (w : Bool) → odd_in (b ∷ v) (point_at a) ≡ w → ⊥
    by_order a u b v t m n true e w f = swallowed (a ∷ u) hs b v ks t e p hp n.0 m.1
    by_order a u b v t m n false e true f = swallowed (b ∷ v) ks a u hs (turned ((a ∷ u) ∷ hs) ((b ∷ v) ∷ ks) t) f p hp m.0 n.1
    by_order a u b v t m n false e false f = over_neither (a ∷ u) (b ∷ v) ((lawful (a ∷ u) hs t.first).outer_closed) ((lawful (b ∷ v) ks t.second).outer_closed) (between ((a ∷ u) ∷ hs) ((b ∷ v) ∷ ks) t.apart (a ∷ u) (b ∷ v) (inl refl) (inl refl)) e f p hp m.0 n.0

    outers : (o q : List Position) → Two (o ∷ hs) (q ∷ ks) → (odd_in o p ≡ true) × Each (λ r. odd_in r p ≡ false) hs → (odd_in q p ≡ true) × Each (λ r. odd_in r p ≡ false) ks → ⊥
    outers [] q t m n = not_both (odd_in [] p) m.0 (empty_even p)
    outers (a ∷ u) [] t m n = not_both (odd_in [] p) n.0 (empty_even p)
    outers (a ∷ u) (b ∷ v) t m n = by_order a u b v t m n (odd_in (a ∷ u) (point_at b)) refl (odd_in (b ∷ v) (point_at a)) refl

-- ---- a point on a ring of the one is even over the other
-- points with one parity over each ring have one over all of them
same_over : (rs : List (List Position)) (p z : Point) → Each (λ r. odd_in r p ≡ odd_in r z) rs → odd_above rs p ≡ odd_above rs z
same_over [] p z h = refl
same_over (r ∷ rs) p z h = one_more r rs p ∙ ap₂ xor h.0 (same_over rs p z h.1) ∙ sym (one_more r rs z)

-- all points of a ring have, over each ring that shares no point with it, the parity of its first position
first_alike : (rs : List (List Position)) (b : Position) (v : List Position) → Each IsClosed rs → Each (λ r. Disjoint r (b ∷ v)) rs → (f : Edge) → Among f (edges_of_line (b ∷ v)) → (p : Point) → IsPoint p → on f p ≡ true
    → Each (λ r. odd_in r p ≡ odd_in r (point_at b)) rs
first_alike rs b v c d f m p hp h = each_of (λ r. odd_in r p ≡ odd_in r (point_at b)) rs (λ r a. on_ring r b v (each_at IsClosed rs r c a) (each_at (λ q. Disjoint q (b ∷ v)) rs r d a) f m p hp h)

closed_rings : (o : List Position) (hs : List (List Position)) → Lawful o hs → Each IsClosed (o ∷ hs)
closed_rings o hs l = (l.outer_closed, l.holes_closed)

-- a point on the second's outer ring has over the first the parity of that ring's first position, which isn't inside the first
on_outer : (d : List (List Position)) (q : List Position) (ks : List (List Position)) → Two d (q ∷ ks) → (f : Edge) → Among f (edges_of_line q) → (p : Point) → IsPoint p → on f p ≡ true → odd_above d p ≡ true → ⊥
on_outer d [] ks t f m p hp h g = m
on_outer [] (b ∷ v) ks t f m p hp h g = not_both (odd_above [] p) g refl
on_outer (o ∷ hs) (b ∷ v) ks t f m p hp h g = not_both (odd_above (o ∷ hs) p) g
    (same_over (o ∷ hs) p (point_at b) (first_alike (o ∷ hs) b v (closed_rings o hs (lawful o hs t.first)) (outer_apart o hs (b ∷ v) ks t.apart) f m p hp h) ∙ t.not_over)

-- the point on the hole k of the second, of which another hole, or k, holds the outer ring of the first
hole_of_hole : (q : List Position) (ks : List (List Position)) → Lawful q ks → (a : Position) (u : List Position) (c : Position) (w : List Position) → IsClosed (a ∷ u) → Disjoint (a ∷ u) (c ∷ w) → Among (c ∷ w) ks
    → (f : Edge) → Among f (edges_of_line (c ∷ w)) → (p : Point) → IsPoint p → on f p ≡ true → odd_in (a ∷ u) p ≡ true
    → (h : List Position) → Among h ks → odd_in h (point_at a) ≡ true → odd_in h p ≡ true → ⊥
hole_of_hole q ks l a u c w ca d k f m p hp on_f g h b e n = go (one_before Apart ks l.holes_apart h (c ∷ w) b k)
  where
    apart : Disjoint h (c ∷ w) → inside h (c ∷ w) ≡ false → ⊥
    apart dis out = not_both (odd_in h p) n (on_ring h c w (each_at IsClosed ks h l.holes_closed b) dis f m p hp on_f ∙ out)

    go : (h ≡ c ∷ w) ⊎ Apart h (c ∷ w) ⊎ Apart (c ∷ w) h → ⊥
    go (inl z) = not_each a u c w ca (each_at IsClosed ks (c ∷ w) l.holes_closed k) d (sym (on_ring (a ∷ u) c w ca d f m p hp on_f) ∙ g) (sym (ap (λ r. odd_in r (point_at a)) z) ∙ e)
    go (inr (inl z)) = apart z.disjoint z.not_over
    go (inr (inr z)) = apart (disjoint_turned (c ∷ w) h z.disjoint) z.not_in

-- a point on a hole of the second that were odd over the first would be inside both outer rings; so the one lies in a hole
-- of the other's element, and over that hole the point can't be odd
on_hole : (d : List (List Position)) (q : List Position) (ks : List (List Position)) → Two d (q ∷ ks) → (k : List Position) → Among k ks → (f : Edge) → Among f (edges_of_line k) → (p : Point) → IsPoint p → on f p ≡ true → odd_above d p ≡ true → ⊥
on_hole d q ks t [] a f m p hp h g = m
on_hole [] q ks t (c ∷ w) a f m p hp h g = not_both (odd_above [] p) g refl
on_hole (o ∷ hs) q ks t (c ∷ w) k f m p hp h g = outers o q t (cut o hs (lawful o hs t.first) p hp g) (lawful q ks t.second)
  where
    over_outer : (q : List Position) → Lawful q ks → odd_in q p ≡ true
    over_outer q l = on_ring q c w l.outer_closed (each_at (Disjoint q) ks (c ∷ w) l.outer_apart k) f m p hp h ∙ each_at (λ r. inside q r ≡ true) ks (c ∷ w) l.holes_inside k

    within_hole : (a : Position) (u : List Position) (q : List Position) → Two ((a ∷ u) ∷ hs) (q ∷ ks) → Lawful q ks → odd_in (a ∷ u) p ≡ true
        → (r : List Position) × Among r ks × (odd_in r (point_at a) ≡ true) × (odd_in r p ≡ true) → ⊥
    within_hole a u q t l n (r, b, e, z) = hole_of_hole q ks l a u c w ((lawful (a ∷ u) hs t.first).outer_closed) (between ((a ∷ u) ∷ hs) (q ∷ ks) t.apart (a ∷ u) (c ∷ w) (inl refl) (inr k)) k f m p hp h n r b e z

    by_order : (a : Position) (u : List Position) (b : Position) (v : List Position) → Two ((a ∷ u) ∷ hs) ((b ∷ v) ∷ ks) → (odd_in (a ∷ u) p ≡ true) × Each (λ r. odd_in r p ≡ false) hs → Lawful (b ∷ v) ks
        → (s : Bool) → odd_in (a ∷ u) (point_at b) ≡ s → (z : Bool) → odd_in (b ∷ v) (point_at a) ≡ z → ⊥
    by_order a u b v t n l true e z y = swallowed (a ∷ u) hs b v ks t e p hp (over_outer (b ∷ v) l) n.1
    by_order a u b v t n l false e true y = within_hole a u (b ∷ v) t l n.0 (in_hole (b ∷ v) ks a u l ((lawful (a ∷ u) hs t.first).outer_closed) (outer_apart (b ∷ v) ks (a ∷ u) hs (separate_turned ((a ∷ u) ∷ hs) ((b ∷ v) ∷ ks) t.apart)) t.not_in y p hp n.0)
    by_order a u b v t n l false e false y = over_neither (a ∷ u) (b ∷ v) ((lawful (a ∷ u) hs t.first).outer_closed) l.outer_closed (between ((a ∷ u) ∷ hs) ((b ∷ v) ∷ ks) t.apart (a ∷ u) (b ∷ v) (inl refl) (inl refl)) e y p hp n.0 (over_outer (b ∷ v) l)

    outers : (o q : List Position) → Two (o ∷ hs) (q ∷ ks) → (odd_in o p ≡ true) × Each (λ r. odd_in r p ≡ false) hs → Lawful q ks → ⊥
    outers [] q t n l = not_both (odd_in [] p) n.0 (empty_even p)
    outers (a ∷ u) [] t n l = not_both (odd_in [] p) (over_outer [] l) (empty_even p)
    outers (a ∷ u) (b ∷ v) t n l = by_order a u b v t n l (odd_in (a ∷ u) (point_at b)) refl (odd_in (b ∷ v) (point_at a)) refl

-- so on every ring of the second the point is even over the first
ring_even : (d e : List (List Position)) → Two d e → (r : List Position) → Among r e → (f : Edge) → Among f (edges_of_line r) → (p : Point) → IsPoint p → on f p ≡ true → odd_above d p ≡ true → ⊥
ring_even d [] t r a f m p hp h g = a
ring_even d (q ∷ ks) t r (inl z) f m p hp h g = on_outer d q ks t f (subst (λ s. Among f (edges_of_line s)) z m) p hp h g
ring_even d (q ∷ ks) t r (inr a) f m p hp h g = on_hole d q ks t r a f m p hp h g

-- ---- the edges of rings
pub record RingOf (f : Edge) (rs : List (List Position)) : Type 0 where
  pub ring : List Position
  pub among : Among ring rs
  pub holds : Among f (edges_of_line ring)

-- an edge of several rings is an edge of one of them
pub ring_of : (f : Edge) (rs : List (List Position)) → Among f (edges_of_lines rs) → RingOf f rs
ring_of f [] a = absurd a
ring_of f (r ∷ rs) a = go (among_either f (edges_of_line r) (edges_of_lines rs) a) (λ m. ring_of f rs m)
  where
    go : Among f (edges_of_line r) ⊎ Among f (edges_of_lines rs) → (Among f (edges_of_lines rs) → RingOf f rs) → RingOf f (r ∷ rs)
    go (inl m) rest = record { ring = r; among = inl refl; holds = m }
    go (inr m) rest = let z : RingOf f rs = rest m in record { ring = z.ring; among = inr z.among; holds = z.holds }

-- a point on the boundary of the second is even over the first
edge_even : (d e : List (List Position)) → Two d e → (p : Point) → IsPoint p → on_some e p ≡ true → odd_above d p ≡ true → ⊥
edge_even d e t p hp h g = go (some_passed (λ f. on f p) (edges_of_lines e) h)
  where
    go : Passing (λ f. on f p) (edges_of_lines e) → ⊥
    go z = let r : RingOf z.found e = ring_of z.found e z.among in ring_even d e t r.ring r.among z.found r.holds p hp z.passes g

-- and isn't on the first's boundary, since their rings share no point
both_edges : (d e : List (List Position)) → Two d e → (p : Point) → IsPoint p → on_some d p ≡ true → on_some e p ≡ true → ⊥
both_edges d e t p hp h g = go (some_passed (λ f. on f p) (edges_of_lines d) h) (some_passed (λ f. on f p) (edges_of_lines e) g)
  where
    at : (f k : Edge) → RingOf f d → RingOf k e → on f p ≡ true → on k p ≡ true → ⊥
    at f k r s m n = between d e t.apart r.ring s.ring r.among s.among p hp f k r.holds s.holds m n

    go : Passing (λ f. on f p) (edges_of_lines d) → Passing (λ f. on f p) (edges_of_lines e) → ⊥
    go y z = at y.found z.found (ring_of y.found d y.among) (ring_of z.found e z.among) y.passes z.passes

-- ---- over all rings and over each element
-- a point is on some of joined rings where it is on some of the one or of the other list
on_rings : (rs qs : List (List Position)) (p : Point) → on_some (rs ++ qs) p ≡ (on_some rs p || on_some qs p)
on_rings [] qs p = refl
on_rings (r ∷ rs) qs p = list_any-append (λ e. on e p) (edges_of_line r) (edges_of_lines (rs ++ qs)) ∙ ap (λ (b : Bool). list_any (λ e. on e p) (edges_of_line r) || b) (on_rings rs qs p)
    ∙ grouped (list_any (λ e. on e p) (edges_of_line r)) (on_some rs p) (on_some qs p) ∙ ap (λ (b : Bool). b || on_some qs p) (sym (list_any-append (λ e. on e p) (edges_of_line r) (edges_of_lines rs)))
  where
    grouped : (a b c : Bool) → (a || (b || c)) ≡ ((a || b) || c)
    grouped true b c = refl
    grouped false b c = refl

-- a point is on a ring of the area exactly where it is on a ring of one of its elements
on_joined : (es : List (List (List Position))) (p : Point) → on_some (joined_rings es) p ≡ list_any (λ d. on_some d p) es
on_joined [] p = refl
on_joined (d ∷ es) p = on_rings d (joined_rings es) p ∙ ap (λ (b : Bool). on_some d p || b) (on_joined es p)

-- and odd over them where it is odd over just one of the two lists
odd_rings : (rs qs : List (List Position)) (p : Point) → odd_above (rs ++ qs) p ≡ xor (odd_above rs p) (odd_above qs p)
odd_rings [] qs p = refl
odd_rings (r ∷ rs) qs p = one_more r (rs ++ qs) p ∙ ap (xor (odd_in r p)) (odd_rings rs qs p) ∙ sym (xor_assoc (odd_in r p) (odd_above rs p) (odd_above qs p)) ∙ ap (λ (b : Bool). xor b (odd_above qs p)) (sym (one_more r rs p))

-- the parity over all rings is that of the number of elements over which the point is odd
odd_joined : (es : List (List (List Position))) (p : Point) → odd_above (joined_rings es) p ≡ parity (λ d. odd_above d p) es
odd_joined [] p = refl
odd_joined (d ∷ es) p = odd_rings d (joined_rings es) p ∙ ap (xor (odd_above d p)) (odd_joined es p)

-- where an odd number passes, one passes
odd_some : {X : Type 0} (f : X → Bool) (xs : List X) → parity f xs ≡ true → Passing f xs
odd_some f [] h = absurd (let z : false ≡ true = h in cc)
odd_some f (x ∷ xs) h = go (f x) refl h (λ k. odd_some f xs k)
  where
    go : (b : Bool) → f x ≡ b → xor b (parity f xs) ≡ true → (parity f xs ≡ true → Passing f xs) → Passing f (x ∷ xs)
    go true e k rest = record { found = x; among = inl refl; passes = e }
    go false e k rest = let r : Passing f xs = rest k in record { found = r.found; among = inr r.among; passes = r.passes }

-- ---- interior, boundary and exterior by the two tests
-- what a location says of the two tests: whether the point is on a ring, and whether it is odd over the rings
interior_parts : (s t : Bool) → (if s then Boundary else if t then Interior else Exterior) ≡ Interior → (s ≡ false) × (t ≡ true)
interior_parts true t e = absurd cc
interior_parts false true e = (refl, refl)
interior_parts false false e = absurd cc

boundary_part : (s t : Bool) → (if s then Boundary else if t then Interior else Exterior) ≡ Boundary → s ≡ true
boundary_part true t e = refl
boundary_part false true e = absurd cc
boundary_part false false e = absurd cc

from_tests : (s t u v : Bool) → s ≡ u → t ≡ v → (if s then Boundary else if t then Interior else Exterior) ≡ (if u then Boundary else if v then Interior else Exterior)
from_tests s t u v e f = ap₂ (λ (s t : Bool). if s then Boundary else if t then Interior else Exterior) e f

on_boundary : (s t : Bool) → s ≡ true → (if s then Boundary else if t then Interior else Exterior) ≡ Boundary
on_boundary s t e = ap (λ (s : Bool). if s then Boundary else if t then Interior else Exterior) e

-- ---- the boundary is that of the elements
-- a point on the boundary is on some ring, and the rings of the area are those of its elements
pub boundary_is_of_elements : (es : List (List (List Position))) (p : Point) → (locate (MultiPolygon es) p ≡ Boundary) ↔ ((d : List (List Position)) × Contains es d × (locate (Polygon d) p ≡ Boundary))
boundary_is_of_elements es p = (λ e. forth (some_passed (λ d. on_some d p) es (sym (on_joined es p) ∙ boundary_part (on_some (joined_rings es) p) (odd_above (joined_rings es) p) e)), λ r. back r)
  where
    forth : Passing (λ d. on_some d p) es → (d : List (List Position)) × Contains es d × (locate (Polygon d) p ≡ Boundary)
    forth r = (r.found, contains_of_among r.found es r.among, on_boundary (on_some r.found p) (odd_above r.found p) r.passes)

    back : (d : List (List Position)) × Contains es d × (locate (Polygon d) p ≡ Boundary) → locate (MultiPolygon es) p ≡ Boundary
    back (d, c, e) = on_boundary (on_some (joined_rings es) p) (odd_above (joined_rings es) p) (on_joined es p ∙ one_passes (λ q. on_some q p) es d (among_from_contains es d c) (boundary_part (on_some d p) (odd_above d p) e))

-- ---- no point is in two elements
-- what isn't exterior to an element is on a ring or odd over it; for two elements each of the four combinations is excluded
pub never_in_two : (es : List (List (List Position))) → IsValid (MultiPolygon es) → (i j : ℕ) (d e : List (List Position)) → (i ≡ j → ⊥) → slice_get es i ≡ Some d → slice_get es j ≡ Some e
    → (p : Point) → IsPoint p → locate (Polygon d) p ≢ Exterior → locate (Polygon e) p ≡ Exterior
never_in_two es v i j d e n g h p hp out = go (two_of es v i j d e n g h) (on_some d p) refl (odd_above d p) refl (on_some e p) refl (odd_above e p) refl
  where
    go : Two d e → (s : Bool) → on_some d p ≡ s → (t : Bool) → odd_above d p ≡ t → (u : Bool) → on_some e p ≡ u → (w : Bool) → odd_above e p ≡ w → locate (Polygon e) p ≡ Exterior
    go t y a z b false c false f = from_tests (on_some e p) (odd_above e p) false false c f
    go t false a false b u c w f = absurd (out (from_tests (on_some d p) (odd_above d p) false false a b))
    go t true a z b true c w f = absurd (both_edges d e t p hp a c)
    go t true a z b false c true f = absurd (edge_even e d (turned d e t) p hp a f)
    go t false a true b true c w f = absurd (edge_even d e t p hp c b)
    go t false a true b false c true f = absurd (never_both d e t p hp b f)

-- ---- the interior is that of the elements
exterior_parts : (s t : Bool) → (if s then Boundary else if t then Interior else Exterior) ≡ Exterior → (s ≡ false) × (t ≡ false)
exterior_parts true t e = absurd cc
exterior_parts false true e = absurd cc
exterior_parts false false e = (refl, refl)

-- an interior point is odd over an odd number of elements, so over one; a point of one element's interior
-- is exterior to all others, so it is odd over just one
pub interior_is_of_an_element : (es : List (List (List Position))) → IsValid (MultiPolygon es) → (p : Point) → IsPoint p → (locate (MultiPolygon es) p ≡ Interior) ↔ ((d : List (List Position)) × Contains es d × (locate (Polygon d) p ≡ Interior))
interior_is_of_an_element es v p hp = (λ e. forth (interior_parts (on_some (joined_rings es) p) (odd_above (joined_rings es) p) e), λ r. back r)
  where
    found : Each (λ d. on_some d p ≡ false) es → Passing (λ d. odd_above d p) es → (d : List (List Position)) × Contains es d × (locate (Polygon d) p ≡ Interior)
    found h r = (r.found, contains_of_among r.found es r.among, from_tests (on_some r.found p) (odd_above r.found p) false true (each_at (λ d. on_some d p ≡ false) es r.found h r.among) r.passes)

    forth : (on_some (joined_rings es) p ≡ false) × (odd_above (joined_rings es) p ≡ true) → (d : List (List Position)) × Contains es d × (locate (Polygon d) p ≡ Interior)
    forth r = found (none_passed (λ d. on_some d p) es (sym (on_joined es p) ∙ r.0)) (odd_some (λ d. odd_above d p) es (sym (odd_joined es p) ∙ r.1))

    at : (d : List (List Position)) (j : ℕ) → slice_get es j ≡ Some d → locate (Polygon d) p ≡ Interior → locate (MultiPolygon es) p ≡ Interior
    at d j g e = from_tests (on_some (joined_rings es) p) (odd_above (joined_rings es) p) false true
        (on_joined es p ∙ none_passes (λ q. on_some q p) es (each_by (λ q. on_some q p ≡ false) es (λ i q h. off i q h (cases_eq i j))))
        (odd_joined es p ∙ one_parity (λ q. odd_above q p) es j d g (interior_parts (on_some d p) (odd_above d p) e).1 (λ i q n h. (exterior_parts (on_some q p) (odd_above q p) (other i q n h)).1))
      where
        not_exterior : locate (Polygon d) p ≢ Exterior
        not_exterior f = absurd (let z : Interior ≡ Exterior = sym e ∙ f in cc)

        other : (i : ℕ) (q : List (List Position)) → (i ≡ j → ⊥) → slice_get es i ≡ Some q → locate (Polygon q) p ≡ Exterior
        other i q n h = never_in_two es v j i d q (λ k. n (sym k)) g h p hp not_exterior

        off : (i : ℕ) (q : List (List Position)) → slice_get es i ≡ Some q → (i ≡ j) ⊎ (i ≡ j → ⊥) → on_some q p ≡ false
        off i q h (inl k) = ap (λ r. on_some r p) (some_same (sym h ∙ ap (slice_get es) k ∙ g)) ∙ (interior_parts (on_some d p) (odd_above d p) e).0
          where
            some_same : Some q ≡ Some d → q ≡ d
            some_same z = cc
        off i q h (inr n) = (exterior_parts (on_some q p) (odd_above q p) (other i q n h)).0

    back : (d : List (List Position)) × Contains es d × (locate (Polygon d) p ≡ Interior) → locate (MultiPolygon es) p ≡ Interior
    back (d, c, e) = at d c.0 (place_from_contains es d c) e
