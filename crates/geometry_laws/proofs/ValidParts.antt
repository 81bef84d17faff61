-- Valid geometries, in the words of the standard.
use Rattle.std.proofs.Common.{◌≡◌, ◌≢◌, ◌↔◌, ◌⊎◌, inl, inr, ℕ, zero, suc, ◌+◌, ◌<◌, ◌≤◌, ◌==◌, Bool, true, false, List, [], ◌∷◌, length, Contains, Some, None, nat_lt, slice_get, flat_map, refl, sym, ap, ◌∙◌, subst, ltb-true, arith, append-nil}
use Rattle.std.proofs.lemmas.Bool.{true≢false, false_from_ne_true, true_from_ne_false}
use Rattle.std.proofs.lemmas.Bool.Decides.{Decides-eqb}
use Rattle.basics.proofs.Lists.{place_of, contains_at}
use Rattle.basics.proofs.Numbers.{less_not_same}
use Rattle.geometry_model.specs.Points.{Position}
use Rattle.geometry_model.specs.Geometries.{Geometry, lines, rings, elements, joined_rings}
use Rattle.geometry_model.specs.Envelopes.{envelope_of_positions}
use Rattle.geometry_model.specs.Validity.{is_short, RingsShare, inside, Element, numbered_elements, ElementsShare, inside_element, HasFault, IsValid}
use Rattle.geometry_model.specs.declared.validity_faults.ValidityFault.{ValidityFault}
use Rattle.geometry_model.specs.declared.validity_faults.ValidityFault.TheVariants.{TooFewPoints, RingNotClosed, RingNotSimple, RingsMeet, HoleOutside, HolesNested, ElementsMeet, ElementInside}
use Rattle.geometry_laws.specs.ValidPartLaws.{MakePolygon, LieApart, PolygonIsValid, MultiPolygonIsValid, LineStringIsValid, MultiLineStringIsValid, EnvelopeIsAbsentWhereEmpty}
use Rattle.geometry_laws.proofs.ElementPlaces.{Placed, placed, of_numbered, ring_at}

-- ---- to share points goes both ways
-- two rings that share a point do so in either order
pub rings_share_back : (r s : List Position) → RingsShare r s → RingsShare s r
rings_share_back r s w = record {
  i = w.j;
  j = w.i;
  e = w.f;
  f = w.e;
  first = w.second;
  second = w.first;
  share = record { at = w.share.at; is_point = w.share.is_point; on_first = w.share.on_second; on_second = w.share.on_first };
}

-- and so do two polygons
pub elements_share_back : (d e : List (List Position)) → ElementsShare d e → ElementsShare e d
elements_share_back d e w = record { r = w.s; s = w.r; first = w.second; second = w.first; share = rings_share_back w.r w.s w.share }

-- one of two different numbers is the lesser
either_way : (i j : ℕ) → i ≢ j → (i < j) ⊎ (j < i)
either_way i j h = go (nat_lt i j) refl (nat_lt j i) refl
  where
    go : (a : Bool) → nat_lt i j ≡ a → (b : Bool) → nat_lt j i ≡ b → (i < j) ⊎ (j < i)
    go true e b f = inl (ltb-true i j e)
    go false e true f = inr (ltb-true j i f)
    go false e false f = absurd (h (grind arith))

-- ---- what every valid geometry has of each of its polygons
-- the rings of its polygons are its rings
among_rings : (g : Geometry) (i : ℕ) (r : List Position) → slice_get (joined_rings (elements g)) i ≡ Some r → slice_get (rings g) i ≡ Some r
among_rings (Geometry.Point o) i r e = e
among_rings (Geometry.MultiPoint ps) i r e = e
among_rings (Geometry.LineString ps) i r e = e
among_rings (Geometry.MultiLineString ls) i r e = e
among_rings (Geometry.Polygon rs) i r e = ap (λ (l : List (List Position)). slice_get l i) (sym (append-nil rs)) ∙ e
among_rings (Geometry.MultiPolygon es) i r e = e

-- a ring of an area with fewer than four positions is a part that is too short
short_ring : (g : Geometry) (i : ℕ) (r : List Position) → slice_get (joined_rings (elements g)) i ≡ Some r → nat_lt (length r) 4 ≡ true → HasFault g (TooFewPoints i)
short_ring (Geometry.Point o) i r e h = absurd cc
short_ring (Geometry.MultiPoint ps) i r e h = absurd cc
short_ring (Geometry.LineString ps) i r e h = absurd cc
short_ring (Geometry.MultiLineString ls) i r e h = absurd cc
short_ring (Geometry.Polygon rs) i r e h = (r, ap (λ (l : List (List Position)). slice_get l i) (sym (append-nil rs)) ∙ e, h)
short_ring (Geometry.MultiPolygon es) i r e h = (r, e, h)

not_less : (n m : ℕ) → (nat_lt n m ≡ true → ⊥) → m ≤ n
not_less n m h = go (nat_lt n m) refl
  where
    go : (b : Bool) → nat_lt n m ≡ b → m ≤ n
    go true e = absurd (h e)
    go false e = grind arith

-- each way in which the rings of a polygon fail to make one is a fault of the geometry, at their numbers
polygon_at : (g : Geometry) → IsValid g → (rs : List (List Position)) → Placed 0 (elements g) rs → MakePolygon rs
polygon_at g valid rs k = record {
  long = λ ring c. let p = place_of rs ring c in not_less (length ring) 4 (λ h. valid (TooFewPoints (k.offset + p.0)) (short_ring g (k.offset + p.0) ring (k.joined p.0 ring p.1) h));
  closed = λ ring c n. let p = place_of rs ring c in valid (RingNotClosed (k.offset + p.0)) (ring, among_rings g (k.offset + p.0) ring (k.joined p.0 ring p.1), n);
  simple = λ ring c n. let p = place_of rs ring c in valid (RingNotSimple (k.offset + p.0)) (ring, among_rings g (k.offset + p.0) ring (k.joined p.0 ring p.1), n);
  apart = λ i j r s other e f w. pair i j r s e f w (either_way i j other);
  holes_inside = λ i outer hole later e f. true_from_ne_false (inside outer hole) (λ n. valid (HoleOutside (k.element.first + i)) (k.element, i, outer, hole, k.contained, later, own 0 outer e, (refl, own i hole f), n));
  not_nested = λ i j r s later also other e f. false_from_ne_true (inside r s) (λ n. holes i j r s later also e f n (either_way i j other));
}
  where
    own : (i : ℕ) (r : List Position) → slice_get rs i ≡ Some r → slice_get k.element.rings i ≡ Some r
    own i r e = ap (λ (l : List (List Position)). slice_get l i) k.same ∙ e

    pair : (i j : ℕ) (r s : List Position) → slice_get rs i ≡ Some r → slice_get rs j ≡ Some s → RingsShare r s → (i < j) ⊎ (j < i) → ⊥
    pair i j r s e f w (inl h) = valid (RingsMeet (k.element.first + i) (k.element.first + j)) (k.element, i, j, r, s, k.contained, h, (refl, own i r e), (refl, own j s f), w)
    pair i j r s e f w (inr h) = valid (RingsMeet (k.element.first + j) (k.element.first + i)) (k.element, j, i, s, r, k.contained, h, (refl, own j s f), (refl, own i r e), rings_share_back r s w)

    holes : (i j : ℕ) (r s : List Position) → 0 < i → 0 < j → slice_get rs i ≡ Some r → slice_get rs j ≡ Some s → inside r s ≡ true → (i < j) ⊎ (j < i) → ⊥
    holes i j r s later also e f n (inl h) = valid (HolesNested (k.element.first + i) (k.element.first + j)) (k.element, i, j, r, s, k.contained, later, h, (refl, own i r e), (refl, own j s f), inl n)
    holes i j r s later also e f n (inr h) = valid (HolesNested (k.element.first + j) (k.element.first + i)) (k.element, j, i, s, r, k.contained, also, h, (refl, own j s f), (refl, own i r e), inr n)

-- the rings of each polygon of a valid geometry make one
pub polygons_are_made : (g : Geometry) → IsValid g → (rs : List (List Position)) → Contains (elements g) rs → MakePolygon rs
polygons_are_made g valid rs c = let n = place_of (elements g) rs c in polygon_at g valid rs (placed 0 (elements g) n.0 rs n.1)

-- the polygons of a valid geometry lie apart
pub polygons_lie_apart : (g : Geometry) → IsValid g → LieApart (elements g)
polygons_lie_apart g valid = record {
  apart = λ i j d e other h k w. pair i j d e h k w (either_way i j other);
  outside = λ i j d e other h k. false_from_ne_true (inside_element e d) (λ n. valid (ElementInside i j) (d, e, other, h, k, n));
}
  where
    pair : (i j : ℕ) (d e : List (List Position)) → slice_get (elements g) i ≡ Some d → slice_get (elements g) j ≡ Some e → ElementsShare d e → (i < j) ⊎ (j < i) → ⊥
    pair i j d e h k w (inl l) = valid (ElementsMeet i j) (d, e, l, h, k, w)
    pair i j d e h k w (inr l) = valid (ElementsMeet j i) (e, d, l, k, h, elements_share_back d e w)

-- ---- an area whose polygons are made and lie apart is valid
record IsArea (g : Geometry) : Type 0 where
  lines_are : lines g ≡ joined_rings (elements g)
  rings_are : rings g ≡ joined_rings (elements g)
  short_is : (part : List Position) → is_short g part ≡ nat_lt (length part) 4

-- each fault of an area would go against what its polygons are made of, or against their lying apart
area_is_valid : (g : Geometry) → IsArea g → ((rs : List (List Position)) → Contains (elements g) rs → MakePolygon rs) → LieApart (elements g) → IsValid g
area_is_valid g a made apart (TooFewPoints i) h = let k = ring_at (elements g) i h.0 (ap (λ (l : List (List Position)). slice_get l i) (sym a.lines_are) ∙ h.1) in
    short_not (length h.0) ((made k.0 k.1).long h.0 k.2) (ltb-true (length h.0) 4 (sym (a.short_is h.0) ∙ h.2))
  where
    short_not : (n : ℕ) → 4 ≤ n → n < 4 → ⊥
    short_not n l m = omega (arith, l, m)
area_is_valid g a made apart (RingNotClosed i) h = let k = ring_at (elements g) i h.0 (ap (λ (l : List (List Position)). slice_get l i) (sym a.rings_are) ∙ h.1) in (made k.0 k.1).closed h.0 k.2 h.2
area_is_valid g a made apart (RingNotSimple i) h = let k = ring_at (elements g) i h.0 (ap (λ (l : List (List Position)). slice_get l i) (sym a.rings_are) ∙ h.1) in (made k.0 k.1).simple h.0 k.2 h.2
area_is_valid g a made apart (RingsMeet i j) h = (made h.0.rings (of_numbered 0 (elements g) h.0 h.5)).apart h.1 h.2 h.3 h.4 (λ e. less_not_same h.1 h.2 h.6 e) h.7.1 h.8.1 h.9
area_is_valid g a made apart (HoleOutside i) h = true≢false (sym ((made h.0.rings (of_numbered 0 (elements g) h.0 h.4)).holes_inside h.1 h.2 h.3 h.5 h.6 h.7.1) ∙ h.8)
area_is_valid g a made apart (HolesNested i j) h = go h.10
  where
    beyond : (k l : ℕ) → 0 < k → k < l → 0 < l
    beyond k l h e = omega (arith, h, e)

    own : MakePolygon h.0.rings
    own = made h.0.rings (of_numbered 0 (elements g) h.0 h.5)

    go : (inside h.3 h.4 ≡ true) ⊎ (inside h.4 h.3 ≡ true) → ⊥
    go (inl n) = true≢false (sym n ∙ own.not_nested h.1 h.2 h.3 h.4 h.6 (beyond h.1 h.2 h.6 h.7) (λ e. less_not_same h.1 h.2 h.7 e) h.8.1 h.9.1)
    go (inr n) = true≢false (sym n ∙ own.not_nested h.2 h.1 h.4 h.3 (beyond h.1 h.2 h.6 h.7) h.6 (λ e. less_not_same h.1 h.2 h.7 (sym e)) h.9.1 h.8.1)
area_is_valid g a made apart (ElementsMeet i j) h = apart.apart i j h.0 h.1 (λ e. less_not_same i j h.2 e) h.3 h.4 h.5
area_is_valid g a made apart (ElementInside i j) h = true≢false (sym h.5 ∙ apart.outside i j h.0 h.1 h.2 h.3 h.4)

-- a polygon: its parts are the rings of its one element
polygon_area : (rs : List (List Position)) → IsArea (Geometry.Polygon rs)
polygon_area rs = record { lines_are = sym (append-nil rs); rings_are = sym (append-nil rs); short_is = λ part. refl }

-- a MultiPolygon: its parts are the rings of all its elements
multi_polygon_area : (es : List (List (List Position))) → IsArea (Geometry.MultiPolygon es)
multi_polygon_area es = record { lines_are = refl; rings_are = refl; short_is = λ part. refl }

-- a polygon alone
alone : {A : Type 0} (x y : A) → Contains (x ∷ []) y → y ≡ x
alone x y c = let p = place_of (x ∷ []) y c in at_one p.0 p.1
  where
    at_one : (k : ℕ) → slice_get (x ∷ []) k ≡ Some y → y ≡ x
    at_one zero e = cc
    at_one (suc k) e = absurd cc

-- it lies apart, there being no other
one_lies_apart : (rs : List (List Position)) → LieApart (rs ∷ [])
one_lies_apart rs = record { apart = λ i j d e other h k w. other (same i j d e h k); outside = λ i j d e other h k. absurd (other (same i j d e h k)) }
  where
    same : (i j : ℕ) (d e : List (List Position)) → slice_get (rs ∷ []) i ≡ Some d → slice_get (rs ∷ []) j ≡ Some e → i ≡ j
    same zero zero d e h k = refl
    same zero (suc j) d e h k = absurd cc
    same (suc i) j d e h k = absurd cc

-- so a polygon is valid exactly where its rings make one
pub polygon_is_valid : PolygonIsValid
polygon_is_valid rs = (
  (λ valid. polygons_are_made (Geometry.Polygon rs) valid rs (contains_at (rs ∷ []) 0 rs refl)),
  (λ made. area_is_valid (Geometry.Polygon rs) (polygon_area rs) (λ others c. subst MakePolygon (sym (alone rs others c)) made) (one_lies_apart rs)),
)

-- and a MultiPolygon exactly where each of its polygons is valid and they lie apart
pub multi_polygon_is_valid : MultiPolygonIsValid
multi_polygon_is_valid es = (
  (λ valid. ((λ rs c. (polygon_is_valid rs).1 (polygons_are_made (Geometry.MultiPolygon es) valid rs c)), polygons_lie_apart (Geometry.MultiPolygon es) valid)),
  (λ parts. area_is_valid (Geometry.MultiPolygon es) (multi_polygon_area es) (λ rs c. (polygon_is_valid rs).0 (parts.0 rs c)) parts.1),
)

-- ---- lines
-- a geometry without polygons has no fault but that a part is short
only_short : (g : Geometry) → rings g ≡ [] → elements g ≡ [] → ((i : ℕ) → HasFault g (TooFewPoints i) → ⊥) → IsValid g
only_short g no_rings no_polygons long fault = go fault
  where
    no_ring : (i : ℕ) (ring : List Position) → slice_get (rings g) i ≡ Some ring → ⊥
    no_ring i ring e = let f : slice_get [] i ≡ Some ring = ap (λ (l : List (List Position)). slice_get l i) (sym no_rings) ∙ e in cc

    no_polygon : (i : ℕ) (rs : List (List Position)) → slice_get (elements g) i ≡ Some rs → ⊥
    no_polygon i rs e = let f : slice_get [] i ≡ Some rs = ap (λ (l : List (List (List Position))). slice_get l i) (sym no_polygons) ∙ e in cc

    no_number : (e : Element) → Contains (numbered_elements g) e → ⊥
    no_number e c = let k = place_of (elements g) e.rings (of_numbered 0 (elements g) e c) in no_polygon k.0 e.rings k.1

    go : (f : ValidityFault) → HasFault g f → ⊥
    go (TooFewPoints i) h = long i h
    go (RingNotClosed i) h = no_ring i h.0 h.1
    go (RingNotSimple i) h = no_ring i h.0 h.1
    go (RingsMeet i j) h = no_number h.0 h.5
    go (HoleOutside i) h = no_number h.0 h.4
    go (HolesNested i j) h = no_number h.0 h.5
    go (ElementsMeet i j) h = no_polygon i h.0 h.3
    go (ElementInside i j) h = no_polygon i h.0 h.3

-- a line has no other fault than to be a single position
pub line_string_is_valid : LineStringIsValid
line_string_is_valid line = (
  (λ valid one. valid (TooFewPoints 0) (line, refl, (Decides-eqb (length line) 1).1 one)),
  (λ more. only_short (Geometry.LineString line) refl refl
      (λ i h. more (ap length (sym (alone line h.0 (contains_at (line ∷ []) i h.0 h.1))) ∙ (Decides-eqb (length h.0) 1).0 h.2))),
)

-- and lines have no other than an element of fewer than two positions
pub multi_line_string_is_valid : MultiLineStringIsValid
multi_line_string_is_valid ls = (
  (λ valid line c. let p = place_of ls line c in not_less (length line) 2 (λ h. valid (TooFewPoints p.0) (line, p.1, h))),
  (λ long. only_short (Geometry.MultiLineString ls) refl refl (λ i h. short_not (length h.0) (long h.0 (contains_at ls i h.0 h.1)) (ltb-true (length h.0) 2 h.2))),
)
  where
    short_not : (n : ℕ) → 2 ≤ n → n < 2 → ⊥
    short_not n l m = omega (arith, l, m)

-- ---- envelopes
some_there : (n : ℕ) → (suc n == 0) ≡ true → ⊥
some_there n h = absurd (let e : suc n ≡ 0 = (Decides-eqb (suc n) 0).0 h in omega (arith, e))

-- the envelope of lists that have a position each is absent exactly where there is no list
envelope_of_lists : (ls : List (List Position)) → ((line : List Position) → Contains ls line → 0 < length line) → (envelope_of_positions (flat_map (λ line. line) ls) ≡ None) ↔ ((length ls == 0) ≡ true)
envelope_of_lists [] there = ((λ e. refl), (λ e. refl))
envelope_of_lists ([] ∷ ls) there = absurd (let h : 0 < 0 = there [] (contains_at ([] ∷ ls) 0 [] refl) in omega (arith, h))
envelope_of_lists ((a ∷ rest) ∷ ls) there = ((λ e. absurd cc), (λ e. absurd (some_there (length ls) e)))

-- and that of one list exactly where the list is empty
envelope_of_list : (ps : List Position) → (envelope_of_positions ps ≡ None) ↔ ((length ps == 0) ≡ true)
envelope_of_list [] = ((λ e. refl), (λ e. refl))
envelope_of_list (a ∷ rest) = ((λ e. absurd cc), (λ e. absurd (some_there (length rest) e)))

there_from : (n m : ℕ) → suc m ≤ n → 0 < n
there_from n m h = omega (arith, h)

-- each ring, and each element of a MultiLineString, of a valid geometry has positions,
-- so only an empty geometry is without envelope
pub envelope_is_absent_where_empty : EnvelopeIsAbsentWhereEmpty
envelope_is_absent_where_empty (Geometry.Point None) valid = ((λ e. refl), (λ e. refl))
envelope_is_absent_where_empty (Geometry.Point (Some p)) valid = ((λ e. absurd cc), (λ e. absurd (true≢false (sym e))))
envelope_is_absent_where_empty (Geometry.MultiPoint ps) valid = let k = envelope_of_list ps in let same = ap envelope_of_positions (append-nil ps) in ((λ e. k.0 (sym same ∙ e)), (λ e. same ∙ k.1 e))
envelope_is_absent_where_empty (Geometry.LineString ps) valid = let k = envelope_of_list ps in let same = ap envelope_of_positions (append-nil ps) in ((λ e. k.0 (sym same ∙ e)), (λ e. same ∙ k.1 e))
envelope_is_absent_where_empty (Geometry.MultiLineString ls) valid = envelope_of_lists ls (λ line c. there_from (length line) 1 ((multi_line_string_is_valid ls).0 valid line c))
envelope_is_absent_where_empty (Geometry.Polygon rs) valid = envelope_of_lists rs (λ ring c. there_from (length ring) 3 (((polygon_is_valid rs).0 valid).long ring c))
envelope_is_absent_where_empty (Geometry.MultiPolygon es) valid = envelope_of_lists (joined_rings es)
    (λ ring c. let p = place_of (joined_rings es) ring c in let k = ring_at es p.0 ring p.1 in there_from (length ring) 3 ((polygons_are_made (Geometry.MultiPolygon es) valid k.0 k.1).long ring k.2))
