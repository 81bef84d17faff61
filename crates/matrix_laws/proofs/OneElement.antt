-- Each element of a valid area is a valid polygon, and two elements share no point.
use Rattle.std.proofs.Common.{ℕ, zero, suc, ◌+◌, ◌≡◌, inl, inr, refl, sym, ap, subst, ◌∙◌, List, [], ◌∷◌, ◌++◌, Some, slice_get, Contains, length, arith, zero-add, add-zero}
use Rattle.basics.proofs.Lists.{behind as place_right, found_in_front}
use Rattle.basics.proofs.Numbers.{less_not_same}
use Rattle.geometry_model.specs.Points.{Position}
use Rattle.geometry_model.specs.Geometries.{Geometry, Polygon, elements, joined_rings}
use Rattle.geometry_model.specs.Validity.{Element, elements_from, IsValid}
use Rattle.geometry_model.specs.declared.validity_faults.ValidityFault.TheVariants.{TooFewPoints, RingNotClosed, RingNotSimple, RingsMeet, HoleOutside, HolesNested, ElementsMeet, ElementInside}
use Rattle.geometry_laws.proofs.Each.{Among}
use Rattle.geometry_laws.proofs.Cuts.{contains_of_among, among_from_contains}

-- ---- places in joined lists
-- ---- the number of an element's first ring, and the places of its rings among all
pub record Numbered (rs : List (List Position)) (first : ℕ) (es : List (List (List Position))) : Type 0 where
  pub before : ℕ
  pub among : Among (record { first = first + before; rings = rs }) (elements_from first es)
  pub there : (k : ℕ) (r : List Position) → slice_get rs k ≡ Some r → slice_get (joined_rings es) (before + k) ≡ Some r

abbrev element_at : ℕ → List (List Position) → Element
element_at n rs = record { first = n; rings = rs }

-- an element's first ring has the number of all rings before it, and its k-th ring lies k places later among all rings
pub numbered : (rs : List (List Position)) (first : ℕ) (es : List (List (List Position))) → Among rs es → Numbered rs first es
numbered rs first [] a = absurd a
numbered rs first (d ∷ es) (inl e) = record {
  before = 0;
  among = inl (ap (λ n. element_at n rs) (add-zero first) ∙ ap (element_at first) e);
  there = λ k r g. ap (slice_get (d ++ joined_rings es)) (zero-add k) ∙ found_in_front d (joined_rings es) k r (sym (ap (λ q. slice_get q k) e) ∙ g);
}
numbered rs first (d ∷ es) (inr a) = go (numbered rs (first + length d) es a)
  where
    shifted : (n l b : ℕ) → n + (l + b) ≡ n + l + b
    shifted n l b = omega arith

    grouped : (l b k : ℕ) → l + b + k ≡ l + (b + k)
    grouped l b k = omega arith

    go : Numbered rs (first + length d) es → Numbered rs first (d ∷ es)
    go n = record {
      before = length d + n.before;
      among = inr (subst (λ m. Among (element_at m rs) (elements_from (first + length d) es)) (sym (shifted first (length d) n.before)) n.among);
      there = λ k r g. ap (slice_get (d ++ joined_rings es)) (grouped (length d) n.before k) ∙ place_right d (joined_rings es) (n.before + k) ∙ n.there k r g;
    }

-- ---- a polygon alone
pub only : {X : Type 0} (x y : X) → Among x (y ∷ []) → x ≡ y
only x y (inl e) = e
only x y (inr a) = absurd a

-- a polygon alone has one element: its own rings
rings_of : (e : Element) (rs : List (List Position)) → Contains (elements_from 0 (rs ∷ [])) e → e.rings ≡ rs
rings_of e rs c = ap (λ (d : Element). d.rings) (only e (element_at 0 rs) (among_from_contains (element_at 0 rs ∷ []) e c))

-- a list of one has no elements at two different places, so a polygon has no fault of two elements
pub no_pair : {X : Type 0} (x d e : X) (i j : ℕ) → (i ≡ j → ⊥) → slice_get (x ∷ []) i ≡ Some d → slice_get (x ∷ []) j ≡ Some e → ⊥
no_pair x d e zero zero n g h = n refl
no_pair x d e (suc i) j n g h = absurd (cc)
no_pair x d e zero (suc j) n g h = absurd (cc)

-- ---- the faults of a polygon are faults of the area that it is an element of
-- each fault of an element would be one of the area, its rings numbered from that of the element's first ring; there is none
pub element_is_valid : (g : Geometry) → IsValid g → (rs : List (List Position)) → Among rs (elements g) → IsValid (Polygon rs)
element_is_valid (Geometry.Point o) v rs a = absurd a
element_is_valid (Geometry.MultiPoint qs) v rs a = absurd a
element_is_valid (Geometry.LineString l) v rs a = absurd a
element_is_valid (Geometry.MultiLineString ls) v rs a = absurd a
element_is_valid (Geometry.Polygon qs) v rs a = subst (λ q. IsValid (Polygon q)) (sym (only rs qs a)) v
element_is_valid (Geometry.MultiPolygon es) v rs a = of (numbered rs 0 es a)
  where
    of : Numbered rs 0 es → IsValid (Polygon rs)
    of n (TooFewPoints i) (part, g, s) = v (TooFewPoints (n.before + i)) (part, n.there i part g, s)
    of n (RingNotClosed i) (ring, g, s) = v (RingNotClosed (n.before + i)) (ring, n.there i ring g, s)
    of n (RingNotSimple i) (ring, g, s) = v (RingNotSimple (n.before + i)) (ring, n.there i ring g, s)
    of n (RingsMeet i j) (e, k, l, r, s, c, less, at, behind, share) = v (RingsMeet (0 + n.before + k) (0 + n.before + l))
        (element_at (0 + n.before) rs, k, l, r, s, contains_of_among _ _ n.among, less, (refl, subst (λ q. slice_get q k ≡ Some r) (rings_of e rs c) at.1), (refl, subst (λ q. slice_get q l ≡ Some s) (rings_of e rs c) behind.1), share)
    of n (HoleOutside i) (e, k, outer, hole, c, some, at, behind, out) = v (HoleOutside (0 + n.before + k))
        (element_at (0 + n.before) rs, k, outer, hole, contains_of_among _ _ n.among, some, subst (λ q. slice_get q 0 ≡ Some outer) (rings_of e rs c) at, (refl, subst (λ q. slice_get q k ≡ Some hole) (rings_of e rs c) behind.1), out)
    of n (HolesNested i j) (e, k, l, r, s, c, some, less, at, behind, nested) = v (HolesNested (0 + n.before + k) (0 + n.before + l))
        (element_at (0 + n.before) rs, k, l, r, s, contains_of_among _ _ n.among, some, less, (refl, subst (λ q. slice_get q k ≡ Some r) (rings_of e rs c) at.1), (refl, subst (λ q. slice_get q l ≡ Some s) (rings_of e rs c) behind.1), nested)
    of n (ElementsMeet i j) (d, e, less, g, h, share) = no_pair rs d e i j (less_not_same i j less) g h
    of n (ElementInside i j) (d, e, other, g, h, within) = no_pair rs d e i j other g h
