-- The polygons of an area at their places, and their rings among all rings.
use Rattle.std.proofs.Common.{◌≡◌, ◌⊎◌, inl, inr, ℕ, zero, suc, ◌+◌, ◌<◌, List, [], ◌∷◌, ◌++◌, length, Contains, Some, slice_get, slice_index_or, refl, ap, ◌∙◌, zero-add, zero-lt-suc, le_of_suc-le-suc, arith}
use Rattle.basics.proofs.Lists.{behind, found_in_front, contains_later, contains_at}
use Rattle.geometry_model.specs.Points.{Position}
use Rattle.geometry_model.specs.Geometries.{joined_rings}
use Rattle.geometry_model.specs.Validity.{Element, elements_from}

-- ---- an element of a list and its place
-- ---- two lists one behind the other
-- what is in two lists together is in the first or in the second
either : {A : Type 0} (xs ys : List A) (i : ℕ) (r : A) → slice_get (xs ++ ys) i ≡ Some r → (slice_get xs i ≡ Some r) ⊎ ((p : ℕ) × (slice_get ys p ≡ Some r))
either [] ys i r e = inr (i, e)
either (x ∷ xs) ys zero r e = inl e
either (x ∷ xs) ys (suc i) r e = either xs ys i r e

-- ---- a polygon among the numbered ones, and its rings among all rings
pub record Placed (first : ℕ) (polygons : List (List (List Position))) (rings : List (List Position)) : Type 0 where
  pub element : Element
  pub contained : Contains (elements_from first polygons) element
  pub same : element.rings ≡ rings
  pub offset : ℕ
  pub joined : (p : ℕ) (r : List Position) → slice_get rings p ≡ Some r → slice_get (joined_rings polygons) (offset + p) ≡ Some r

-- a polygon is among the numbered ones, and its rings follow one another among all rings from some place on
pub placed : (first : ℕ) (polygons : List (List (List Position))) (n : ℕ) (rings : List (List Position)) → slice_get polygons n ≡ Some rings → Placed first polygons rings
placed first [] n rings e = absurd cc
placed first (x ∷ xs) zero rings e = let same : x ≡ rings = cc in record {
  element = record { first = first; rings = x };
  contained = (0, zero-lt-suc (length (elements_from (first + length x) xs)), refl);
  same = same;
  offset = 0;
  joined = λ p r h. ap (slice_get (x ++ joined_rings xs)) (zero-add p) ∙ found_in_front x (joined_rings xs) p r (ap (λ (l : List (List Position)). slice_get l p) same ∙ h);
}
placed first (x ∷ xs) (suc n) rings e = let k = placed (first + length x) xs n rings e in record {
  element = k.element;
  contained = contains_later (record { first = first; rings = x }) (elements_from (first + length x) xs) k.element k.contained;
  same = k.same;
  offset = length x + k.offset;
  joined = λ p r h. ap (slice_get (x ++ joined_rings xs)) (regrouped (length x) k.offset p) ∙ (behind x (joined_rings xs) (k.offset + p) ∙ k.joined p r h);
}
  where
    regrouped : (a b p : ℕ) → (a + b) + p ≡ a + (b + p)
    regrouped a b p = omega arith

-- a numbered polygon is one of the polygons
numbered_at : (first : ℕ) (polygons : List (List (List Position))) (e : Element) (k : ℕ) → k < length (elements_from first polygons) → slice_index_or (elements_from first polygons) k e ≡ e → Contains polygons e.rings
numbered_at first [] e k h same = absurd (omega (arith, h))
numbered_at first (x ∷ xs) e zero h same = (0, zero-lt-suc (length xs), ap (λ (f : Element). f.rings) same)
numbered_at first (x ∷ xs) e (suc k) h same = contains_later x xs e.rings (numbered_at (first + length x) xs e k (le_of_suc-le-suc h) same)

pub of_numbered : (first : ℕ) (polygons : List (List (List Position))) (e : Element) → Contains (elements_from first polygons) e → Contains polygons e.rings
of_numbered first polygons e c = numbered_at first polygons e c.0 c.1 c.2

-- each of all rings is a ring of one of the polygons
pub ring_at : (polygons : List (List (List Position))) (i : ℕ) (r : List Position) → slice_get (joined_rings polygons) i ≡ Some r → (rings : List (List Position)) × Contains polygons rings × Contains rings r
ring_at [] i r e = absurd cc
ring_at (x ∷ xs) i r e = go (either x (joined_rings xs) i r e) (ring_at xs)
  where
    go : (slice_get x i ≡ Some r) ⊎ ((p : ℕ) × (slice_get (joined_rings xs) p ≡ Some r))
        → ((j : ℕ) (s : List Position) → slice_get (joined_rings xs) j ≡ Some s → (rings : List (List Position)) × Contains xs rings × Contains rings s)
        → (rings : List (List Position)) × Contains (x ∷ xs) rings × Contains rings r
    go (inl h) later = (x, (0, zero-lt-suc (length xs), refl), contains_at x i r h)
    go (inr h) later = let k = later h.0 r h.1 in (k.0, contains_later x xs k.0 k.1, k.2)
