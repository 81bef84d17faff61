-- Rings by their numbers, which count through all polygons.
use Rattle.std.proofs.Common.{◌≡◌, ◌⊎◌, inl, inr, refl, sym, ap, subst, ◌∙◌, ℕ, zero, suc, ◌+◌, ◌<◌, ◌≤◌, List, [], ◌∷◌, ◌++◌, length, Contains, Some, slice_get, append-nil, zero-add, add-one, arith}
use Rattle.geometry_model.specs.Points.{Position}
use Rattle.geometry_model.specs.Geometries.{Geometry, rings, elements, joined_rings}
use Rattle.geometry_model.specs.Validity.{Element, elements_from, numbered_elements, IsRing}
use Rattle.std.proofs.lemmas.Option.{slice_get_within, same_Some}
use Rattle.basics.proofs.Numbers.{earlier_or_last, in_order}
use Rattle.basics.proofs.Lists.{place_of, behind, in_front}
use Rattle.witnesses.specs.Numbers.{AreNumbersAround, IsNumberOfNone}

-- ---- two lists together
-- ---- an element of a list and its place
-- ---- numbers of polygons' rings
-- how many rings these many of the first polygons have
abbrev pub count_before : List (List (List Position)) → ℕ → ℕ
count_before polygons zero = 0
count_before [] (suc n) = 0
count_before (x ∷ xs) (suc n) = length x + count_before xs n

regrouped : (a b c : ℕ) → (a + b) + c ≡ a + (b + c)
regrouped a b c = omega arith

pub numbered_is : (start : ℕ) (polygons : List (List (List Position))) (m : ℕ) (rings : List (List Position)) → slice_get polygons m ≡ Some rings
    → slice_get (elements_from start polygons) m ≡ Some (record { first = start + count_before polygons m; rings = rings })
numbered_is start [] m rings e = absurd cc
numbered_is start (x ∷ xs) zero rings e = let same : x ≡ rings = cc in let from : start ≡ start + 0 = omega arith in ap Some (λ i. record { first = from i; rings = same i })
numbered_is start (x ∷ xs) (suc m) rings e = numbered_is (start + length x) xs m rings e ∙ ap Some (λ i. record { first = (regrouped start (length x) (count_before xs m)) i; rings = rings })

numbered_from : (start : ℕ) (polygons : List (List (List Position))) (m : ℕ) (e : Element) → slice_get (elements_from start polygons) m ≡ Some e → (slice_get polygons m ≡ Some e.rings) × (e.first ≡ start + count_before polygons m)
numbered_from start [] m e h = absurd cc
numbered_from start (x ∷ xs) zero e h = let same = same_Some (record { first = start; rings = x }) e h in let from : start ≡ e.first = ap (λ (f : Element). f.first) same in (ap (λ (f : Element). Some f.rings) same, omega (arith, from))
numbered_from start (x ∷ xs) (suc m) e h = let k = numbered_from (start + length x) xs m e h in (k.0, k.1 ∙ regrouped start (length x) (count_before xs m))

next_count : (polygons : List (List (List Position))) (m : ℕ) (rings : List (List Position)) → slice_get polygons m ≡ Some rings → count_before polygons (suc m) ≡ count_before polygons m + length rings
next_count [] m rings e = absurd cc
next_count (x ∷ xs) zero rings e = let same : x ≡ rings = cc in let long : length x ≡ length rings = ap (length {A = List Position}) same in omega (arith, long)
next_count (x ∷ xs) (suc m) rings e = let k = next_count xs m rings e in omega (arith, k)

pub counts_more : (polygons : List (List (List Position))) (m : ℕ) (rings : List (List Position)) → slice_get polygons m ≡ Some rings → count_before polygons m + length rings ≡ count_before polygons (m + 1)
counts_more polygons m rings e = sym (next_count polygons m rings e) ∙ ap (count_before polygons) (sym (add-one m))

-- ---- a polygon's rings among all
ring_among : (polygons : List (List (List Position))) (m : ℕ) (rings : List (List Position)) (k : ℕ) → slice_get polygons m ≡ Some rings → k < length rings → slice_get (joined_rings polygons) (count_before polygons m + k) ≡ slice_get rings k
ring_among [] m rings k e h = absurd cc
ring_among (x ∷ xs) zero rings k e h = let same : x ≡ rings = cc in
    ap (slice_get (x ++ joined_rings xs)) (zero-add k) ∙ (in_front x (joined_rings xs) k (subst (λ (l : List (List Position)). k < length l) (sym same) h) ∙ ap (λ (l : List (List Position)). slice_get l k) same)
ring_among (x ∷ xs) (suc m) rings k e h = ap (slice_get (x ++ joined_rings xs)) (regrouped (length x) (count_before xs m) k) ∙ (behind x (joined_rings xs) (count_before xs m + k) ∙ ring_among xs m rings k e h)

all_joined : (g : Geometry) → rings g ≡ joined_rings (elements g)
all_joined (Geometry.Point p) = refl
all_joined (Geometry.MultiPoint ps) = refl
all_joined (Geometry.LineString ps) = refl
all_joined (Geometry.MultiLineString ls) = refl
all_joined (Geometry.Polygon rs) = sym (append-nil rs)
all_joined (Geometry.MultiPolygon es) = refl

ring_of_polygon : (g : Geometry) (m : ℕ) (e : Element) (k : ℕ) → slice_get (numbered_elements g) m ≡ Some e → k < length e.rings → slice_get (rings g) (e.first + k) ≡ slice_get e.rings k
ring_of_polygon g m e k h within = let at = numbered_from 0 (elements g) m e h in let first : e.first + k ≡ count_before (elements g) m + k = omega (arith, at.1) in
    ap (λ (l : List (List Position)). slice_get l (e.first + k)) (all_joined g) ∙ (ap (slice_get (joined_rings (elements g))) first ∙ ring_among (elements g) m e.rings k at.0 within)

-- a ring of a polygon is the ring with its number
pub ring_there : (g : Geometry) (e : Element) (k n : ℕ) (r : List Position) → Contains (numbered_elements g) e → IsRing e k n r → slice_get (rings g) n ≡ Some r
ring_there g e k n r c is = let at = place_of (numbered_elements g) e c in ap (slice_get (rings g)) is.0 ∙ (ring_of_polygon g at.0 e k at.1 (slice_get_within e.rings k r is.1) ∙ is.1)

-- ---- the polygon that has a number
counted_from : (start : ℕ) (polygons : List (List (List Position))) (m : ℕ) (e : Element) → slice_get (elements_from start polygons) m ≡ Some e → start ≤ e.first
counted_from start polygons m e h = let at = numbered_from start polygons m e h in omega (arith, at.1)

ordered : (start : ℕ) (polygons : List (List (List Position))) (m n : ℕ) (d e : Element) → m < n → slice_get (elements_from start polygons) m ≡ Some d → slice_get (elements_from start polygons) n ≡ Some e → d.first + length d.rings ≤ e.first
ordered start [] m n d e h hd he = absurd cc
ordered start (x ∷ xs) zero zero d e h hd he = absurd (omega (arith, h))
ordered start (x ∷ xs) zero (suc n) d e h hd he = subst (λ (f : Element). f.first + length f.rings ≤ e.first) (same_Some (record { first = start; rings = x }) d hd) (counted_from (start + length x) xs n e he)
ordered start (x ∷ xs) (suc m) zero d e h hd he = absurd (omega (arith, h))
ordered start (x ∷ xs) (suc m) (suc n) d e h hd he = ordered (start + length x) xs m n d e (omega (arith, h)) hd he

first_of_same : (first count : ℕ) (e : Element) (rings : List (List Position)) → record { first = first; rings = rings } ≡ e → count ≡ length rings → (e.first ≡ first) × (length e.rings ≡ count)
first_of_same first count e rings same counted = (sym (ap (λ (f : Element). f.first) same), sym (counted ∙ ap (λ (f : Element). length f.rings) same))

-- no other polygon has the number
pub one_polygon : (g : Geometry) (number first count : ℕ) → AreNumbersAround g number first count → (e : Element) (k : ℕ) (r : List Position) → Contains (numbered_elements g) e → IsRing e k number r → (e.first ≡ first) × (length e.rings ≡ count)
one_polygon g number first count h e k r c is = go (place_of (numbered_elements g) e c)
  where
    within : k < length e.rings
    within = slice_get_within e.rings k r is.1

    go : (m : ℕ) × (slice_get (numbered_elements g) m ≡ Some e) → (e.first ≡ first) × (length e.rings ≡ count)
    go at = by_order (in_order at.0 h.place)
      where
        by_order : (at.0 < h.place) ⊎ ((at.0 ≡ h.place) ⊎ (h.place < at.0)) → (e.first ≡ first) × (length e.rings ≡ count)
        by_order (inl less) = let below = ordered 0 (elements g) at.0 h.place e (record { first = first; rings = h.rings }) less at.1 h.numbered in absurd (omega (arith, below, within, is.0, h.from))
        by_order (inr (inl same)) = first_of_same first count e h.rings (same_Some (record { first = first; rings = h.rings }) e (sym h.numbered ∙ ap (slice_get (numbered_elements g)) (sym same) ∙ at.1)) h.counted
        by_order (inr (inr more)) = let above = ordered 0 (elements g) h.place at.0 (record { first = first; rings = h.rings }) e more h.numbered at.1 in absurd (omega (arith, above, h.counted, h.before, is.0))

-- a ring with a number of the polygon is a ring of it
pub ring_of_it : (g : Geometry) (number first count : ℕ) (h : AreNumbersAround g number first count) (k n : ℕ) (r : List Position) → n ≡ first + k → k < count → slice_get (rings g) n ≡ Some r → IsRing (record { first = first; rings = h.rings }) k n r
ring_of_it g number first count h k n r e within at = (e, sym (ring_of_polygon g h.place (record { first = first; rings = h.rings }) k h.numbered (omega (arith, within, h.counted))) ∙ (ap (slice_get (rings g)) (sym e) ∙ at))

-- ---- the polygons so far
abbrev pub NotBefore : Geometry → ℕ → ℕ → Type 0
NotBefore g number n = (m : ℕ) (e : Element) → m < n → slice_get (numbered_elements g) m ≡ Some e → e.first + length e.rings ≤ number

pub none_before : (g : Geometry) (number : ℕ) → NotBefore g number 0
none_before g number m e h is = absurd (omega (arith, h))

pub next_before : (g : Geometry) (number n first count : ℕ) (rings : List (List Position)) → NotBefore g number n → slice_get (elements g) n ≡ Some rings → first ≡ count_before (elements g) n → count ≡ length rings → first + count ≤ number → NotBefore g number (n + 1)
next_before g number n first count rings before at starts counted past m e h is = go (earlier_or_last m n h)
  where
    go : (m < n) ⊎ (m ≡ n) → e.first + length e.rings ≤ number
    go (inl less) = before m e less is
    go (inr same) = let here = first_of_same (0 + count_before (elements g) n) (length rings) e rings (same_Some (record { first = 0 + count_before (elements g) n; rings = rings }) e (sym (numbered_is 0 (elements g) n rings at) ∙ ap (slice_get (numbered_elements g)) (sym same) ∙ is)) refl in
        omega (arith, here.0, here.1, starts, counted, past)

elements_count : (start : ℕ) (polygons : List (List (List Position))) → length (elements_from start polygons) ≡ length polygons
elements_count start [] = refl
elements_count start (x ∷ xs) = ap suc (elements_count (start + length x) xs)

pub none_at_all : (g : Geometry) (number n : ℕ) → length (elements g) ≤ n → NotBefore g number n → IsNumberOfNone g number
none_at_all g number n all before e k r c is = go (place_of (numbered_elements g) e c)
  where
    go : (m : ℕ) × (slice_get (numbered_elements g) m ≡ Some e) → ⊥
    go at = let past = before at.0 e (omega (arith, all, elements_count 0 (elements g), slice_get_within (numbered_elements g) at.0 e at.1)) at.1 in omega (arith, past, is.0, slice_get_within e.rings k r is.1)

pub around : (g : Geometry) (number n first count : ℕ) (rings : List (List Position)) → slice_get (elements g) n ≡ Some rings → first ≡ count_before (elements g) n → count ≡ length rings → first ≤ number → number < first + count → AreNumbersAround g number first count
around g number n first count rings at starts counted from before = record {
  place = n;
  rings = rings;
  numbered = numbered_is 0 (elements g) n rings at ∙ ap Some (λ i. record { first = first_is i; rings = rings });
  counted = counted;
  from = from;
  before = before;
}
  where
    first_is : 0 + count_before (elements g) n ≡ first
    first_is = omega (arith, starts)
