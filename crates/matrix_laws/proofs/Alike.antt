-- All points strictly between the ends of a gap lie in the same part, and so does an end that is on no edge.
use Rattle.std.proofs.Common.{ℕ, zero, suc, ◌+◌, ◌<◌, ℤ, pos, ◌+ℤ◌, ◌-ℤ◌, ◌*ℤ◌, ◌≡◌, ◌⊎◌, inl, inr, Bool, true, false, refl, sym, ap, ◌∙◌, List, [], ◌∷◌, All}
use Rattle.std.specs.List.{list_any}
use Rattle.std.specs.declared.cmp.Ordering.{Ordering}
use Rattle.std.specs.declared.cmp.Ordering.TheVariants.{Less, Equal, Greater}
use Rattle.geometry_model.specs.Points.{Point, IsPoint, compare, same_point}
use Rattle.geometry_model.specs.Geometries.{Edge, Geometry, edges, rings}
use Rattle.geometry_model.specs.Sides.{on}
use Rattle.geometry_model.specs.Dimensions.{weighted}
use Rattle.basics.proofs.Ring.{solve, var, lit, ◌⊕◌, ◌⊖◌, ◌⊗◌}
use Rattle.basics.proofs.Signs.{strict_plus_plus}
use Rattle.basics.proofs.Bools.{not_both}
use Rattle.basics.proofs.Orders.{next_positive}
use Rattle.geometry_laws.specs.RingLaws.{IsClosed, Misses}
use Rattle.geometry_laws.specs.PieceLaws.{HasClosedRings}
use Rattle.geometry_laws.proofs.Plane.{right}
use Rattle.geometry_laws.proofs.Each.{Each, Among, each_at, each_of, Passing, some_passed, none_passed}
use Rattle.geometry_laws.proofs.Scaling.{same_from}
use Rattle.geometry_laws.proofs.PointOrder.{equal_is_same}
use Rattle.geometry_laws.proofs.Respect.{compare_respects, on_respects}
use Rattle.geometry_laws.proofs.RingParity.{each_from_all}
use Rattle.geometry_laws.proofs.Lines.{weighted_is_point}
use Rattle.geometry_laws.proofs.Triangles.{above_kept}
use Rattle.geometry_laws.proofs.LineOrder.{up, Lex, lex_of_less, less_of_lex, before_sum, after_sum}
use Rattle.geometry_laws.proofs.Cuts.{contains_of_among, turn_less}
use Rattle.geometry_laws.proofs.CoverTheorems.{all_from_each}
use Rattle.matrix_laws.specs.Gaps.{IsBetween, IsClear, IsShared, IsGap, IsWithin, mostly}
use Rattle.matrix_laws.proofs.Between.{on_weighted, between_sum, compare_respects_last}
use Rattle.matrix_laws.proofs.Shared.{span_of_gap, clear_or_shared, point_shares, shared_holds_ends}
use Rattle.matrix_laws.proofs.Mostly.{own_edges_are_mostly, sides_off_edges}

-- ---- along a stretch that misses all edges
-- a stretch that misses all edges crosses none of them, so both its ends mostly lie alike
stays : (g : Geometry) → HasClosedRings g → (x y : Point) → IsPoint x → IsPoint y → Each (λ f. on f x ≡ false) (edges g) → Each (λ f. on f y ≡ false) (edges g) → Each (Misses x y) (edges g) → mostly g x ≡ mostly g y
stays g c x y hx hy h k m = sym ((sides_off_edges g x hx (all_from_each (λ f. on f x ≡ false) (edges g) h)).1)
    ∙ above_kept g x y hx hy (each_from_all IsClosed (rings g) c) m
    ∙ (sides_off_edges g y hy (all_from_each (λ f. on f y ≡ false) (edges g) k)).1

-- ---- strictly between the ends
-- an edge that misses one point of a gap holds none of them
clear_by : (e f : Edge) (p q x : Point) → IsClear e p q f ⊎ IsShared e p q f → IsBetween e p q x → on f x ≡ false → IsClear e p q f
clear_by e f p q x (inl c) i n = c
clear_by e f p q x (inr s) i n = absurd (not_both (on f x) (s.1 x i) n)

-- an edge that holds the one point holds both, and they are on own edges; where none does, the stretch between misses all
pub gap_is_alike : (b : Geometry) → HasClosedRings b → (e : Edge) (p q : Point) → IsGap e (edges b) p q → (x y : Point) → IsBetween e p q x → IsBetween e p q y → mostly b x ≡ mostly b y
gap_is_alike b c e p q g x y i j = decide (list_any (λ f. on f x) (edges b)) refl
  where
    held : Passing (λ f. on f x) (edges b) → mostly b x ≡ mostly b y
    held h = own_edges_are_mostly b h.found (contains_of_among h.found (edges b) h.among) x h.passes
        ∙ sym (own_edges_are_mostly b h.found (contains_of_among h.found (edges b) h.among) y
        ((point_shares e (edges b) p q x h.found g h.among i h.passes).1 y j))

    clear : Each (λ f. on f x ≡ false) (edges b) → (f : Edge) → Among f (edges b) → IsClear e p q f
    clear h f m = clear_by e f p q x (clear_or_shared e (edges b) p q f g m) i (each_at (λ d. on d x ≡ false) (edges b) f h m)

    free : Each (λ f. on f x ≡ false) (edges b) → mostly b x ≡ mostly b y
    free h = stays b c x y i.is_point j.is_point h
        (each_of (λ f. on f y ≡ false) (edges b) (λ f m. clear h f m y j))
        (each_of (Misses x y) (edges b) (λ f m k n l. clear h f m (weighted k x n y) (between_sum e p q x y k n l i j)))

    decide : (t : Bool) → list_any (λ f. on f x) (edges b) ≡ t → mostly b x ≡ mostly b y
    decide true h = held (some_passed (λ f. on f x) (edges b) h)
    decide false h = free (none_passed (λ f. on f x) (edges b) h)

-- ---- from an end inwards
-- a sum in which the other weight is 0 is the point itself
alone : (m : ℕ) (x y : Point) → same_point (weighted m x 0 y) x ≡ true
alone m x y = same_from (weighted m x 0 y) x (coordinate x.X y.X) (coordinate x.Y y.Y)
  where
    coordinate : (a b : ℤ) → (pos m *ℤ a +ℤ pos 0 *ℤ b) *ℤ x.W ≡ a *ℤ (pos m *ℤ x.W +ℤ pos 0 *ℤ y.W)
    coordinate a b = solve (pos m ∷ a ∷ b ∷ x.W ∷ y.W ∷ []) ((var 0 ⊗ var 1 ⊕ lit (pos 0) ⊗ var 2) ⊗ var 3) (var 1 ⊗ (var 0 ⊗ var 3 ⊕ lit (pos 0) ⊗ var 4)) tt

part_of : (n : ℕ) (s t : ℤ) → Lex s t → Lex (pos (suc n) *ℤ s) (pos (suc n) *ℤ t)
part_of n s t (inl h) = inl (strict_plus_plus (pos (suc n)) s (next_positive n) h)
part_of n s t (inr h) = inr (ap (λ (z : ℤ). pos (suc n) *ℤ z) h.0 ∙ solve (pos (suc n) ∷ []) (var 0 ⊗ lit (pos 0)) (lit (pos 0)) tt, strict_plus_plus (pos (suc n)) t (next_positive n) h.1)

carry : (s t s' t' : ℤ) → s ≡ s' → t ≡ t' → Lex s' t' → Lex s t
carry s t s' t' e f l = rw (e, f) l

-- a sum of x and what lies after x lies after x, where the weight of the other isn't 0
forth : (x : Point) (m n : ℕ) (y : Point) → compare x y ≡ Less → compare x (weighted m x (suc n) y) ≡ Less
forth x m n y h = less_of_lex x (weighted m x (suc n) y) (carry _ _ _ _ (linear x.X x.W y.X y.W) (linear x.Y x.W y.Y y.W) (part_of n (right x y) (up x y) (lex_of_less x y h)))
  where
    linear : (a w b v : ℤ) → (pos m *ℤ a +ℤ pos (suc n) *ℤ b) *ℤ w -ℤ a *ℤ (pos m *ℤ w +ℤ pos (suc n) *ℤ v) ≡ pos (suc n) *ℤ (b *ℤ w -ℤ a *ℤ v)
    linear a w b v = solve (a ∷ w ∷ b ∷ v ∷ pos m ∷ pos (suc n) ∷ []) ((var 4 ⊗ var 0 ⊕ var 5 ⊗ var 2) ⊗ var 1 ⊖ var 0 ⊗ (var 4 ⊗ var 1 ⊕ var 5 ⊗ var 3)) (var 5 ⊗ (var 2 ⊗ var 1 ⊖ var 0 ⊗ var 3)) tt

-- and before x where the other lies before it
back : (x : Point) (m n : ℕ) (y : Point) → compare y x ≡ Less → compare (weighted m x (suc n) y) x ≡ Less
back x m n y h = less_of_lex (weighted m x (suc n) y) x (carry _ _ _ _ (linear x.X x.W y.X y.W) (linear x.Y x.W y.Y y.W) (part_of n (right y x) (up y x) (lex_of_less y x h)))
  where
    linear : (a w b v : ℤ) → a *ℤ (pos m *ℤ w +ℤ pos (suc n) *ℤ v) -ℤ (pos m *ℤ a +ℤ pos (suc n) *ℤ b) *ℤ w ≡ pos (suc n) *ℤ (a *ℤ v -ℤ b *ℤ w)
    linear a w b v = solve (a ∷ w ∷ b ∷ v ∷ pos m ∷ pos (suc n) ∷ []) (var 0 ⊗ (var 4 ⊗ var 1 ⊕ var 5 ⊗ var 3) ⊖ (var 4 ⊗ var 0 ⊕ var 5 ⊗ var 2) ⊗ var 1) (var 5 ⊗ (var 0 ⊗ var 3 ⊖ var 2 ⊗ var 1)) tt

-- where a point lies to the ends of the gap
pub data Applies (e : Edge) (p q x : Point) : Type 0 where
  AtLesser : same_point p x ≡ true → Applies e p q x
  AtGreater : same_point x q ≡ true → Applies e p q x
  Amid : IsBetween e p q x → Applies e p q x

pub applies : (e : Edge) (p q x : Point) → IsPoint p → IsPoint q → IsPoint x → on e x ≡ true → IsWithin (record { lesser = p; greater = q }) x → Applies e p q x
applies e p q x hp hq hx h w = go (compare p x) refl (compare x q) refl
  where
    go : (t : Ordering) → compare p x ≡ t → (u : Ordering) → compare x q ≡ u → Applies e p q x
    go Equal k u l = AtLesser ((equal_is_same p x).0 k)
    go Greater k u l = absurd (w.not_before (turn_less p x k))
    go Less k Equal l = AtGreater ((equal_is_same x q).0 l)
    go Less k Greater l = absurd (w.not_after (turn_less x q l))
    go Less k Less l = Amid (record { is_point = hx; is_on = h; after = k; before = l })

-- a shared edge holds each point from the one end to the other
holds : (e f : Edge) (fs : List Edge) (p q x : Point) → IsGap e fs p q → IsPoint x → IsShared e p q f → Applies e p q x → on f x ≡ true
holds e f fs p q x g hx s (AtLesser k) = sym (on_respects f p x g.lesser_is_point hx k) ∙ (shared_holds_ends e f p q (span_of_gap e fs p q g) s).0
holds e f fs p q x g hx s (AtGreater k) = on_respects f x q hx g.greater_is_point k ∙ (shared_holds_ends e f p q (span_of_gap e fs p q g) s).1
holds e f fs p q x g hx s (Amid i) = s.1 x i

-- what lies between an end, or a point between, and a point between lies between
inwards : (e : Edge) (fs : List Edge) (p q x y : Point) → IsGap e fs p q → IsPoint x → on e x ≡ true → IsBetween e p q y → (m n : ℕ) → 0 < m + suc n → Applies e p q x → IsBetween e p q (weighted m x (suc n) y)
inwards e fs p q x y g hx h j m n l (Amid i) = between_sum e p q x y m (suc n) l i j
inwards e fs p q x y g hx h j m n l (AtLesser k) = record {
  is_point = weighted_is_point m x (suc n) y hx j.is_point l;
  is_on = on_weighted e x y m (suc n) hx j.is_point h j.is_on;
  after = compare_respects (weighted m x (suc n) y) p x g.lesser_is_point hx k ∙ forth x m n y (sym (compare_respects y p x g.lesser_is_point hx k) ∙ j.after);
  before = before_sum q m x (suc n) y l (sym (compare_respects q p x g.lesser_is_point hx k) ∙ g.in_order) j.before;
}
inwards e fs p q x y g hx h j m n l (AtGreater k) = record {
  is_point = weighted_is_point m x (suc n) y hx j.is_point l;
  is_on = on_weighted e x y m (suc n) hx j.is_point h j.is_on;
  after = after_sum p m x (suc n) y l (compare_respects_last p x q hx g.greater_is_point k ∙ g.in_order) j.after;
  before = sym (compare_respects_last (weighted m x (suc n) y) x q hx g.greater_is_point k) ∙ back x m n y (compare_respects_last y x q hx g.greater_is_point k ∙ j.before);
}

-- an edge that held a point on the way in would hold the end too, so the stretch from the end inwards misses all edges
pub gap_end_is_alike : (b : Geometry) → HasClosedRings b → (e : Edge) (p q : Point) → IsGap e (edges b) p q → (x y : Point) → IsBetween e p q y → IsPoint x → on e x ≡ true → IsWithin (record { lesser = p; greater = q }) x
    → All (λ f. on f x ≡ false) (edges b) → (mostly b x ≡ mostly b y) × All (λ f. on f y ≡ false) (edges b)
gap_end_is_alike b c e p q g x y j hx h w off = (
  stays b c x y hx j.is_point off_x off_y (each_of (Misses x y) (edges b) (λ f m. misses f m)),
  all_from_each (λ f. on f y ≡ false) (edges b) off_y,
)
  where
    place : Applies e p q x
    place = applies e p q x g.lesser_is_point g.greater_is_point hx h w

    off_x : Each (λ f. on f x ≡ false) (edges b)
    off_x = each_from_all (λ f. on f x ≡ false) (edges b) off

    clear_of : (f : Edge) → on f x ≡ false → IsClear e p q f ⊎ IsShared e p q f → IsClear e p q f
    clear_of f n (inl k) = k
    clear_of f n (inr s) = absurd (not_both (on f x) (holds e f (edges b) p q x g hx s place) n)

    clear : (f : Edge) → Among f (edges b) → IsClear e p q f
    clear f m = clear_of f (each_at (λ d. on d x ≡ false) (edges b) f off_x m) (clear_or_shared e (edges b) p q f g m)

    off_y : Each (λ f. on f y ≡ false) (edges b)
    off_y = each_of (λ f. on f y ≡ false) (edges b) (λ f m. clear f m y j)

    misses : (f : Edge) → Among f (edges b) → Misses x y f
    misses f m k zero l = on_respects f (weighted k x 0 y) x (weighted_is_point k x 0 y hx j.is_point l) hx (alone k x y) ∙ each_at (λ d. on d x ≡ false) (edges b) f off_x m
    misses f m k (suc n) l = clear f m (weighted k x (suc n) y) (inwards e (edges b) p q x y g hx h j k n l place)
