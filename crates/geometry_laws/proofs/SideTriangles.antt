-- Just below and just above a point that no vertical edge goes through there are triangles of points that lie as the sides say.
use Rattle.std.proofs.Common.{ℕ, ◌+◌, ◌<◌, ◌≤◌, ℤ, pos, ◌+ℤ◌, ◌-ℤ◌, ◌*ℤ◌, ◌≤ℤ◌, ◌<ℤ◌, ◌≡◌, Bool, false, if◌then◌else◌, refl, sym, ap, ◌∙◌, List, [], ◌∷◌, arith}
use borrow.Author.Differences.{ints}
use Rattle.geometry_model.specs.Points.{Point, IsPoint}
use Rattle.geometry_model.specs.Geometries.{Edge, Geometry, edges, edges_of_lines, rings, joined_rings}
use Rattle.geometry_model.specs.Sides.{on}
use Rattle.geometry_model.specs.Crossings.{strictly_above, at_or_above}
use Rattle.geometry_model.specs.Dimensions.{HasTriangle, common}
use Rattle.geometry_model.specs.Labels.{above, below, edges_of_both}
use Rattle.geometry_model.specs.declared.point_sets.Location.TheVariants.{Interior, Exterior}
use Rattle.geometry_laws.specs.RingLaws.{IsClosed}
use Rattle.geometry_laws.proofs.Each.{Each, each_map, each_of, each_left, each_right, odd_count, same_parity}
use Rattle.geometry_laws.proofs.Eventually.{Eventually, both, each_eventually}
use Rattle.geometry_laws.proofs.RingParity.{parity_of_rings}
use Rattle.geometry_laws.proofs.Triangles.{marks, off_first, triangle_of_off}
use Rattle.geometry_laws.proofs.Locating.{locate_off}
use Rattle.geometry_laws.specs.CoverLaws.{IsJustBelow, NearSides, IsNotUprightAt}
use Rattle.basics.proofs.Ring.{solve, var, lit, ◌⊕◌, ◌⊖◌, ◌⊗◌}
use Rattle.basics.proofs.Signs.{strict_plus_plus, plus_plus}
use Rattle.basics.proofs.Orders.{one_not_zero, natural_weak, sum_first_positive}
use Rattle.geometry_laws.proofs.Nudge.{lifted, lifted_is_point, off_soon, down, sinks, rises}

-- where just the edges at or above s are strictly above t, what is above t is what is below s
pub below_from : (g : Geometry) (s t : Point) → Each (λ e. strictly_above e t ≡ at_or_above e s) (edges g) → above g t ≡ below g s
below_from (Geometry.Point o) s t h = refl
below_from (Geometry.MultiPoint qs) s t h = refl
below_from (Geometry.LineString l) s t h = refl
below_from (Geometry.MultiLineString ls) s t h = refl
below_from (Geometry.Polygon rs) s t h = ap (λ (b : Bool). if b then Interior else Exterior) (parity_of_rings rs t ∙ same_parity (λ e. strictly_above e t) (λ e. at_or_above e s) (edges_of_lines rs) h ∙ sym (odd_count (λ e. at_or_above e s) (edges_of_lines rs)))
below_from (Geometry.MultiPolygon es) s t h = ap (λ (b : Bool). if b then Interior else Exterior) (parity_of_rings (joined_rings es) t ∙ same_parity (λ e. strictly_above e t) (λ e. at_or_above e s) (edges_of_lines (joined_rings es)) h ∙ sym (odd_count (λ e. at_or_above e s) (edges_of_lines (joined_rings es))))

-- where just the edges strictly above s are strictly above t, what is above t is what is above s
pub above_from : (g : Geometry) (s t : Point) → Each (λ e. strictly_above e t ≡ strictly_above e s) (edges g) → above g t ≡ above g s
above_from (Geometry.Point o) s t h = refl
above_from (Geometry.MultiPoint qs) s t h = refl
above_from (Geometry.LineString l) s t h = refl
above_from (Geometry.MultiLineString ls) s t h = refl
above_from (Geometry.Polygon rs) s t h = ap (λ (b : Bool). if b then Interior else Exterior) (parity_of_rings rs t ∙ same_parity (λ e. strictly_above e t) (λ e. strictly_above e s) (edges_of_lines rs) h ∙ sym (parity_of_rings rs s))
above_from (Geometry.MultiPolygon es) s t h = ap (λ (b : Bool). if b then Interior else Exterior) (parity_of_rings (joined_rings es) t ∙ same_parity (λ e. strictly_above e t) (λ e. strictly_above e s) (edges_of_lines (joined_rings es)) h ∙ sym (parity_of_rings (joined_rings es) s))

not_zero_down : down ≡ pos 0 → ⊥
not_zero_down e = omega (arith, ints)

-- what holds of the moved point from some n on
pub record Moved (least : ℕ) (d : ℤ) (f g : Edge → Point → Bool) (ms es : List Edge) (s : Point) (n : ℕ) : Type 0 where
  pub more : least < n
  pub off : Each (λ e. on e (lifted d n s) ≡ false) ms
  pub alike : Each (λ e. f e (lifted d n s) ≡ g e s) es

-- for some n, as great as asked for, the moved point is off all marks, and f answers there as g does at s
moved_soon : (least : ℕ) (d : ℤ) (f g : Edge → Point → Bool) (ms es : List Edge) (s : Point) → (d ≡ pos 0 → ⊥) → IsPoint s → Each (IsNotUprightAt s) ms → ((e : Edge) → Eventually (λ n. f e (lifted d n s) ≡ g e s)) → (n : ℕ) × Moved least d f g ms es s n
moved_soon least d f g ms es s hd hs h k = go
    (both (λ n. Each (λ e. on e (lifted d n s) ≡ false) ms) (λ n. Each (λ e. f e (lifted d n s) ≡ g e s) es)
    (each_eventually (λ e n. on e (lifted d n s) ≡ false) ms (each_map (IsNotUprightAt s) (λ e. Eventually (λ n. on e (lifted d n s) ≡ false)) ms (λ e l. off_soon d e s hd hs l) h))
    (each_eventually (λ e n. f e (lifted d n s) ≡ g e s) es (each_of (λ e. Eventually (λ n. f e (lifted d n s) ≡ g e s)) es (λ e m. k e))))
  where
    beyond : (m n : ℕ) → m < n + (m + 1)
    beyond m n = omega arith

    behind : (m n : ℕ) → n ≤ n + (m + 1)
    behind m n = omega arith

    go : Eventually (λ n. Each (λ e. on e (lifted d n s) ≡ false) ms × Each (λ e. f e (lifted d n s) ≡ g e s) es) → (n : ℕ) × Moved least d f g ms es s n
    go v = let r : Each (λ e. on e (lifted d (v.start + (least + 1)) s) ≡ false) ms × Each (λ e. f e (lifted d (v.start + (least + 1)) s) ≡ g e s) es = v.holds (v.start + (least + 1)) (behind least v.start) in
        (v.start + (least + 1), record { more = beyond least v.start; off = r.0; alike = r.1 })

some : (m n : ℕ) → m < n → 0 < n
some m n h = omega arith

-- a little below the point is a point off all edges that lies as below says, and a triangle about that
pub lower_triangle : (a b : Geometry) → Each IsClosed (rings a) → Each IsClosed (rings b) → (s : Point) → IsPoint s → Each (IsNotUprightAt s) (marks a b) → HasTriangle (common a (below a s) b (below b s))
lower_triangle a b ca cb s hs h = go (moved_soon 0 down strictly_above at_or_above (marks a b) (edges_of_both a b) s not_zero_down hs h (λ e. sinks e s hs))
  where
    go : (n : ℕ) × Moved 0 down strictly_above at_or_above (marks a b) (edges_of_both a b) s n → HasTriangle (common a (below a s) b (below b s))
    go r = triangle_of_off a b (lifted down r.0 s) (below a s) (below b s) ca cb (lifted_is_point down r.0 s (some 0 r.0 (r.1).more) hs) ((r.1).off)
        (below_from a s (lifted down r.0 s) (each_left (λ e. strictly_above e (lifted down r.0 s) ≡ at_or_above e s) (edges a) (edges b) ((r.1).alike)))
        (below_from b s (lifted down r.0 s) (each_right (λ e. strictly_above e (lifted down r.0 s) ≡ at_or_above e s) (edges a) (edges b) ((r.1).alike)))

-- the same a little above it
pub upper_triangle : (a b : Geometry) → Each IsClosed (rings a) → Each IsClosed (rings b) → (s : Point) → IsPoint s → Each (IsNotUprightAt s) (marks a b) → HasTriangle (common a (above a s) b (above b s))
upper_triangle a b ca cb s hs h = go (moved_soon 0 (pos 1) strictly_above strictly_above (marks a b) (edges_of_both a b) s one_not_zero hs h (λ e. rises e s hs))
  where
    go : (n : ℕ) × Moved 0 (pos 1) strictly_above strictly_above (marks a b) (edges_of_both a b) s n → HasTriangle (common a (above a s) b (above b s))
    go r = triangle_of_off a b (lifted (pos 1) r.0 s) (above a s) (above b s) ca cb (lifted_is_point (pos 1) r.0 s (some 0 r.0 (r.1).more) hs) ((r.1).off)
        (above_from a s (lifted (pos 1) r.0 s) (each_left (λ e. strictly_above e (lifted (pos 1) r.0 s) ≡ strictly_above e s) (edges a) (edges b) ((r.1).alike)))
        (above_from b s (lifted (pos 1) r.0 s) (each_right (λ e. strictly_above e (lifted (pos 1) r.0 s) ≡ strictly_above e s) (edges a) (edges b) ((r.1).alike)))

-- ---- straight below and straight above
-- a point moved up or down stays on its vertical line
straight_lifted : (d : ℤ) (n : ℕ) (s : Point) → (lifted d n s).X *ℤ s.W ≡ s.X *ℤ (lifted d n s).W
straight_lifted d n s = solve (s.X ∷ s.W ∷ pos n ∷ []) ((var 2 ⊗ var 0 ⊕ lit (pos 1) ⊗ lit (pos 0)) ⊗ var 1) (var 0 ⊗ (var 2 ⊗ var 1 ⊕ lit (pos 1) ⊗ lit (pos 0))) tt

-- how much higher it is
rise : (d : ℤ) (n : ℕ) (s : Point) → (lifted d n s).Y *ℤ s.W -ℤ s.Y *ℤ (lifted d n s).W ≡ d *ℤ s.W
rise d n s = solve (s.Y ∷ s.W ∷ pos n ∷ d ∷ []) ((var 2 ⊗ var 0 ⊕ lit (pos 1) ⊗ var 3) ⊗ var 1 ⊖ var 0 ⊗ (var 2 ⊗ var 1 ⊕ lit (pos 1) ⊗ lit (pos 0))) (var 3 ⊗ var 1) tt

-- k w is less than n w w
nearer : (k n : ℕ) (w : ℤ) → k < n → pos 0 <ℤ w → (pos k *ℤ w) <ℤ ((pos n *ℤ w) *ℤ w)
nearer k n w h hw = from (pos k *ℤ w) ((pos n *ℤ w) *ℤ w) (w *ℤ ((pos n -ℤ pos k) *ℤ w +ℤ pos k *ℤ (w -ℤ pos 1)))
    (solve (pos k ∷ pos n ∷ w ∷ []) ((var 1 ⊗ var 2) ⊗ var 2 ⊖ var 0 ⊗ var 2) (var 2 ⊗ ((var 1 ⊖ var 0) ⊗ var 2 ⊕ var 0 ⊗ (var 2 ⊖ lit (pos 1)))) tt)
    (strict_plus_plus w ((pos n -ℤ pos k) *ℤ w +ℤ pos k *ℤ (w -ℤ pos 1)) hw (sum_first_positive ((pos n -ℤ pos k) *ℤ w) (pos k *ℤ (w -ℤ pos 1)) (strict_plus_plus (pos n -ℤ pos k) w (gap k n h) hw) (plus_plus (pos k) (w -ℤ pos 1) (natural_weak k) (one_less w hw))))
  where
    from : (s t r : ℤ) → t -ℤ s ≡ r → pos 0 <ℤ r → s <ℤ t
    from s t r e h = omega (arith, ints)

    gap : (k n : ℕ) → k < n → pos 0 <ℤ (pos n -ℤ pos k)
    gap k n h = omega (arith, ints)

    one_less : (w : ℤ) → pos 0 <ℤ w → pos 0 ≤ℤ (w -ℤ pos 1)
    one_less w h = omega (arith, ints)

-- moved down with an n greater than k it is straight below, nearer than 1/k
just_below : (k n : ℕ) (s : Point) → IsPoint s → k < n → IsJustBelow k (lifted down n s) s
just_below k n s hs h = record {
  straight = straight_lifted down n s;
  lower = under ((lifted down n s).Y *ℤ s.W) (s.Y *ℤ (lifted down n s).W) s.W (rise down n s) hs;
  near = close (pos k *ℤ (s.Y *ℤ (lifted down n s).W -ℤ (lifted down n s).Y *ℤ s.W)) (pos k *ℤ s.W) ((lifted down n s).W *ℤ s.W) ((pos n *ℤ s.W) *ℤ s.W)
      (ap (λ (z : ℤ). pos k *ℤ z) (drop (s.Y *ℤ (lifted down n s).W) ((lifted down n s).Y *ℤ s.W) s.W (rise down n s)))
      (solve (pos n ∷ s.W ∷ []) ((var 0 ⊗ var 1 ⊕ lit (pos 1) ⊗ lit (pos 0)) ⊗ var 1) ((var 0 ⊗ var 1) ⊗ var 1) tt) (nearer k n s.W h hs);
}
  where
    under : (x y w : ℤ) → x -ℤ y ≡ down *ℤ w → pos 0 <ℤ w → x <ℤ y
    under x y w e h = omega (arith, ints)

    drop : (x y w : ℤ) → y -ℤ x ≡ down *ℤ w → x -ℤ y ≡ w
    drop x y w e = omega (arith, ints)

    close : (a b c d : ℤ) → a ≡ b → c ≡ d → b <ℤ d → a <ℤ c
    close a b c d e f h = omega (arith, ints)

-- and moved up it is straight above, as near
just_above : (k n : ℕ) (s : Point) → IsPoint s → k < n → IsJustBelow k s (lifted (pos 1) n s)
just_above k n s hs h = record {
  straight = sym (straight_lifted (pos 1) n s);
  lower = over ((lifted (pos 1) n s).Y *ℤ s.W) (s.Y *ℤ (lifted (pos 1) n s).W) s.W (rise (pos 1) n s) hs;
  near = close (pos k *ℤ ((lifted (pos 1) n s).Y *ℤ s.W -ℤ s.Y *ℤ (lifted (pos 1) n s).W)) (pos k *ℤ s.W) (s.W *ℤ (lifted (pos 1) n s).W) ((pos n *ℤ s.W) *ℤ s.W)
      (ap (λ (z : ℤ). pos k *ℤ z) (once ((lifted (pos 1) n s).Y *ℤ s.W -ℤ s.Y *ℤ (lifted (pos 1) n s).W) s.W (rise (pos 1) n s)))
      (solve (pos n ∷ s.W ∷ []) (var 1 ⊗ (var 0 ⊗ var 1 ⊕ lit (pos 1) ⊗ lit (pos 0))) ((var 0 ⊗ var 1) ⊗ var 1) tt) (nearer k n s.W h hs);
}
  where
    over : (x y w : ℤ) → x -ℤ y ≡ pos 1 *ℤ w → pos 0 <ℤ w → y <ℤ x
    over x y w e h = omega (arith, ints)

    once : (x w : ℤ) → x ≡ pos 1 *ℤ w → x ≡ w
    once x w e = omega (arith, ints)

    close : (a b c d : ℤ) → a ≡ b → c ≡ d → b <ℤ d → a <ℤ c
    close a b c d e f h = omega (arith, ints)

-- so on either side some moved point is near enough, off all edges, and lies as the side says
pub near_sides : (g : Geometry) (s : Point) → IsPoint s → Each (IsNotUprightAt s) (marks g g) → (k : ℕ) → NearSides g s k
near_sides g s hs h k = go (moved_soon k down strictly_above at_or_above (marks g g) (edges g) s not_zero_down hs h (λ e. sinks e s hs)) (moved_soon k (pos 1) strictly_above strictly_above (marks g g) (edges g) s one_not_zero hs h (λ e. rises e s hs))
  where
    go : (n : ℕ) × Moved k down strictly_above at_or_above (marks g g) (edges g) s n → (n : ℕ) × Moved k (pos 1) strictly_above strictly_above (marks g g) (edges g) s n → NearSides g s k
    go (n, u) (m, o) = record {
      under = lifted down n s;
      over = lifted (pos 1) m s;
      under_is_point = lifted_is_point down n s (some k n u.more) hs;
      over_is_point = lifted_is_point (pos 1) m s (some k m o.more) hs;
      is_below = just_below k n s hs u.more;
      is_above = just_above k m s hs o.more;
      under_is = locate_off g (lifted down n s) (lifted_is_point down n s (some k n u.more) hs) (off_first g g (lifted down n s) (lifted_is_point down n s (some k n u.more) hs) u.off) ∙ below_from g s (lifted down n s) u.alike;
      over_is = locate_off g (lifted (pos 1) m s) (lifted_is_point (pos 1) m s (some k m o.more) hs) (off_first g g (lifted (pos 1) m s) (lifted_is_point (pos 1) m s (some k m o.more) hs) o.off) ∙ above_from g s (lifted (pos 1) m s) o.alike;
    }
