-- All points straight below a point, near enough, lie where `below` says, and all straight above it where `above` says.
use Rattle.std.proofs.Common.{ℕ, ◌+◌, ◌<◌, ℤ, pos, negsuc, ◌+ℤ◌, ◌-ℤ◌, ◌*ℤ◌, ◌≤ℤ◌, ◌<ℤ◌, int_lt, int_le, ◌≡◌, ◌⊎◌, inl, inr, Bool, true, false, ◌&&◌, refl, sym, ap, ap₂, subst, ◌∙◌, List, [], ◌∷◌, arith}
use borrow.Author.Differences.{ints}
use Rattle.geometry_model.specs.Points.{Point, IsPoint, same_point}
use Rattle.geometry_model.specs.Geometries.{Edge, Geometry, edges}
use Rattle.geometry_model.specs.Sides.{on}
use Rattle.geometry_model.specs.Crossings.{spans, side_rightward, strictly_above, at_or_above}
use Rattle.geometry_model.specs.Locations.{locate}
use Rattle.geometry_model.specs.Labels.{above, below}
use Rattle.basics.proofs.Ring.{solve, var, lit, ◌⊕◌, ◌⊖◌, ◌⊗◌}
use Rattle.basics.proofs.Signs.{strict_plus_plus, plus_plus, plus_minus, cancel_positive, zero_product, at_most_or_less, less_yes, less_no, at_most_yes, at_most_no}
use Rattle.basics.proofs.Orders.{one_not_zero, weak_positive, natural_weak, gap_positive, gap_weak, negative_flipped}
use Rattle.geometry_laws.specs.CoverLaws.{value, IsJustBelow, AreAllNear, IsNotUprightAt}
use Rattle.geometry_laws.proofs.Each.{Each, each_map, each_of}
use Rattle.geometry_laws.proofs.Scaling.{same_from}
use Rattle.geometry_laws.proofs.Respect.{locate_respects}
use Rattle.geometry_laws.proofs.RingParity.{Natural, natural}
use Rattle.geometry_laws.proofs.Lines.{value_weighted, Parted, parted, off_beyond}
use Rattle.geometry_laws.proofs.Locating.{locate_off}
use Rattle.geometry_laws.proofs.Triangles.{marks, off_first}
use Rattle.geometry_laws.proofs.Nudge.{lifted, lifted_is_point, off_by_breadth, down, spans_lifted, breadth, breadth_positive, rightward_lifted}
use Rattle.geometry_laws.proofs.SideTriangles.{below_from, above_from}

-- what holds of the point moved by m/n in the direction e, wherever m/n is small enough
record Nearly (e w : ℤ) (P : ℤ → ℕ → Type 0) : Type 0 where
  bound : ℕ
  holds : (m : ℤ) (n : ℕ) → pos 0 <ℤ m → 0 < n → (pos bound *ℤ m) <ℤ (pos n *ℤ w) → P (e *ℤ m) n

-- two things that hold near enough hold together where the point is nearer than both bounds ask
both_near : (e w : ℤ) (P Q : ℤ → ℕ → Type 0) → Nearly e w P → Nearly e w Q → Nearly e w (λ d n. P d n × Q d n)
both_near e w P Q p q = record { bound = p.bound + q.bound; holds = λ m n hm hn h. (p.holds m n hm hn (first m n hm h), q.holds m n hm hn (second m n hm h)) }
  where
    part : (x y z : ℤ) → pos 0 ≤ℤ y → (x +ℤ y) <ℤ z → x <ℤ z
    part x y z h k = omega (arith, ints)

    part_last : (x y z : ℤ) → pos 0 ≤ℤ x → (x +ℤ y) <ℤ z → y <ℤ z
    part_last x y z h k = omega (arith, ints)

    spread : (k l : ℕ) (m z : ℤ) → (pos (k + l) *ℤ m) <ℤ z → (pos k *ℤ m +ℤ pos l *ℤ m) <ℤ z
    spread k l m z h = subst (λ (x : ℤ). x <ℤ z) (solve (pos k ∷ pos l ∷ m ∷ []) ((var 0 ⊕ var 1) ⊗ var 2) (var 0 ⊗ var 2 ⊕ var 1 ⊗ var 2) tt) h

    first : (m : ℤ) (n : ℕ) → pos 0 <ℤ m → (pos (p.bound + q.bound) *ℤ m) <ℤ (pos n *ℤ w) → (pos p.bound *ℤ m) <ℤ (pos n *ℤ w)
    first m n hm h = part (pos p.bound *ℤ m) (pos q.bound *ℤ m) (pos n *ℤ w) (plus_plus (pos q.bound) m (natural_weak q.bound) (weak_positive m hm)) (spread p.bound q.bound m (pos n *ℤ w) h)

    second : (m : ℤ) (n : ℕ) → pos 0 <ℤ m → (pos (p.bound + q.bound) *ℤ m) <ℤ (pos n *ℤ w) → (pos q.bound *ℤ m) <ℤ (pos n *ℤ w)
    second m n hm h = part_last (pos p.bound *ℤ m) (pos q.bound *ℤ m) (pos n *ℤ w) (plus_plus (pos p.bound) m (natural_weak p.bound) (weak_positive m hm)) (spread p.bound q.bound m (pos n *ℤ w) h)

-- and so do finitely many
each_near : {X : Type 0} (e w : ℤ) (P : X → ℤ → ℕ → Type 0) (xs : List X) → Each (λ x. Nearly e w (P x)) xs → Nearly e w (λ d n. Each (λ x. P x d n) xs)
each_near e w P [] h = record { bound = 0; holds = λ m n hm hn k. tt }
each_near e w P (x ∷ xs) h = both_near e w (P x) (λ d n. Each (λ y. P y d n) xs) h.0 (each_near e w P xs h.1)

-- b m is less than n u, where m/n is small enough against w
at_most_some : (z : ℤ) → (k : ℕ) × (z ≤ℤ pos k)
at_most_some (pos n) = (n, omega (arith, ints))
at_most_some (negsuc n) = (0, omega (arith, ints))

-- a value above 0 outweighs what a small enough move takes from it
outweighs : (b u w m : ℤ) (k n : ℕ) → pos 0 <ℤ u → pos 0 <ℤ w → pos 0 <ℤ m → (b *ℤ w) ≤ℤ pos k → (pos k *ℤ m) <ℤ (pos n *ℤ w) → pos 0 <ℤ (pos n *ℤ u -ℤ b *ℤ m)
outweighs b u w m k n hu hw hm hk h = cancel_positive w (pos n *ℤ u -ℤ b *ℤ m) (weak_positive w hw) (sum (w *ℤ (pos n *ℤ u -ℤ b *ℤ m)) ((pos n *ℤ w) *ℤ (u -ℤ pos 1)) (pos n *ℤ w -ℤ pos k *ℤ m) ((pos k -ℤ b *ℤ w) *ℤ m)
    (solve (b ∷ u ∷ w ∷ m ∷ pos k ∷ pos n ∷ []) (var 2 ⊗ (var 5 ⊗ var 1 ⊖ var 0 ⊗ var 3)) ((var 5 ⊗ var 2) ⊗ (var 1 ⊖ lit (pos 1)) ⊕ (var 5 ⊗ var 2 ⊖ var 4 ⊗ var 3) ⊕ (var 4 ⊖ var 0 ⊗ var 2) ⊗ var 3) tt)
    (plus_plus (pos n *ℤ w) (u -ℤ pos 1) (plus_plus (pos n) w (natural_weak n) (weak_positive w hw)) (one_less u hu)) (gap_positive (pos k *ℤ m) (pos n *ℤ w) h) (plus_plus (pos k -ℤ b *ℤ w) m (gap_weak (b *ℤ w) (pos k) hk) (weak_positive m hm)))
  where
    one_less : (z : ℤ) → pos 0 <ℤ z → pos 0 ≤ℤ (z -ℤ pos 1)
    one_less z h = omega (arith, ints)

    sum : (t x y z : ℤ) → t ≡ x +ℤ y +ℤ z → pos 0 ≤ℤ x → pos 0 <ℤ y → pos 0 ≤ℤ z → pos 0 <ℤ t
    sum t x y z e h k l = omega (arith, ints)

-- ---- off the edges
-- near enough, the moved point is beyond a line that parts the edge from it, or off the not_upright edge that it left
off_near : (e : ℤ) (s : Point) → (e ≡ pos 0 → ⊥) → IsPoint s → (g : Edge) → IsNotUprightAt s g
    → Nearly e s.W (λ d n. on g (lifted d n s) ≡ false)
off_near e s he hs g f = go (on g s) refl
  where
    apart : (m : ℤ) → pos 0 <ℤ m → e *ℤ m ≡ pos 0 → ⊥
    apart m hm z = pick (zero_product e m z)
      where
        clash : pos 0 <ℤ m → m ≡ pos 0 → ⊥
        clash h k = omega (arith, ints)

        pick : (e ≡ pos 0) ⊎ (m ≡ pos 0) → ⊥
        pick (inl k) = he k
        pick (inr k) = clash hm k

    beside : Parted g s → Nearly e s.W (λ d n. on g (lifted d n s) ≡ false)
    beside c = let k : (k : ℕ) × (((pos 0 -ℤ c.line.b *ℤ e) *ℤ s.W) ≤ℤ pos k) = at_most_some ((pos 0 -ℤ c.line.b *ℤ e) *ℤ s.W) in record {
      bound = k.0;
      holds = λ m n hm hn h. off_beyond c.line g (lifted (e *ℤ m) n s) (lifted_is_point (e *ℤ m) n s hn hs) c.parts
          (subst (λ (z : ℤ). pos 0 <ℤ z) (sym (value_weighted c.line n s 1 (record { X = pos 0; Y = e *ℤ m; W = pos 0 }) ∙ solve (c.line.a ∷ c.line.b ∷ c.line.c ∷ e ∷ m ∷ (pos n *ℤ value c.line s) ∷ []) (var 5 ⊕ lit (pos 1) ⊗ (var 0 ⊗ lit (pos 0) ⊕ var 1 ⊗ (var 3 ⊗ var 4) ⊕ var 2 ⊗ lit (pos 0))) (var 5 ⊖ (lit (pos 0) ⊖ var 1 ⊗ var 3) ⊗ var 4) tt))
          (outweighs (pos 0 -ℤ c.line.b *ℤ e) (value c.line s) s.W m k.0 n c.above_at hs hm k.1 h));
    }

    go : (t : Bool) → on g s ≡ t → Nearly e s.W (λ d n. on g (lifted d n s) ≡ false)
    go true h = record { bound = 0; holds = λ m n hm hn k. off_by_breadth (e *ℤ m) g n s (apart m hm) h (f h) }
    go false h = beside (parted g s h)

-- ---- what is above
-- straight below and near enough, an edge is strictly above where it was at or above the point
sinks_at : (g : Edge) (s : Point) → IsPoint s → Nearly down s.W (λ d n. strictly_above g (lifted d n s) ≡ at_or_above g s)
sinks_at g s hs = go (spans g s) refl
  where
    under : (x y b m : ℤ) → x ≤ℤ pos 0 → y ≡ down *ℤ (m *ℤ b) → pos 0 <ℤ (m *ℤ b) → (x +ℤ y) <ℤ pos 0
    under x y b m h e k = omega (arith, ints)

    kept : (x y z : ℤ) → y ≡ down *ℤ z → pos 0 <ℤ (x -ℤ z) → pos 0 ≤ℤ (x +ℤ y)
    kept x y z e h = omega (arith, ints)

    number : (σ b m : ℤ) (k n : ℕ) → pos 0 <ℤ b → pos 0 <ℤ m → (b *ℤ s.W) ≤ℤ pos k → (pos k *ℤ m) <ℤ (pos n *ℤ s.W) → int_lt (pos n *ℤ σ +ℤ (down *ℤ m) *ℤ b) (pos 0) ≡ int_le σ (pos 0)
    number σ b m k n hb hm hk h = pick (at_most_or_less σ (pos 0))
      where
        pick : (σ ≤ℤ pos 0) ⊎ (pos 0 <ℤ σ) → int_lt (pos n *ℤ σ +ℤ (down *ℤ m) *ℤ b) (pos 0) ≡ int_le σ (pos 0)
        pick (inl l) = less_yes (pos n *ℤ σ +ℤ (down *ℤ m) *ℤ b) (pos 0) (under (pos n *ℤ σ) ((down *ℤ m) *ℤ b) b m (plus_minus (pos n) σ (natural_weak n) l) (solve (down ∷ m ∷ b ∷ []) ((var 0 ⊗ var 1) ⊗ var 2) (var 0 ⊗ (var 1 ⊗ var 2)) tt) (strict_plus_plus m b hm hb))
            ∙ sym (at_most_yes σ (pos 0) l)
        pick (inr l) = less_no (pos n *ℤ σ +ℤ (down *ℤ m) *ℤ b) (pos 0) (kept (pos n *ℤ σ) ((down *ℤ m) *ℤ b) (b *ℤ m) (solve (down ∷ m ∷ b ∷ []) ((var 0 ⊗ var 1) ⊗ var 2) (var 0 ⊗ (var 2 ⊗ var 1)) tt) (outweighs b σ s.W m k n l hs hm hk h))
            ∙ sym (at_most_no σ (pos 0) l)

    go : (t : Bool) → spans g s ≡ t → Nearly down s.W (λ d n. strictly_above g (lifted d n s) ≡ at_or_above g s)
    go false h = record { bound = 0; holds = λ m n hm hn k. ap (λ (b : Bool). b && int_lt (side_rightward g (lifted (down *ℤ m) n s)) (pos 0)) (spans_lifted (down *ℤ m) g n s hn ∙ h) ∙ ap (λ (b : Bool). b && int_le (side_rightward g s) (pos 0)) (sym h) }
    go true h = let k : (k : ℕ) × ((breadth g *ℤ s.W) ≤ℤ pos k) = at_most_some (breadth g *ℤ s.W) in record {
      bound = k.0;
      holds = λ m n hm hn l. ap₂ (λ (x y : Bool). x && y) (spans_lifted (down *ℤ m) g n s hn)
          (ap (λ (z : ℤ). int_lt z (pos 0)) (rightward_lifted (down *ℤ m) g n s) ∙ number (side_rightward g s) (breadth g) m k.0 n (breadth_positive g s hs h) hm k.1 l);
    }

-- straight above and near enough, an edge is strictly above where it was strictly above the point
rises_at : (g : Edge) (s : Point) → IsPoint s → Nearly (pos 1) s.W (λ d n. strictly_above g (lifted d n s) ≡ strictly_above g s)
rises_at g s hs = go (spans g s) refl
  where
    over : (x y : ℤ) → pos 0 ≤ℤ x → pos 0 <ℤ y → pos 0 ≤ℤ (x +ℤ y)
    over x y h k = omega (arith, ints)

    kept : (x y t z : ℤ) → y ≡ z → t ≡ pos 0 -ℤ x → pos 0 <ℤ (t -ℤ z) → (x +ℤ y) <ℤ pos 0
    kept x y t z e f h = omega (arith, ints)

    number : (σ b m : ℤ) (k n : ℕ) → pos 0 <ℤ b → pos 0 <ℤ m → (b *ℤ s.W) ≤ℤ pos k → (pos k *ℤ m) <ℤ (pos n *ℤ s.W) → int_lt (pos n *ℤ σ +ℤ (pos 1 *ℤ m) *ℤ b) (pos 0) ≡ int_lt σ (pos 0)
    number σ b m k n hb hm hk h = pick (at_most_or_less (pos 0) σ)
      where
        pick : (pos 0 ≤ℤ σ) ⊎ (σ <ℤ pos 0) → int_lt (pos n *ℤ σ +ℤ (pos 1 *ℤ m) *ℤ b) (pos 0) ≡ int_lt σ (pos 0)
        pick (inl l) = less_no (pos n *ℤ σ +ℤ (pos 1 *ℤ m) *ℤ b) (pos 0) (over (pos n *ℤ σ) ((pos 1 *ℤ m) *ℤ b) (plus_plus (pos n) σ (natural_weak n) l) (subst (λ (z : ℤ). pos 0 <ℤ z) (solve (m ∷ b ∷ []) (var 0 ⊗ var 1) ((lit (pos 1) ⊗ var 0) ⊗ var 1) tt) (strict_plus_plus m b hm hb)))
            ∙ sym (less_no σ (pos 0) l)
        pick (inr l) = less_yes (pos n *ℤ σ +ℤ (pos 1 *ℤ m) *ℤ b) (pos 0) (kept (pos n *ℤ σ) ((pos 1 *ℤ m) *ℤ b) (pos n *ℤ (pos 0 -ℤ σ)) (b *ℤ m) (solve (m ∷ b ∷ []) ((lit (pos 1) ⊗ var 0) ⊗ var 1) (var 1 ⊗ var 0) tt)
            (solve (pos n ∷ σ ∷ []) (var 0 ⊗ (lit (pos 0) ⊖ var 1)) (lit (pos 0) ⊖ var 0 ⊗ var 1) tt) (outweighs b (pos 0 -ℤ σ) s.W m k n (negative_flipped σ l) hs hm hk h))
            ∙ sym (less_yes σ (pos 0) l)

    go : (t : Bool) → spans g s ≡ t → Nearly (pos 1) s.W (λ d n. strictly_above g (lifted d n s) ≡ strictly_above g s)
    go false h = record { bound = 0; holds = λ m n hm hn k. ap (λ (b : Bool). b && int_lt (side_rightward g (lifted (pos 1 *ℤ m) n s)) (pos 0)) (spans_lifted (pos 1 *ℤ m) g n s hn ∙ h) ∙ ap (λ (b : Bool). b && int_lt (side_rightward g s) (pos 0)) (sym h) }
    go true h = let k : (k : ℕ) × ((breadth g *ℤ s.W) ≤ℤ pos k) = at_most_some (breadth g *ℤ s.W) in record {
      bound = k.0;
      holds = λ m n hm hn l. ap₂ (λ (x y : Bool). x && y) (spans_lifted (pos 1 *ℤ m) g n s hn)
          (ap (λ (z : ℤ). int_lt z (pos 0)) (rightward_lifted (pos 1 *ℤ m) g n s) ∙ number (side_rightward g s) (breadth g) m k.0 n (breadth_positive g s hs h) hm k.1 l);
    }

-- ---- any point straight below or above is the point moved so
-- its denominator is the n, and its difference in height the d
same_moved : (t s : Point) (d : ℤ) (n : ℕ) → t.W ≡ pos n → t.X *ℤ s.W ≡ s.X *ℤ t.W → t.Y *ℤ s.W -ℤ s.Y *ℤ t.W ≡ d → same_point t (lifted d n s) ≡ true
same_moved t s d n e f g = same_from t (lifted d n s)
    (solve (t.X ∷ s.W ∷ pos n ∷ []) (var 0 ⊗ (var 2 ⊗ var 1 ⊕ lit (pos 1) ⊗ lit (pos 0))) (var 2 ⊗ (var 0 ⊗ var 1)) tt ∙ ap₂ (λ (x y : ℤ). x *ℤ y) (sym e) f
    ∙ solve (s.X ∷ t.W ∷ []) (var 1 ⊗ (var 0 ⊗ var 1)) ((var 1 ⊗ var 0) ⊗ var 1) tt ∙ ap (λ (x : ℤ). (x *ℤ s.X) *ℤ t.W) e ∙ solve (s.X ∷ pos n ∷ t.W ∷ []) ((var 1 ⊗ var 0) ⊗ var 2) ((var 1 ⊗ var 0 ⊕ lit (pos 1) ⊗ lit (pos 0)) ⊗ var 2) tt)
    (solve (t.Y ∷ s.W ∷ pos n ∷ []) (var 0 ⊗ (var 2 ⊗ var 1 ⊕ lit (pos 1) ⊗ lit (pos 0))) ((var 0 ⊗ var 1) ⊗ var 2) tt ∙ ap (λ (x : ℤ). (t.Y *ℤ s.W) *ℤ x) (sym e)
    ∙ solve (t.Y ∷ s.Y ∷ s.W ∷ t.W ∷ []) ((var 0 ⊗ var 2) ⊗ var 3) ((var 3 ⊗ var 1 ⊕ lit (pos 1) ⊗ (var 0 ⊗ var 2 ⊖ var 1 ⊗ var 3)) ⊗ var 3) tt ∙ ap₂ (λ (x y : ℤ). (x *ℤ s.Y +ℤ pos 1 *ℤ y) *ℤ t.W) e g)

-- where the point moved so is off all edges and the same are above it as at this test of s
record Kept (f h : Edge → Point → Bool) (g : Geometry) (s : Point) (d : ℤ) (n : ℕ) : Type 0 where
  off : Each (λ e. on e (lifted d n s) ≡ false) (marks g g)
  alike : Each (λ e. f e (lifted d n s) ≡ h e s) (edges g)

-- near enough all of it holds at once, the edges being finitely many
kept_near : (e : ℤ) (f h : Edge → Point → Bool) (g : Geometry) (s : Point) → (e ≡ pos 0 → ⊥) → IsPoint s → Each (IsNotUprightAt s) (marks g g) → ((k : Edge) → Nearly e s.W (λ d n. f k (lifted d n s) ≡ h k s)) → Nearly e s.W (Kept f h g s)
kept_near e f h g s he hs not_upright near = go (both_near e s.W (λ d n. Each (λ k. on k (lifted d n s) ≡ false) (marks g g)) (λ d n. Each (λ k. f k (lifted d n s) ≡ h k s) (edges g))
    (each_near e s.W (λ k d n. on k (lifted d n s) ≡ false) (marks g g) (each_map (IsNotUprightAt s) (λ k. Nearly e s.W (λ d n. on k (lifted d n s) ≡ false)) (marks g g) (off_near e s he hs) not_upright))
    (each_near e s.W (λ k d n. f k (lifted d n s) ≡ h k s) (edges g) (each_of (λ k. Nearly e s.W (λ d n. f k (lifted d n s) ≡ h k s)) (edges g) (λ k a. near k))))
  where
    go : Nearly e s.W (λ d n. Each (λ k. on k (lifted d n s) ≡ false) (marks g g) × Each (λ k. f k (lifted d n s) ≡ h k s) (edges g)) → Nearly e s.W (Kept f h g s)
    go r = record { bound = r.bound; holds = λ m n hm hn k. record { off = (r.holds m n hm hn k).0; alike = (r.holds m n hm hn k).1 } }

not_down : down ≡ pos 0 → ⊥
not_down e = omega (arith, ints)

some_natural : (z : ℤ) (n : ℕ) → z ≡ pos n → pos 0 <ℤ z → 0 < n
some_natural z n e h = omega (arith, ints)

-- near enough, a point straight below or above is off all edges, so it lies by the parity above it,
-- and that is the parity of the point's own lower or upper side
pub are_all_near : (g : Geometry) (s : Point) → IsPoint s → Each (IsNotUprightAt s) (marks g g) → AreAllNear g s
are_all_near g s hs h = go (kept_near down strictly_above at_or_above g s not_down hs h (λ k. sinks_at k s hs)) (kept_near (pos 1) strictly_above strictly_above g s one_not_zero hs h (λ k. rises_at k s hs))
  where
    applies : (t : Point) → IsPoint t → (d : ℤ) (n : ℕ) → t.W ≡ pos n → t.X *ℤ s.W ≡ s.X *ℤ t.W → t.Y *ℤ s.W -ℤ s.Y *ℤ t.W ≡ d → Each (λ e. on e (lifted d n s) ≡ false) (marks g g) → locate g t ≡ above g (lifted d n s)
    applies t ht d n e f y off = locate_respects g t (lifted d n s) ht moved (same_moved t s d n e f y) ∙ locate_off g (lifted d n s) moved (off_first g g (lifted d n s) moved off)
      where
        moved : IsPoint (lifted d n s)
        moved = lifted_is_point d n s (some_natural t.W n e ht) hs

    sunk : (x y : ℤ) → x -ℤ y ≡ down *ℤ (y -ℤ x)
    sunk x y = omega (arith, ints)

    risen : (x y : ℤ) → y -ℤ x ≡ pos 1 *ℤ (y -ℤ x)
    risen x y = omega (arith, ints)

    turn : (x w : ℤ) (n : ℕ) (y : ℤ) → w ≡ pos n → x <ℤ (y *ℤ w) → x <ℤ (pos n *ℤ y)
    turn x w n y e l = subst (λ (z : ℤ). x <ℤ z) (ap (λ (v : ℤ). y *ℤ v) e ∙ solve (y ∷ pos n ∷ []) (var 0 ⊗ var 1) (var 1 ⊗ var 0) tt) l

    go : Nearly down s.W (Kept strictly_above at_or_above g s) → Nearly (pos 1) s.W (Kept strictly_above strictly_above g s) → AreAllNear g s
    go u o = record {
      k = u.bound + o.bound;
      under_are = λ t ht b. under t ht (natural t.W (weak_positive t.W ht)) b;
      over_are = λ t ht b. over t ht (natural t.W (weak_positive t.W ht)) b;
    }
      where
        part : (k l : ℕ) (m z : ℤ) → pos 0 <ℤ m → (pos (k + l) *ℤ m) <ℤ z → ((pos k *ℤ m) <ℤ z) × ((pos l *ℤ m) <ℤ z)
        part k l m z hm r = (first (pos k *ℤ m) (pos l *ℤ m) (plus_plus (pos l) m (natural_weak l) (weak_positive m hm)) split, second (pos k *ℤ m) (pos l *ℤ m) (plus_plus (pos k) m (natural_weak k) (weak_positive m hm)) split)
          where
            split : (pos k *ℤ m +ℤ pos l *ℤ m) <ℤ z
            split = subst (λ (x : ℤ). x <ℤ z) (solve (pos k ∷ pos l ∷ m ∷ []) ((var 0 ⊕ var 1) ⊗ var 2) (var 0 ⊗ var 2 ⊕ var 1 ⊗ var 2) tt) r

            first : (x y : ℤ) → pos 0 ≤ℤ y → (x +ℤ y) <ℤ z → x <ℤ z
            first x y p q = omega (arith, ints)

            second : (x y : ℤ) → pos 0 ≤ℤ x → (x +ℤ y) <ℤ z → y <ℤ z
            second x y p q = omega (arith, ints)

        under : (t : Point) → IsPoint t → Natural t.W → IsJustBelow (u.bound + o.bound) t s → locate g t ≡ below g s
        under t ht n b = applies t ht (down *ℤ (s.Y *ℤ t.W -ℤ t.Y *ℤ s.W)) n.n n.is b.straight (sunk (t.Y *ℤ s.W) (s.Y *ℤ t.W)) kept.off ∙ below_from g s (lifted (down *ℤ (s.Y *ℤ t.W -ℤ t.Y *ℤ s.W)) n.n s) kept.alike
          where
            rise : pos 0 <ℤ (s.Y *ℤ t.W -ℤ t.Y *ℤ s.W)
            rise = gap_positive (t.Y *ℤ s.W) (s.Y *ℤ t.W) b.lower

            kept : Kept strictly_above at_or_above g s (down *ℤ (s.Y *ℤ t.W -ℤ t.Y *ℤ s.W)) n.n
            kept = u.holds (s.Y *ℤ t.W -ℤ t.Y *ℤ s.W) n.n rise (some_natural t.W n.n n.is ht) ((part u.bound o.bound (s.Y *ℤ t.W -ℤ t.Y *ℤ s.W) (pos n.n *ℤ s.W) rise (subst (λ (z : ℤ). (pos (u.bound + o.bound) *ℤ (s.Y *ℤ t.W -ℤ t.Y *ℤ s.W)) <ℤ (z *ℤ s.W)) n.is b.near)).0)

        over : (t : Point) → IsPoint t → Natural t.W → IsJustBelow (u.bound + o.bound) s t → locate g t ≡ above g s
        over t ht n b = applies t ht (pos 1 *ℤ (t.Y *ℤ s.W -ℤ s.Y *ℤ t.W)) n.n n.is (sym b.straight) (risen (s.Y *ℤ t.W) (t.Y *ℤ s.W)) kept.off ∙ above_from g s (lifted (pos 1 *ℤ (t.Y *ℤ s.W -ℤ s.Y *ℤ t.W)) n.n s) kept.alike
          where
            rise : pos 0 <ℤ (t.Y *ℤ s.W -ℤ s.Y *ℤ t.W)
            rise = gap_positive (s.Y *ℤ t.W) (t.Y *ℤ s.W) b.lower

            kept : Kept strictly_above strictly_above g s (pos 1 *ℤ (t.Y *ℤ s.W -ℤ s.Y *ℤ t.W)) n.n
            kept = o.holds (t.Y *ℤ s.W -ℤ s.Y *ℤ t.W) n.n rise (some_natural t.W n.n n.is ht) ((part u.bound o.bound (t.Y *ℤ s.W -ℤ s.Y *ℤ t.W) (pos n.n *ℤ s.W) rise (turn (pos (u.bound + o.bound) *ℤ (t.Y *ℤ s.W -ℤ s.Y *ℤ t.W)) t.W n.n s.W n.is b.near)).1)
