-- Edges of which one lies beside the other: both its ends are on one side of that one's line.
use Rattle.std.proofs.Common.{ℤ, pos, ◌+ℤ◌, ◌*ℤ◌, ◌≤ℤ◌, ◌<ℤ◌, int_lt, ◌≡◌, refl, ◌⊎◌, inl, inr, Bool, true, false, ◌&&◌, ◌||◌, sym, ◌∙◌, subst, arith}
use Rattle.std.proofs.lemmas.Bool.{and_parts}
use borrow.Author.Differences.{ints}
use Rattle.basics.proofs.Signs.{three_ways, plus_plus, plus_minus, strict_plus_plus, strict_plus_minus, less_from}
use Rattle.basics.proofs.Orders.{weak_positive, weak_negative}
use Rattle.geometry_model.specs.Points.{point_at}
use Rattle.geometry_model.specs.Geometries.{Edge}
use Rattle.geometry_model.specs.Sides.{side}
use Rattle.geometry_model.specs.Validity.{SharePoint}
use Rattle.geometry_model.specs.FirstFaults.{share_point}
use Rattle.geometry_model.proofs.DimensionFacts.{is_false}
use Rattle.geometry_laws.proofs.Hulls.{OnHull, on_parts, hull_from_on}
use Rattle.geometry_laws.proofs.SharedPoints.{side_sum, zero_scaled, shared_point_is_decided}

-- both numbers are above 0, or both are below it
abbrev pub Beside : ℤ → ℤ → Type 0
Beside s t = ((pos 0 <ℤ s) × (pos 0 <ℤ t)) ⊎ ((s <ℤ pos 0) × (t <ℤ pos 0))

-- with weights of at least 0 that aren't both 0, their sum isn't 0
no_zero : (m n s t : ℤ) → pos 0 ≤ℤ m → pos 0 ≤ℤ n → pos 0 <ℤ (m +ℤ n) → Beside s t → m *ℤ s +ℤ n *ℤ t ≡ pos 0 → ⊥
no_zero m n s t hm hn some beside e = go (three_ways (pos 0) m) beside
  where
    clash_above : (a b : ℤ) → a +ℤ b ≡ pos 0 → pos 0 <ℤ a → pos 0 ≤ℤ b → ⊥
    clash_above a b e h k = omega (arith, ints)

    clash_above_second : (a b : ℤ) → a +ℤ b ≡ pos 0 → pos 0 ≤ℤ a → pos 0 <ℤ b → ⊥
    clash_above_second a b e h k = omega (arith, ints)

    clash_below : (a b : ℤ) → a +ℤ b ≡ pos 0 → a <ℤ pos 0 → b ≤ℤ pos 0 → ⊥
    clash_below a b e h k = omega (arith, ints)

    clash_below_second : (a b : ℤ) → a +ℤ b ≡ pos 0 → a ≤ℤ pos 0 → b <ℤ pos 0 → ⊥
    clash_below_second a b e h k = omega (arith, ints)

    second : (m n : ℤ) → pos 0 ≡ m → pos 0 <ℤ (m +ℤ n) → pos 0 <ℤ n
    second m n e h = omega (arith, ints)

    never : (m : ℤ) → m <ℤ pos 0 → pos 0 ≤ℤ m → ⊥
    never m h k = omega (arith, ints)

    go : (pos 0 <ℤ m) ⊎ ((pos 0 ≡ m) ⊎ (m <ℤ pos 0)) → Beside s t → ⊥
    go (inl h) (inl a) = clash_above (m *ℤ s) (n *ℤ t) e (strict_plus_plus m s h a.0) (plus_plus n t hn (weak_positive t a.1))
    go (inl h) (inr b) = clash_below (m *ℤ s) (n *ℤ t) e (strict_plus_minus m s h b.0) (plus_minus n t hn (weak_negative t b.1))
    go (inr (inl z)) (inl a) = clash_above_second (m *ℤ s) (n *ℤ t) e (plus_plus m s hm (weak_positive s a.0)) (strict_plus_plus n t (second m n z some) a.1)
    go (inr (inl z)) (inr b) = clash_below_second (m *ℤ s) (n *ℤ t) e (plus_minus m s hm (weak_negative s b.0)) (strict_plus_minus n t (second m n z some) b.1)
    go (inr (inr l)) b = never m l hm

-- an edge shares no point with one beside it, since sides are weighed like the points
pub none_beside : (e f : Edge) → Beside (side e.start e.end (point_at f.start)) (side e.start e.end (point_at f.end)) → share_point e f ≡ false
none_beside e f beside = is_false (share_point e f) (λ h. off ((shared_point_is_decided e f).0 h))
  where
    off : SharePoint e f → ⊥
    off s =
        let h : OnHull f s.at = hull_from_on f s.at s.is_point s.on_second in
        no_zero h.m h.n (side e.start e.end (point_at f.start)) (side e.start e.end (point_at f.end)) h.from_m h.from_n
        (subst (λ (z : ℤ). pos 0 <ℤ z) h.w_is (strict_plus_plus h.k s.at.W h.from_k s.is_point)) beside
        (sym (side_sum e.start e.end f.start f.end s.at h.k h.m h.n h.x_is h.y_is h.w_is) ∙ zero_scaled h.k (side e.start e.end s.at) ((on_parts e s.at s.on_first).on_line))

-- what the test of two numbers says
pub beside_from : (s t : ℤ) → ((int_lt (pos 0) s && int_lt (pos 0) t) || (int_lt s (pos 0) && int_lt t (pos 0))) ≡ true → Beside s t
beside_from s t h = go (int_lt (pos 0) s && int_lt (pos 0) t) refl (int_lt s (pos 0) && int_lt t (pos 0)) refl h
  where
    go : (a : Bool) → (int_lt (pos 0) s && int_lt (pos 0) t) ≡ a → (b : Bool) → (int_lt s (pos 0) && int_lt t (pos 0)) ≡ b → (a || b) ≡ true → Beside s t
    go true e b f k = let parts = and_parts (int_lt (pos 0) s) (int_lt (pos 0) t) e in inl (less_from (pos 0) s parts.0, less_from (pos 0) t parts.1)
    go false e true f k = let parts = and_parts (int_lt s (pos 0)) (int_lt t (pos 0)) f in inr (less_from s (pos 0) parts.0, less_from t (pos 0) parts.1)
    go false e false f k = absurd (let n : false ≡ true = k in cc)
