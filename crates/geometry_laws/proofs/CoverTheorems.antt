-- What finitely many points and lines don't cover, the first edge above a point, and the triangles beside it.
use Rattle.std.proofs.Common.{ℕ, ◌+◌, ◌*◌, ◌<◌, ◌≡◌, ◌≢◌, ◌⊎◌, inl, inr, true, false, ℤ, pos, ◌-ℤ◌, ◌*ℤ◌, ◌<ℤ◌, sym, ap₂, ◌∙◌, List, [], ◌∷◌, ◌++◌, All, arith}
use borrow.Author.Differences.{ints}
use Rattle.std.proofs.lemmas.List.Elements.{All-nil, All-cons}
use Rattle.geometry_model.specs.Points.{Position, Point, IsPoint, same_point}
use Rattle.geometry_model.specs.Geometries.{Edge, Geometry, edges, listed, rings}
use Rattle.geometry_model.specs.Crossings.{strictly_above, at_or_above}
use Rattle.geometry_model.specs.Dimensions.{area, weighted, weighted_three, HasTriangle, common}
use Rattle.geometry_model.specs.Locations.{is_at}
use Rattle.geometry_model.specs.Labels.{above, below, edges_of_both}
use Rattle.basics.proofs.Ring.{solve, var, lit, ◌⊖◌, ◌⊗◌}
use Rattle.basics.proofs.Signs.{cancel_zero}
use Rattle.geometry_laws.specs.RingLaws.{IsClosed}
use Rattle.geometry_laws.specs.PieceLaws.{HasClosedRings}
use Rattle.geometry_laws.specs.CoverLaws.{Line, value, IsLine, FirstAbove, MissesUprights, NearSides, AreAllNear, IsNotUprightAt}
use Rattle.geometry_laws.proofs.Each.{Each, each_of, each_append}
use Rattle.geometry_laws.proofs.RingParity.{each_from_all}
use Rattle.geometry_laws.proofs.Triangles.{dots, dot_is_at, marks}
use Rattle.geometry_laws.proofs.Nudge.{breadth}
use Rattle.geometry_laws.proofs.SideTriangles.{lower_triangle, upper_triangle, near_sides}
use Rattle.geometry_laws.proofs.NearPoints.{are_all_near}
use Rattle.geometry_laws.proofs.First.{First, first, over_point, over_is_point, over_on, over_higher, not_lower, label_of_first}
use Rattle.geometry_laws.proofs.Plane.{right}
use Rattle.geometry_laws.proofs.Cuts.{contains_of_among, among_from_contains}
use Rattle.geometry_laws.proofs.Avoid.{OffLines, avoid_lines, OffPoints, avoid_points}

pub all_from_each : {X : Type 0} (P : X → Type 0) (xs : List X) → Each P xs → All P xs
all_from_each P [] h = All-nil P
all_from_each P (x ∷ xs) h = All-cons P x xs h.0 (all_from_each P xs h.1)

-- finitely many points don't cover a segment
pub points_dont_cover : (cs : List Point) (p q : Point) → All IsPoint cs → IsPoint p → IsPoint q → same_point p q ≡ false → (m n : ℕ) × (0 < m + n) × All (λ c. same_point c (weighted m p n q) ≡ false) cs
points_dont_cover cs p q h hp hq f = go (avoid_points cs p q hp hq f (each_from_all IsPoint cs h))
  where
    some : (t : ℕ) → 0 < 1 + t
    some t = omega arith

    go : OffPoints cs p q → (m n : ℕ) × (0 < m + n) × All (λ c. same_point c (weighted m p n q) ≡ false) cs
    go o = (1, o.t, some o.t, all_from_each (λ c. same_point c (weighted 1 p o.t q) ≡ false) cs o.off)

-- finitely many lines don't cover a triangle
pub lines_dont_cover : (ls : List Line) (p q r : Point) → All IsLine ls → area p q r ≢ pos 0 → (k m n : ℕ) × (0 < k + m + n) × All (λ l. value l (weighted_three k p m q n r) ≢ pos 0) ls
lines_dont_cover ls p q r h f = go (avoid_lines ls p q r f (each_from_all IsLine ls h))
  where
    some : (t : ℕ) → 0 < 1 + t + t * t
    some t = omega arith

    go : OffLines ls p q r → (k m n : ℕ) × (0 < k + m + n) × All (λ l. value l (weighted_three k p m q n r) ≢ pos 0) ls
    go o = (1, o.t, o.t * o.t, some o.t, all_from_each (λ l. value l (weighted_three 1 p o.t q (o.t * o.t) r) ≢ pos 0) ls o.off)

-- the point of an edge over x is straight above x
pub over_straight : (f : Edge) (x : Point) → (over_point f x).X *ℤ x.W ≡ x.X *ℤ (over_point f x).W
unfolding over_point
over_straight f x = crosswise (breadth f) x.X x.W
  where
    crosswise : (d x w : ℤ) → (d *ℤ x) *ℤ w ≡ x *ℤ (d *ℤ w)
    crosswise d x w = solve (d ∷ x ∷ w ∷ []) ((var 0 ⊗ var 1) ⊗ var 2) (var 1 ⊗ (var 0 ⊗ var 2)) tt

-- two points straight above a third are on one vertical line
straight : (p z x : Point) → IsPoint x → p.X *ℤ x.W ≡ x.X *ℤ p.W → z.X *ℤ x.W ≡ x.X *ℤ z.W → right p z ≡ pos 0
straight p z x hx e f = cancel_zero x.W (right p z) hx (solve (p.X ∷ p.W ∷ z.X ∷ z.W ∷ x.W ∷ []) (var 4 ⊗ (var 2 ⊗ var 1 ⊖ var 0 ⊗ var 3)) ((var 2 ⊗ var 4) ⊗ var 1 ⊖ (var 0 ⊗ var 4) ⊗ var 3) tt
    ∙ ap₂ (λ (s t : ℤ). s *ℤ p.W -ℤ t *ℤ z.W) f e ∙ solve (x.X ∷ p.W ∷ z.W ∷ []) ((var 0 ⊗ var 2) ⊗ var 1 ⊖ (var 0 ⊗ var 1) ⊗ var 2) (lit (pos 0)) tt)

-- above a point there is no edge, or a first one, below which nothing lies
pub first_is_above : (es : List Edge) (x : Point) → IsPoint x → All (λ e. strictly_above e x ≡ false) es ⊎ FirstAbove es x
first_is_above es x hx = go (first es x hx)
  where
    lower : (s t : ℤ) → s <ℤ t → (s -ℤ t) <ℤ pos 0
    lower s t h = omega (arith, ints)

    go : Each (λ e. strictly_above e x ≡ false) es ⊎ First es x → All (λ e. strictly_above e x ≡ false) es ⊎ FirstAbove es x
    go (inl h) = inl (all_from_each (λ e. strictly_above e x ≡ false) es h)
    go (inr r) = inr (record {
      point = over_point r.edge x;
      edge = r.edge;
      among = contains_of_among r.edge es r.among;
      is_above = r.is_above;
      is_point = over_is_point r.edge x hx r.is_above;
      straight_above = over_straight r.edge x;
      higher = over_higher r.edge x hx r.is_above;
      is_on = over_on r.edge x hx r.is_above;
      none_between = λ e c h z hz s k l. not_lower e (over_point r.edge x) z (over_is_point r.edge x hx r.is_above) hz (label_of_first es x hx r e (among_from_contains es e c) ∙ h) k
          (straight (over_point r.edge x) z x hx (over_straight r.edge x) s) (lower (z.Y *ℤ (over_point r.edge x).W) ((over_point r.edge x).Y *ℤ z.W) l);
      alike = all_from_each (λ e. at_or_above e (over_point r.edge x) ≡ strictly_above e x) es (each_of (λ e. at_or_above e (over_point r.edge x) ≡ strictly_above e x) es (λ g m. label_of_first es x hx r g m));
    })

-- a dot counts as vertical, but no dot of these positions goes through the point
pub not_upright_dots : (ps : List Position) (p : Point) → IsPoint p → Each (λ a. is_at p a ≡ false) ps
    → Each (IsNotUprightAt p) (dots ps)
not_upright_dots [] p hp h = tt
not_upright_dots (a ∷ ps) p hp h =
    (λ k e. let z : true ≡ false = sym (dot_is_at a p hp k) ∙ h.0 in absurd (cc), not_upright_dots ps p hp h.1)

-- so nothing vertical among the marks of both geometries goes through the point
not_upright_marks : (a b : Geometry) (s : Point) → IsPoint s → MissesUprights a s → MissesUprights b s
    → Each (IsNotUprightAt s) (marks a b)
not_upright_marks a b s hs h k = each_append (IsNotUprightAt s) (edges_of_both a b) (dots (listed a ++ listed b))
    (each_append (IsNotUprightAt s) (edges a) (edges b) (each_from_all (IsNotUprightAt s) (edges a) h.edges) (each_from_all (IsNotUprightAt s) (edges b) k.edges))
    (not_upright_dots (listed a ++ listed b) s hs (each_append (λ q. is_at s q ≡ false) (listed a) (listed b) (each_from_all (λ q. is_at s q ≡ false) (listed a) h.positions) (each_from_all (λ q. is_at s q ≡ false) (listed b) k.positions)))

-- just below and just above a point that no vertical edge goes through, all points of some triangle lie alike
pub sides_have_triangles : (a b : Geometry) → HasClosedRings a → HasClosedRings b → (s : Point) → IsPoint s → MissesUprights a s → MissesUprights b s
    → HasTriangle (common a (below a s) b (below b s)) × HasTriangle (common a (above a s) b (above b s))
sides_have_triangles a b ca cb s hs h k = (
  lower_triangle a b (each_from_all IsClosed (rings a) ca) (each_from_all IsClosed (rings b) cb) s hs
      (not_upright_marks a b s hs h k),
  upper_triangle a b (each_from_all IsClosed (rings a) ca) (each_from_all IsClosed (rings b) cb) s hs
      (not_upright_marks a b s hs h k),
)

-- straight below and above the point, as near as asked for, points lie as its sides say
pub sides_are_near : (g : Geometry) (s : Point) → IsPoint s → MissesUprights g s → (k : ℕ) → NearSides g s k
sides_are_near g s hs h k = near_sides g s hs (not_upright_marks g g s hs h h) k

-- near enough a point, what lies straight below and above it lies as its sides do
pub near_points_are_so : (g : Geometry) (s : Point) → IsPoint s → MissesUprights g s → AreAllNear g s
near_points_are_so g s hs h = are_all_near g s hs (not_upright_marks g g s hs h h)
