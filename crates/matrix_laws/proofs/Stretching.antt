-- An edge that holds a point strictly within it, of another edge's line, holds a stretch of that line about the point.
use Rattle.std.proofs.Common.{◌≡◌, ◌≢◌, true, false, ℤ, pos, ◌-ℤ◌, ◌*ℤ◌, ◌+ℤ◌, refl, sym, ap, ◌∙◌, [], ◌∷◌, arith}
use borrow.Author.Differences.{ints}
use Rattle.std.specs.declared.cmp.Ordering.{Ordering}
use Rattle.std.specs.declared.cmp.Ordering.TheVariants.{Less, Equal, Greater}
use Rattle.std.proofs.lemmas.Bool.{or_left, or_right}
use Rattle.geometry_model.specs.Points.{Position, Point, IsPoint, point_at, same_point, compare}
use Rattle.geometry_model.specs.Geometries.{Edge}
use Rattle.geometry_model.specs.Sides.{side, on}
use Rattle.geometry_model.specs.CutPoints.{is_end}
use Rattle.basics.proofs.Ring.{solve, var, lit, ◌⊗◌}
use Rattle.basics.proofs.Orders.{gap_none, zero_not_positive}
use Rattle.geometry_laws.proofs.Plane.{right}
use Rattle.geometry_laws.proofs.PointOrder.{same_symmetric, equal_is_same, less_transitive}
use Rattle.geometry_laws.proofs.Respect.{on_respects}
use Rattle.geometry_laws.proofs.Hulls.{OnHull, on_from_hull, hull_from_on}
use Rattle.geometry_laws.proofs.RingParity.{side_is_area, position_is_point}
use Rattle.geometry_laws.proofs.Locating.{start_is_on, end_is_on}
use Rattle.geometry_laws.proofs.Triangles.{dot_coordinate}
use Rattle.geometry_laws.proofs.LineOrder.{sum_between, on_sum, area_on_line}
use Rattle.geometry_laws.proofs.LineSides.{side_turned}
use Rattle.geometry_laws.proofs.Cuts.{turn_less, OneLine, same_end, hull_of_start, hull_of_end, not_after_both, not_before_both}
use Rattle.geometry_laws.proofs.WithinPiece.{strictly_right}
use Rattle.matrix_laws.proofs.Stretches.{less_right, less_left}
use Rattle.matrix_laws.specs.Gaps.{IsBetween, IsClear}
use Rattle.matrix_laws.proofs.Between.{Span, wide, on_line, on_within}

-- ---- a point of an edge lies on the line of each edge of the same line
pub on_other_line : (e f : Edge) → e.start ≢ e.end → OneLine e f → (x : Point) → on e x ≡ true → side f.start f.end x ≡ pos 0
on_other_line e f n o x h = side_is_area f.start f.end x ∙ area_on_line e.start e.end (point_at f.start) (point_at f.end) x n o.start o.end (on_line e x h)

-- ---- an edge and a point strictly within it: the ends before and after the point
pub record Spread (f : Edge) (x : Point) : Type 0 where
  pub lo : Point
  pub hi : Point
  pub lo_is_point : IsPoint lo
  pub hi_is_point : IsPoint hi
  pub lo_on : on f lo ≡ true
  pub hi_on : on f hi ≡ true
  pub after : compare lo x ≡ Less
  pub before : compare x hi ≡ Less
  pub along : (a b : Position) → side a b (point_at f.start) ≡ pos 0 → side a b (point_at f.end) ≡ pos 0 → (side a b lo ≡ pos 0) × (side a b hi ≡ pos 0)
  pub holds : (y : Point) → IsPoint y → side f.start f.end y ≡ pos 0 → compare lo y ≡ Less → compare y hi ≡ Less → on f y ≡ true

-- an edge holds its start
start_on : (f : Edge) → on f (point_at f.start) ≡ true
start_on f = start_is_on f (point_at f.start) (position_is_point f.start) (same_end f.start)

-- and its end
end_on : (f : Edge) → on f (point_at f.end) ≡ true
end_on f = end_is_on f (point_at f.end) (position_is_point f.end) (same_end f.end)

-- the start lies before the point and the end after it ..
forth : (f : Edge) (x : Point) → IsPoint x → compare (point_at f.start) x ≡ Less → compare x (point_at f.end) ≡ Less → Spread f x
forth f x hx g k = record {
  lo = point_at f.start;
  hi = point_at f.end;
  lo_is_point = position_is_point f.start;
  hi_is_point = position_is_point f.end;
  lo_on = start_on f;
  hi_on = end_on f;
  after = g;
  before = k;
  along = λ a b s t. (s, t);
  holds = λ y hy s u v. on_from_hull f y (on_sum f (point_at f.start) (point_at f.end) y (hull_of_start f) (hull_of_end f)
      (sum_between (point_at f.start) (point_at f.end) y (position_is_point f.start) (position_is_point f.end) hy (sym (side_is_area f.start f.end y) ∙ s) u v
      (less_transitive (point_at f.start) y (point_at f.end) (position_is_point f.start) hy (position_is_point f.end) u v)));
}

-- .. or the other way round ..
back : (f : Edge) (x : Point) → IsPoint x → compare (point_at f.end) x ≡ Less → compare x (point_at f.start) ≡ Less → Spread f x
back f x hx g k = record {
  lo = point_at f.end;
  hi = point_at f.start;
  lo_is_point = position_is_point f.end;
  hi_is_point = position_is_point f.start;
  lo_on = end_on f;
  hi_on = start_on f;
  after = g;
  before = k;
  along = λ a b s t. (t, s);
  holds = λ y hy s u v. on_from_hull f y (on_sum f (point_at f.end) (point_at f.start) y (hull_of_end f) (hull_of_start f)
      (sum_between (point_at f.end) (point_at f.start) y (position_is_point f.end) (position_is_point f.start) hy (sym (side_is_area f.end f.start y) ∙ side_turned f.start f.end y ∙ ap (λ (z : ℤ). pos 0 -ℤ z) s ∙ nothing) u v
      (less_transitive (point_at f.end) y (point_at f.start) (position_is_point f.end) hy (position_is_point f.start) u v)));
}
  where
    nothing : pos 0 -ℤ pos 0 ≡ pos 0
    nothing = omega (arith, ints)

-- .. since the edge holds the point and neither end is at it
pub spread : (f : Edge) (x : Point) → IsPoint x → on f x ≡ true → is_end f x ≡ false → Spread f x
spread f x hx h n = go (compare (point_at f.start) x) refl (compare (point_at f.end) x) refl
  where
    at_end : is_end f x ≡ true → ⊥
    at_end k = let z : true ≡ false = sym k ∙ n in absurd (cc)

    start_same : compare (point_at f.start) x ≡ Equal → ⊥
    start_same g = at_end (or_left (same_point (point_at f.start) x) (same_point (point_at f.end) x) ((equal_is_same (point_at f.start) x).0 g))

    end_same : compare (point_at f.end) x ≡ Equal → ⊥
    end_same g = at_end (or_right (same_point (point_at f.start) x) (same_point (point_at f.end) x) ((equal_is_same (point_at f.end) x).0 g))

    go : (o : Ordering) → compare (point_at f.start) x ≡ o → (t : Ordering) → compare (point_at f.end) x ≡ t → Spread f x
    go Less g Less k = absurd (let z : true ≡ false = sym h ∙ not_after_both f x hx g k in cc)
    go Less g Equal k = absurd (end_same k)
    go Less g Greater k = forth f x hx g (turn_less (point_at f.end) x k)
    go Equal g o k = absurd (start_same g)
    go Greater g Less k = back f x hx k (turn_less (point_at f.start) x g)
    go Greater g Equal k = absurd (end_same k)
    go Greater g Greater k = absurd (let z : true ≡ false = sym h ∙ not_before_both f x hx (turn_less (point_at f.start) x g) (turn_less (point_at f.end) x k) in cc)

-- ---- two edges on one line that hold a point strictly within both share a further one
pub record SharesFurther (e f : Edge) (x : Point) : Type 0 where
  pub point : Point
  pub is_point : IsPoint point
  pub on_first : on e point ≡ true
  pub on_second : on f point ≡ true
  pub further : compare x point ≡ Less

-- the nearer of the two edges' greater ends is on both
pub shares_further : (e f : Edge) → e.start ≢ e.end → OneLine e f → (x : Point) → IsPoint x → Spread e x → Spread f x → SharesFurther e f x
shares_further e f n o x hx s t = go (compare s.hi t.hi) refl
  where
    go : (u : Ordering) → compare s.hi t.hi ≡ u → SharesFurther e f x
    go Less g = record {
      point = s.hi;
      is_point = s.hi_is_point;
      on_first = s.hi_on;
      on_second = t.holds s.hi s.hi_is_point (on_other_line e f n o s.hi s.hi_on) (less_transitive t.lo x s.hi t.lo_is_point hx s.hi_is_point t.after s.before) g;
      further = s.before;
    }
    go Equal g = record {
      point = s.hi;
      is_point = s.hi_is_point;
      on_first = s.hi_on;
      on_second = on_respects f s.hi t.hi s.hi_is_point t.hi_is_point ((equal_is_same s.hi t.hi).0 g) ∙ t.hi_on;
      further = s.before;
    }
    go Greater g = record {
      point = t.hi;
      is_point = t.hi_is_point;
      on_first = s.holds t.hi t.hi_is_point ((t.along e.start e.end o.start o.end).1) (less_transitive s.lo x t.hi s.lo_is_point hx t.hi_is_point s.after t.before) (turn_less s.hi t.hi g);
      on_second = t.hi_on;
      further = t.before;
    }

-- ---- an edge that goes on beyond an end of a stretch, and holds nothing within it or all, holds all
-- the other edge is on the same line, on which the stretch lies between these points
pub record Meeting (e f : Edge) (p q : Point) : Type 0 where
  pub one_line : OneLine e f
  pub span : Span e p q

-- its own greater end isn't within the stretch, which it is clear of, so it is past it, and the edge holds all between
pub goes_on : (e f : Edge) (p q : Point) → Meeting e f p q → IsClear e p q f → (x : Point) → IsPoint x → Spread f x → same_point p x ≡ true → (y : Point) → IsBetween e p q y → on f y ≡ true
goes_on e f p q h c x hx t g y i = go (compare t.hi q) refl
  where
    before_hi : compare p t.hi ≡ Less
    before_hi = less_left p x t.hi (h.span).lesser hx g t.before

    after_lo : compare t.lo y ≡ Less
    after_lo = less_transitive t.lo x y t.lo_is_point hx i.is_point t.after (less_left x p y hx (h.span).lesser (same_symmetric x p ∙ g) i.after)

    held : compare y t.hi ≡ Less → on f y ≡ true
    held k = t.holds y i.is_point (on_other_line e f (wide e p q h.span) h.one_line y i.is_on) after_lo k

    hi_line : side e.start e.end t.hi ≡ pos 0
    hi_line = (t.along e.start e.end (h.one_line).start (h.one_line).end).1

    hi_clear : compare t.hi q ≡ Less → ⊥
    hi_clear k = let z : true ≡ false = sym t.hi_on ∙ c t.hi record {
      is_point = t.hi_is_point;
      is_on = on_within e p q h.span t.hi t.hi_is_point hi_line before_hi k;
      after = before_hi;
      before = k;
    } in absurd (cc)

    go : (o : Ordering) → compare t.hi q ≡ o → on f y ≡ true
    go Less k = absurd (hi_clear k)
    go Equal k = held (less_right y q t.hi (h.span).greater t.hi_is_point i.before (same_symmetric q t.hi ∙ (equal_is_same t.hi q).0 k))
    go Greater k = held (less_transitive y q t.hi i.is_point (h.span).greater t.hi_is_point i.before (turn_less t.hi q k))

-- the same towards the lesser end
pub goes_back : (e f : Edge) (p q : Point) → Meeting e f p q → IsClear e p q f → (x : Point) → IsPoint x → Spread f x → same_point x q ≡ true → (y : Point) → IsBetween e p q y → on f y ≡ true
goes_back e f p q h c x hx t g y i = go (compare p t.lo) refl
  where
    after_lo : compare t.lo q ≡ Less
    after_lo = less_right t.lo x q hx (h.span).greater t.after g

    before_hi : compare y t.hi ≡ Less
    before_hi = less_transitive y x t.hi i.is_point hx t.hi_is_point (less_right y q x (h.span).greater hx i.before (same_symmetric q x ∙ g)) t.before

    held : compare t.lo y ≡ Less → on f y ≡ true
    held k = t.holds y i.is_point (on_other_line e f (wide e p q h.span) h.one_line y i.is_on) k before_hi

    lo_line : side e.start e.end t.lo ≡ pos 0
    lo_line = (t.along e.start e.end (h.one_line).start (h.one_line).end).0

    lo_clear : compare p t.lo ≡ Less → ⊥
    lo_clear k = let z : true ≡ false = sym t.lo_on ∙ c t.lo record {
      is_point = t.lo_is_point;
      is_on = on_within e p q h.span t.lo t.lo_is_point lo_line k after_lo;
      after = k;
      before = after_lo;
    } in absurd (cc)

    go : (o : Ordering) → compare p t.lo ≡ o → on f y ≡ true
    go Less k = absurd (lo_clear k)
    go Equal k = held (less_left t.lo p y t.lo_is_point (h.span).lesser (same_symmetric t.lo p ∙ (equal_is_same p t.lo).0 k) i.after)
    go Greater k = held (less_transitive t.lo p y t.lo_is_point (h.span).lesser i.is_point (turn_less p t.lo k) i.after)

-- ---- of two edges that share two points none is vertical where the other isn't
-- each point of a vertical edge has its x
upright_coordinate : (f : Edge) → f.start.x ≡ f.end.x → (p : Point) → IsPoint p → on f p ≡ true → f.start.x *ℤ p.W ≡ p.X *ℤ pos 1
upright_coordinate f e p hp k = by_hull (hull_from_on f p hp k)
  where
    by_hull : OnHull f p → f.start.x *ℤ p.W ≡ p.X *ℤ pos 1
    by_hull o = dot_coordinate o.k o.m o.n f.start.x p.X p.W o.from_k (o.x_is ∙ ap (λ (z : ℤ). o.m *ℤ f.start.x +ℤ o.n *ℤ z) (sym e)) o.w_is

same_column : (s px pw qx qw : ℤ) → s *ℤ pw ≡ px *ℤ pos 1 → s *ℤ qw ≡ qx *ℤ pos 1 → qx *ℤ pw -ℤ px *ℤ qw ≡ pos 0
same_column s px pw qx qw e f = gap_none (px *ℤ qw) (qx *ℤ pw) (turned px pw qw s e ∙ solve (s ∷ pw ∷ qw ∷ []) ((var 0 ⊗ var 1) ⊗ var 2) ((var 0 ⊗ var 2) ⊗ var 1) tt ∙ sym (turned qx qw pw s f))
  where
    turned : (x w v a : ℤ) → a *ℤ w ≡ x *ℤ pos 1 → x *ℤ v ≡ (a *ℤ w) *ℤ v
    turned x w v a e = ap (λ (z : ℤ). z *ℤ v) (solve (x ∷ []) (var 0) (var 0 ⊗ lit (pos 1)) tt ∙ sym e)

-- two points of an edge that isn't vertical differ in x, and a vertical edge holds no two such points
pub not_upright_either : (e f : Edge) (p q : Point) → e.start.x ≢ e.end.x → Span e p q → on f p ≡ true → on f q ≡ true → f.start.x ≢ f.end.x
not_upright_either e f p q n s fp fq k = zero_not_positive (right p q) (same_column f.start.x p.X p.W q.X q.W (upright_coordinate f k p s.lesser fp) (upright_coordinate f k q s.greater fq)) (strictly_right e.start e.end p q n (on_line e p s.lesser_on) (on_line e q s.greater_on) s.in_order)
