-- What a gap shares with other edges: they hold all of it and its ends, or nothing between them; some of its points are no cuts.
use Rattle.std.proofs.Common.{ℕ, ◌+◌, ◌<◌, pos, ◌≡◌, ◌⊎◌, inl, inr, true, false, refl, ◌∙◌, List, Contains, arith}
use Rattle.std.specs.declared.cmp.Ordering.{Ordering}
use Rattle.std.specs.declared.cmp.Ordering.TheVariants.{Less, Equal, Greater}
use Rattle.basics.proofs.Bools.{not_both, by_contraries}
use Rattle.geometry_model.specs.Points.{Position, Point, IsPoint, point_at, compare, same_point, mediant, least_form}
use Rattle.geometry_model.specs.Geometries.{Edge}
use Rattle.geometry_model.specs.Sides.{side, on}
use Rattle.geometry_model.specs.Dimensions.{weighted}
use Rattle.geometry_model.specs.CutPoints.{IsCut, cut_points}
use Rattle.geometry_laws.proofs.Each.{Each, Among, each_at, each_of}
use Rattle.geometry_laws.proofs.PointOrder.{same_symmetric, equal_is_same, less_transitive}
use Rattle.geometry_laws.proofs.RingParity.{each_from_all, side_is_area, position_is_point}
use Rattle.geometry_laws.proofs.Locating.{start_is_on, end_is_on}
use Rattle.geometry_laws.proofs.LineOrder.{area_on_line}
use Rattle.geometry_laws.proofs.Cuts.{among_from_contains, turn_less, not_less_self, not_after_both, not_before_both, OneLine, one_line, hull_of_start, hull_of_end}
use Rattle.geometry_laws.proofs.Hulls.{on_from_hull}
use Rattle.geometry_laws.proofs.Avoid.{OffPoints, avoid_points}
use Rattle.matrix_laws.proofs.MatrixLists.{Some_of}
use Rattle.matrix_laws.proofs.CutOrder.{listed_is_cut, cut_is_listed}
use Rattle.matrix_laws.specs.Gaps.{IsBetween, IsClear, IsShared, IsGap}
use Rattle.matrix_laws.proofs.Between.{Span, wide, on_line, on_within, between_sum, mediant_is_between, least_mediant_between, After, after_lesser, Before, before_greater}

-- a gap's ends are two points of its edge, in order
pub span_of_gap : (e : Edge) (fs : List Edge) (p q : Point) → IsGap e fs p q → Span e p q
span_of_gap e fs p q g = record { lesser = g.lesser_is_point; greater = g.greater_is_point; lesser_on = g.lesser_on; greater_on = g.greater_on; in_order = g.in_order }

-- each of the other edges holds no point of the gap or all of them
pub clear_or_shared : (e : Edge) (fs : List Edge) (p q : Point) (f : Edge) → IsGap e fs p q → Among f fs → IsClear e p q f ⊎ IsShared e p q f
clear_or_shared e fs p q f g a = each_at (λ d. IsClear e p q d ⊎ IsShared e p q d) fs f (each_from_all (λ d. IsClear e p q d ⊎ IsShared e p q d) fs g.whole) a

-- an edge that holds a point of the gap isn't clear of it, so it holds all
pub point_shares : (e : Edge) (fs : List Edge) (p q x : Point) (f : Edge) → IsGap e fs p q → Among f fs → IsBetween e p q x → on f x ≡ true → IsShared e p q f
point_shares e fs p q x f g a i h = go (clear_or_shared e fs p q f g a)
  where
    go : IsClear e p q f ⊎ IsShared e p q f → IsShared e p q f
    go (inl c) = absurd (not_both (on f x) h (c x i))
    go (inr s) = s

-- so it is for each of the other edges
pub shared_point_shares_gap : (e : Edge) (fs : List Edge) (p q x : Point) (f : Edge) → IsGap e fs p q → Contains fs f → IsBetween e p q x → on f x ≡ true → IsShared e p q f
shared_point_shares_gap e fs p q x f g c i h = point_shares e fs p q x f g (among_from_contains fs f c) i h

-- ---- an edge that holds all points between two holds the two
-- an edge holds its start
pub start_on : (f : Edge) → on f (point_at f.start) ≡ true
start_on f = on_from_hull f (point_at f.start) (hull_of_start f)

-- and its end
pub end_on : (f : Edge) → on f (point_at f.end) ≡ true
end_on f = on_from_hull f (point_at f.end) (hull_of_end f)

-- an edge's start and end, in order where the start is less ..
pub span_forth : (f : Edge) → compare (point_at f.start) (point_at f.end) ≡ Less → Span f (point_at f.start) (point_at f.end)
span_forth f k = record { lesser = position_is_point f.start; greater = position_is_point f.end; lesser_on = start_on f; greater_on = end_on f; in_order = k }

-- .. and its end and start where the end is
span_back : (f : Edge) → compare (point_at f.end) (point_at f.start) ≡ Less → Span f (point_at f.end) (point_at f.start)
span_back f k = record { lesser = position_is_point f.end; greater = position_is_point f.start; lesser_on = end_on f; greater_on = start_on f; in_order = k }

-- a point of the line between the ends of the edge, which are in whatever order
pub on_forth : (f : Edge) (x : Point) → IsPoint x → side f.start f.end x ≡ pos 0 → compare (point_at f.start) x ≡ Less → compare x (point_at f.end) ≡ Less → on f x ≡ true
on_forth f x hx l k m = on_within f (point_at f.start) (point_at f.end) (span_forth f (less_transitive (point_at f.start) x (point_at f.end) (position_is_point f.start) hx (position_is_point f.end) k m)) x hx l k m

-- the same where its end is the lesser one
on_back : (f : Edge) (x : Point) → IsPoint x → side f.start f.end x ≡ pos 0 → compare (point_at f.end) x ≡ Less → compare x (point_at f.start) ≡ Less → on f x ≡ true
on_back f x hx l k m = on_within f (point_at f.end) (point_at f.start) (span_back f (less_transitive (point_at f.end) x (point_at f.start) (position_is_point f.end) hx (position_is_point f.start) k m)) x hx l k m

-- a point of the one edge is on the line of the other, both being on one line
line_of : (e f : Edge) (p q x : Point) → Span e p q → OneLine e f → on e x ≡ true → side f.start f.end x ≡ pos 0
line_of e f p q x s o h = side_is_area f.start f.end x ∙ area_on_line e.start e.end (point_at f.start) (point_at f.end) x (wide e p q s) o.start o.end (on_line e x h)

-- were the lesser point off the other edge, that would miss points right after it too
holds_lesser : (e f : Edge) (p q : Point) → Span e p q → OneLine e f → ((x : Point) → IsBetween e p q x → on f x ≡ true) → on f p ≡ true
holds_lesser e f p q s o h = go (compare p (point_at f.start)) refl (compare p (point_at f.end)) refl
  where
    line : side f.start f.end p ≡ pos 0
    line = line_of e f p q p s o s.lesser_on

    -- between the lesser end and both ends of the other edge
    second : (z : After e p q (point_at f.start)) → After e p z.point (point_at f.end) → ⊥
    second z y = not_both (on f y.point)
        (h y.point (record { is_point = y.between.is_point; is_on = y.between.is_on; after = y.between.after; before = less_transitive y.point z.point q y.between.is_point z.between.is_point s.greater y.between.before z.between.before }))
        (not_before_both f y.point y.between.is_point (less_transitive y.point z.point (point_at f.start) y.between.is_point z.between.is_point (position_is_point f.start) y.between.before z.nearer) y.nearer)

    first : compare p (point_at f.end) ≡ Less → After e p q (point_at f.start) → ⊥
    first l z = second z (after_lesser e p z.point (point_at f.end) (record { lesser = s.lesser; greater = z.between.is_point; lesser_on = s.lesser_on; greater_on = z.between.is_on; in_order = z.between.after }) (position_is_point f.end) o.end l)

    behind : compare (point_at f.start) p ≡ Less → compare (point_at f.end) p ≡ Less → IsBetween e p q (mediant p q) → ⊥
    behind k l i = not_both (on f (mediant p q)) (h (mediant p q) i) (not_after_both f (mediant p q) i.is_point
        (less_transitive (point_at f.start) p (mediant p q) (position_is_point f.start) s.lesser i.is_point k i.after)
        (less_transitive (point_at f.end) p (mediant p q) (position_is_point f.end) s.lesser i.is_point l i.after))

    go : (t : Ordering) → compare p (point_at f.start) ≡ t → (u : Ordering) → compare p (point_at f.end) ≡ u → on f p ≡ true
    go Equal k u l = start_is_on f p s.lesser (same_symmetric (point_at f.start) p ∙ (equal_is_same p (point_at f.start)).0 k)
    go Less k Equal l = end_is_on f p s.lesser (same_symmetric (point_at f.end) p ∙ (equal_is_same p (point_at f.end)).0 l)
    go Greater k Equal l = end_is_on f p s.lesser (same_symmetric (point_at f.end) p ∙ (equal_is_same p (point_at f.end)).0 l)
    go Less k Less l = absurd (first l (after_lesser e p q (point_at f.start) s (position_is_point f.start) o.start k))
    go Less k Greater l = on_back f p s.lesser line (turn_less p (point_at f.end) l) k
    go Greater k Less l = on_forth f p s.lesser line (turn_less p (point_at f.start) k) l
    go Greater k Greater l = absurd (behind (turn_less p (point_at f.start) k) (turn_less p (point_at f.end) l) (mediant_is_between e p q s))

-- were the greater point off it, it would miss points right before it
holds_greater : (e f : Edge) (p q : Point) → Span e p q → OneLine e f → ((x : Point) → IsBetween e p q x → on f x ≡ true) → on f q ≡ true
holds_greater e f p q s o h = go (compare q (point_at f.start)) refl (compare q (point_at f.end)) refl
  where
    line : side f.start f.end q ≡ pos 0
    line = line_of e f p q q s o s.greater_on

    -- between both ends of the other edge and the greater end
    second : (z : Before e p q (point_at f.start)) → Before e z.point q (point_at f.end) → ⊥
    second z y = not_both (on f y.point)
        (h y.point (record { is_point = y.between.is_point; is_on = y.between.is_on; after = less_transitive p z.point y.point s.lesser z.between.is_point y.between.is_point z.between.after y.between.after; before = y.between.before }))
        (not_after_both f y.point y.between.is_point (less_transitive (point_at f.start) z.point y.point (position_is_point f.start) z.between.is_point y.between.is_point z.nearer y.between.after) y.nearer)

    first : compare (point_at f.end) q ≡ Less → Before e p q (point_at f.start) → ⊥
    first l z = second z (before_greater e z.point q (point_at f.end) (record { lesser = z.between.is_point; greater = s.greater; lesser_on = z.between.is_on; greater_on = s.greater_on; in_order = z.between.before }) (position_is_point f.end) o.end l)

    ahead : compare q (point_at f.start) ≡ Less → compare q (point_at f.end) ≡ Less → IsBetween e p q (mediant p q) → ⊥
    ahead k l i = not_both (on f (mediant p q)) (h (mediant p q) i) (not_before_both f (mediant p q) i.is_point
        (less_transitive (mediant p q) q (point_at f.start) i.is_point s.greater (position_is_point f.start) i.before k)
        (less_transitive (mediant p q) q (point_at f.end) i.is_point s.greater (position_is_point f.end) i.before l))

    go : (t : Ordering) → compare q (point_at f.start) ≡ t → (u : Ordering) → compare q (point_at f.end) ≡ u → on f q ≡ true
    go Equal k u l = start_is_on f q s.greater (same_symmetric (point_at f.start) q ∙ (equal_is_same q (point_at f.start)).0 k)
    go Less k Equal l = end_is_on f q s.greater (same_symmetric (point_at f.end) q ∙ (equal_is_same q (point_at f.end)).0 l)
    go Greater k Equal l = end_is_on f q s.greater (same_symmetric (point_at f.end) q ∙ (equal_is_same q (point_at f.end)).0 l)
    go Less k Less l = absurd (ahead k l (mediant_is_between e p q s))
    go Less k Greater l = on_back f q s.greater line (turn_less q (point_at f.end) l) k
    go Greater k Less l = on_forth f q s.greater line (turn_less q (point_at f.start) k) l
    go Greater k Greater l = absurd (first (turn_less q (point_at f.end) l) (before_greater e p q (point_at f.start) s (position_is_point f.start) o.start (turn_less q (point_at f.start) k)))

-- so it holds both
pub shared_holds_ends : (e f : Edge) (p q : Point) → Span e p q → IsShared e p q f → (on f p ≡ true) × (on f q ≡ true)
shared_holds_ends e f p q s h = (holds_lesser e f p q s (one_line e f h.0) h.1, holds_greater e f p q s (one_line e f h.0) h.1)

-- so an edge that shares a gap holds the gap's ends
pub shared_gap_holds_ends : (e : Edge) (fs : List Edge) (p q : Point) (f : Edge) → IsGap e fs p q → Contains fs f → IsShared e p q f → (on f p ≡ true) × (on f q ≡ true)
shared_gap_holds_ends e fs p q f g c h = shared_holds_ends e f p q (span_of_gap e fs p q g) h

-- ---- points of a gap
-- a gap's ends are two points of its edge, so their mediant lies strictly between
pub gap_has_mediant : (e : Edge) (fs : List Edge) (p q : Point) → IsGap e fs p q → IsBetween e p q (least_form (mediant p q))
gap_has_mediant e fs p q g = least_mediant_between e p q (span_of_gap e fs p q g)

-- a point between that is no cut of some edges and positions
abbrev pub FreeBetween : Edge → Point → Point → List Edge → List Position → Type 0
FreeBetween e p q es ps = (x : Point) × IsBetween e p q x × (IsCut es ps x → ⊥)

-- two points between span a stretch, and that isn't covered by finitely many cuts
free_between : (e : Edge) (p q : Point) → Span e p q → (es : List Edge) (ps : List Position) → FreeBetween e p q es ps
free_between e p q s es ps = two (mediant_is_between e p q s)
  where
    some : (t : ℕ) → 0 < 1 + t
    some t = omega arith

    found : (x y : Point) → IsBetween e p q x → IsBetween e p q y → OffPoints (cut_points es ps) x y → FreeBetween e p q es ps
    found x y i j o = (weighted 1 x o.t y, between, λ c. none (cut_is_listed es ps (weighted 1 x o.t y) between.is_point c))
      where
        between : IsBetween e p q (weighted 1 x o.t y)
        between = between_sum e p q x y 1 o.t (some o.t) i j

        none : Some_of (λ c. same_point c (weighted 1 x o.t y) ≡ true) (cut_points es ps) → ⊥
        none c = not_both (same_point c.found (weighted 1 x o.t y)) c.has (each_at (λ d. same_point d (weighted 1 x o.t y) ≡ false) (cut_points es ps) c.found o.off c.among)

    are_points : Each IsPoint (cut_points es ps)
    are_points = each_of IsPoint (cut_points es ps) (λ c m. (listed_is_cut es ps c m).is_point)

    apart : (x y : Point) → compare x y ≡ Less → same_point x y ≡ false
    apart x y l = by_contraries (same_point x y) false (λ k. absurd (not_less_self x y k l)) refl

    second : (x y : Point) → IsBetween e p q x → IsBetween e p q y → compare x y ≡ Less → FreeBetween e p q es ps
    second x y i j l = found x y i j (avoid_points (cut_points es ps) x y i.is_point j.is_point (apart x y l) are_points)

    two : IsBetween e p q (mediant p q) → FreeBetween e p q es ps
    two i = then (mediant_is_between e (mediant p q) q (record { lesser = i.is_point; greater = s.greater; lesser_on = i.is_on; greater_on = s.greater_on; in_order = i.before }))
      where
        then : IsBetween e (mediant p q) q (mediant (mediant p q) q) → FreeBetween e p q es ps
        then j = second (mediant p q) (mediant (mediant p q) q) i
            (record { is_point = j.is_point; is_on = j.is_on; after = less_transitive p (mediant p q) (mediant (mediant p q) q) s.lesser i.is_point j.is_point i.after j.after; before = j.before }) j.after

-- so each gap has a point that is no cut
pub gap_has_no_cut : (e : Edge) (fs : List Edge) (p q : Point) → IsGap e fs p q → (es : List Edge) (ps : List Position) → FreeBetween e p q es ps
gap_has_no_cut e fs p q g es ps = free_between e p q (span_of_gap e fs p q g) es ps
