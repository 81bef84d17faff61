-- The list of cut points holds exactly the cuts, in least form and ascending.
use Rattle.std.proofs.Common.{◌≡◌, ◌≢◌, ◌⊎◌, inl, inr, Bool, true, false, ◌&&◌, if◌then◌else◌, refl, sym, subst, arith, List, [], ◌∷◌, ◌++◌, map, flat_map, ℤ, pos, ◌-ℤ◌, ◌<ℤ◌, int_lt}
use borrow.Author.Differences.{ints}
use native.Mathlib.Nat.{eq-one_of_dvd-one}
use Rattle.std.specs.Ordering.{int_eq}
use Rattle.std.proofs.lemmas.Bool.{or_cases, or_right, or_left, and_parts}
use Rattle.basics.proofs.Signs.{less_from}
use Rattle.basics.proofs.Tests.{equal_from}
use Rattle.basics.proofs.Orders.{zero_not_positive}
use Rattle.geometry_model.specs.Points.{Position, Point, IsPoint, IsLeast, point_at, same_point, least_form}
use Rattle.geometry_model.specs.Geometries.{Edge}
use Rattle.geometry_model.specs.Sides.{side, on, on_one_line}
use Rattle.geometry_model.specs.CutPoints.{IsCut, meeting_point, crossings, end_points}
use Rattle.geometry_model.proofs.LeastFormFacts.{least_is_least}
use Rattle.geometry_model.proofs.DimensionFacts.{is_false}
use Rattle.geometry_laws.proofs.PointOrder.{same_reflexive}
use Rattle.geometry_laws.proofs.Each.{Among, among_left, among_right, among_either}
use Rattle.matrix_laws.proofs.MatrixLists.{Some_of, among_from_contains, contains_from_among, among_map, map_among, among_flat_map, flat_map_among}
use Rattle.matrix_laws.proofs.EdgeMeeting.{before_turning}
use Rattle.matrix_laws.proofs.CutFacts.{turned_is_point, turned_is_nothing, least_is_nothing, crossing_found}

-- ---- a found crossing is shared by two edges not on one line
pub record IsCrossing (e f : Edge) (q : Point) : Type 0 where
  pub is_point : IsPoint q
  pub is_least : IsLeast q
  pub apart : on_one_line e f ≡ false
  pub on_first : on e q ≡ true
  pub on_second : on f q ≡ true

-- of edges on one line both ends of the second have side 0 of the first, so the W of the meeting point, their difference, is 0
one_line_meets_nowhere : (e f : Edge) → on_one_line e f ≡ true → (before_turning e f).W ≡ pos 0
one_line_meets_nowhere e f h = difference s t (equal_from s (pos 0) both.0) (equal_from t (pos 0) both.1)
  where
    difference : (y v : ℤ) → y ≡ pos 0 → v ≡ pos 0 → y -ℤ v ≡ pos 0
    difference y v g k = omega (arith, ints)

    s : ℤ
    s = side e.start e.end (point_at f.start)

    t : ℤ
    t = side e.start e.end (point_at f.end)

    both : (int_eq s (pos 0) ≡ true) × (int_eq t (pos 0) ≡ true)
    both = and_parts (int_eq s (pos 0)) (int_eq t (pos 0)) h

-- the tests that let a crossing through show it: a W above 0 is that of lines not parallel, and it is on both edges
pub crossing_is : (e f : Edge) (q : Point) → Among q (crossings e f) → IsCrossing e f q
crossing_is e f q a = go (int_lt (pos 0) m.W && on e m && on f m) refl a
  where
    m : Point
    m = least_form (meeting_point e f)

    made : (int_lt (pos 0) m.W && on e m && on f m) ≡ true → IsCrossing e f m
    made h =
        let outer : (int_lt (pos 0) m.W && on e m ≡ true) × (on f m ≡ true) = and_parts (int_lt (pos 0) m.W && on e m) (on f m) h in
        let inner : (int_lt (pos 0) m.W ≡ true) × (on e m ≡ true) = and_parts (int_lt (pos 0) m.W) (on e m) outer.0 in
        let above : pos 0 <ℤ m.W = less_from (pos 0) m.W inner.0 in
        let not_parallel : (before_turning e f).W ≢ pos 0 = λ z. zero_not_positive m.W (least_is_nothing (meeting_point e f) (turned_is_nothing (before_turning e f) z)) above in
        record {
          is_point = above;
          is_least = least_is_least (meeting_point e f) (turned_is_point (before_turning e f) not_parallel);
          apart = is_false (on_one_line e f) (λ l. not_parallel (one_line_meets_nowhere e f l));
          on_first = inner.1;
          on_second = outer.1;
        }

    go : (b : Bool) → (int_lt (pos 0) m.W && on e m && on f m) ≡ b → Among q (if b then m ∷ [] else []) → IsCrossing e f q
    go true h (inl g) = subst (IsCrossing e f) (sym g) (made h)
    go true h (inr c) = absurd c
    go false h c = absurd c

-- ---- the cuts before they are put in order
abbrev pub all_cuts : List Edge → List Position → List Point
all_cuts es ps = flat_map end_points es ++ map point_at ps ++ flat_map (λ e. flat_map (crossings e) es) es

pub record IsLeastCut (es : List Edge) (ps : List Position) (q : Point) : Type 0 where
  pub is_point : IsPoint q
  pub is_least : IsLeast q
  pub is_cut : IsCut es ps q

position_is_point : (a : Position) → IsPoint (point_at a)
position_is_point a = omega (arith, ints)

-- a position's W is 1, which nothing but 1 divides
position_is_least : (a : Position) → IsLeast (point_at a)
position_is_least a = λ d hx hy hw. eq-one_of_dvd-one hw

-- the ends of an edge are cuts
end_is_cut : (es : List Edge) (ps : List Position) (e : Edge) → Among e es → (q : Point) → Among q (end_points e) → IsLeastCut es ps q
end_is_cut es ps e a q (inl g) = subst (IsLeastCut es ps) (sym g) record {
  is_point = position_is_point e.start;
  is_least = position_is_least e.start;
  is_cut = IsCut.AtEnd (position_is_point e.start) e (contains_from_among es e a) (or_left (same_point (point_at e.start) (point_at e.start)) (same_point (point_at e.end) (point_at e.start)) (same_reflexive (point_at e.start)));
}
end_is_cut es ps e a q (inr (inl g)) = subst (IsLeastCut es ps) (sym g) record {
  is_point = position_is_point e.end;
  is_least = position_is_least e.end;
  is_cut = IsCut.AtEnd (position_is_point e.end) e (contains_from_among es e a) (or_right (same_point (point_at e.start) (point_at e.end)) (same_point (point_at e.end) (point_at e.end)) (same_reflexive (point_at e.end)));
}
end_is_cut es ps e a q (inr (inr c)) = absurd c

-- the listed positions are cuts
listed_is_cut : (es : List Edge) (ps : List Position) (a : Position) → Among a ps → (q : Point) → q ≡ point_at a → IsLeastCut es ps q
listed_is_cut es ps a h q g = subst (IsLeastCut es ps) (sym g) record {
  is_point = position_is_point a;
  is_least = position_is_least a;
  is_cut = IsCut.Listed (position_is_point a) a (contains_from_among ps a h) (same_reflexive (point_at a));
}

-- the crossings are cuts: each is shared by two edges not on one line
crossing_is_cut : (es : List Edge) (ps : List Position) (e f : Edge) → Among e es → Among f es → (q : Point) → IsCrossing e f q → IsLeastCut es ps q
crossing_is_cut es ps e f a b q h = record {
  is_point = h.is_point;
  is_least = h.is_least;
  is_cut = IsCut.AtCrossing h.is_point e f (contains_from_among es e a) (contains_from_among es f b) h.apart h.on_first h.on_second;
}

-- what is listed is an end, a listed position or a crossing, and each of them is a cut
pub cut_is_cut : (es : List Edge) (ps : List Position) (q : Point) → Among q (all_cuts es ps) → IsLeastCut es ps q
cut_is_cut es ps q a = outer (among_either q (flat_map end_points es ++ map point_at ps) (flat_map (λ e. flat_map (crossings e) es) es) a)
  where
    at_end : Some_of (λ e. Among q (end_points e)) es → IsLeastCut es ps q
    at_end s = end_is_cut es ps s.found s.among q s.has

    at_listed : Some_of (λ b. q ≡ point_at b) ps → IsLeastCut es ps q
    at_listed s = listed_is_cut es ps s.found s.among q s.has

    at_second : (e : Edge) → Among e es → Some_of (λ f. Among q (crossings e f)) es → IsLeastCut es ps q
    at_second e b s = crossing_is_cut es ps e s.found b s.among q (crossing_is e s.found q s.has)

    at_crossing : Some_of (λ e. Among q (flat_map (crossings e) es)) es → IsLeastCut es ps q
    at_crossing s = at_second s.found s.among (among_flat_map (crossings s.found) es q s.has)

    inner : Among q (flat_map end_points es) ⊎ Among q (map point_at ps) → IsLeastCut es ps q
    inner (inl b) = at_end (among_flat_map end_points es q b)
    inner (inr b) = at_listed (among_map point_at ps q b)

    outer : Among q (flat_map end_points es ++ map point_at ps) ⊎ Among q (flat_map (λ e. flat_map (crossings e) es) es) → IsLeastCut es ps q
    outer (inl b) = inner (among_either q (flat_map end_points es) (map point_at ps) b)
    outer (inr b) = at_crossing (among_flat_map (λ e. flat_map (crossings e) es) es q b)

-- ---- each cut is among them
-- the ends, the listed positions and the crossings are all among the cuts before they are put in order
in_ends : (es : List Edge) (ps : List Position) (q : Point) → Among q (flat_map end_points es) → Among q (all_cuts es ps)
in_ends es ps q a = among_left q (flat_map end_points es ++ map point_at ps) _ (among_left q (flat_map end_points es) (map point_at ps) a)

in_listed : (es : List Edge) (ps : List Position) (q : Point) → Among q (map point_at ps) → Among q (all_cuts es ps)
in_listed es ps q a = among_left q (flat_map end_points es ++ map point_at ps) _ (among_right q (flat_map end_points es) (map point_at ps) a)

in_crossings : (es : List Edge) (ps : List Position) (q : Point) → Among q (flat_map (λ e. flat_map (crossings e) es) es) → Among q (all_cuts es ps)
in_crossings es ps q a = among_right q (flat_map end_points es ++ map point_at ps) _ a

-- each cut is one of the three, so it is listed in least form
pub cut_found : (es : List Edge) (ps : List Position) (p : Point) → IsPoint p → IsCut es ps p → Some_of (λ q. same_point q p ≡ true) (all_cuts es ps)
cut_found es ps p hp (IsCut.AtEnd _ e c h) = go (or_cases (same_point (point_at e.start) p) (same_point (point_at e.end) p) h)
  where
    go : (same_point (point_at e.start) p ≡ true) ⊎ (same_point (point_at e.end) p ≡ true) → Some_of (λ q. same_point q p ≡ true) (all_cuts es ps)
    go (inl g) = record { found = point_at e.start; among = in_ends es ps (point_at e.start) (flat_map_among end_points es e (point_at e.start) (among_from_contains es e c) (inl refl)); has = g }
    go (inr g) = record { found = point_at e.end; among = in_ends es ps (point_at e.end) (flat_map_among end_points es e (point_at e.end) (among_from_contains es e c) (inr (inl refl))); has = g }
cut_found es ps p hp (IsCut.Listed _ a c h) = record { found = point_at a; among = in_listed es ps (point_at a) (map_among point_at ps a (among_from_contains ps a c)); has = h }
cut_found es ps p hp (IsCut.AtCrossing _ e f c d apart he hf) = go (crossing_found e f p hp apart he hf)
  where
    go : Some_of (λ q. same_point q p ≡ true) (crossings e f) → Some_of (λ q. same_point q p ≡ true) (all_cuts es ps)
    go s = record {
      found = s.found;
      among = in_crossings es ps s.found (flat_map_among (λ x. flat_map (crossings x) es) es e s.found (among_from_contains es e c) (flat_map_among (crossings e) es f s.found (among_from_contains es f d) s.among));
      has = s.has;
    }
