-- The stops of an edge ascend, and between neighbours of them each of the others holds all points or none.
use Rattle.std.proofs.Common.{◌≡◌, ◌⊎◌, inl, inr, Bool, true, false, not, ◌||◌, refl, sym, ap, subst, ◌∙◌, List, [], ◌∷◌, ◌++◌, filter, Any, Contains, pos, ◌≤ℤ◌, arith}
use Rattle.std.specs.declared.cmp.Ordering.TheVariants.{Less}
use Rattle.std.specs.Ordering.{is_le, ord_min, ord_max}
use Rattle.std.proofs.lemmas.Bool.{and_from, or_left, or_right, or_cases}
use Rattle.geometry_model.specs.Points.{Position, Point, IsPoint, point_at, same_point, compare}
use Rattle.geometry_model.specs.Geometries.{Edge}
use Rattle.geometry_model.specs.Sides.{on, on_one_line}
use Rattle.geometry_model.specs.CutPoints.{IsCut, is_end}
use Rattle.geometry_model.specs.CutPoints.IsCut.{AtEnd}
use Rattle.geometry_model.specs.Pieces.{Piece, stretches}
use Rattle.geometry_model.proofs.DimensionFacts.{is_false}
use Rattle.fraction.specs.Orders.{position_order}
use Rattle.fraction.specs.Ranges.{meeting_limit}
use Rattle.geometry_laws.specs.PointLaws.{reversed}
use Rattle.geometry_laws.proofs.Each.{Each, Among, each_of, each_append, among_left, among_right, among_either}
use Rattle.geometry_laws.proofs.PointOrder.{same_reflexive, same_symmetric, same_transitive, compare_reversed, less_transitive}
use Rattle.geometry_laws.proofs.RingParity.{position_is_point}
use Rattle.geometry_laws.proofs.Hulls.{on_parts}
use Rattle.geometry_laws.proofs.LineOrder.{area_on_line}
use Rattle.geometry_laws.proofs.Triangles.{dot_is_at}
use Rattle.geometry_laws.proofs.Cuts.{OneLine, one_line}
use Rattle.matrix_laws.proofs.MatrixLists.{Some_of, among_from_contains, contains_from_among, some_from_any, any_from_some, among_filter, filter_among}
use Rattle.matrix_laws.proofs.Sorted.{Sorted, filter-sorted}
use Rattle.matrix_laws.proofs.Stretches.{Neighbours, stretch_is, less_right, less_left}
use Rattle.noding.specs.Meetings.{on_both, is_common_cut}
use Rattle.noding.specs.Nodings.{ListsPoint, AscendingPoints}
use Rattle.noding.proofs.Order.{NotAfter, not_after_less, not_after_cases, not_after_or, not_after_trans}
use Rattle.noding.proofs.Ends.{HasEnds, has_ends, same_position, at_low, at_high, not_before_low, not_after_high, held}
use Rattle.noding.proofs.Found.{end_of}
use Rattle.noding.proofs.OneLine.{OnLine, start_on_line, end_on_line}
use Rattle.noding.proofs.NodeCuts.{cut_is_point, end_is_on_edge, common_at_end, common_at_crossing}
use Rattle.noding.proofs.NodeSteps.{sorted_from_pairs}
use Rattle.noding.proofs.BreakPoints.{all_of, position_is_triple}
use Rattle.matrix_laws.specs.Gaps.{IsBetween, IsClear, IsShared, IsGap, IsWithin, AreGaps}
use Rattle.noding.specs.Steps.{AreShared, stops_of}

-- ---- points in order
before_is_not_after : (p q : Point) → compare p q ≡ Less → NotAfter q p → ⊥
before_is_not_after p q e h = let clash : false ≡ true = sym (ap is_le (compare_reversed p q ∙ ap reversed e)) ∙ h in cc

not_both_before : (p q : Point) → compare p q ≡ Less → compare q p ≡ Less → ⊥
not_both_before p q e f = before_is_not_after p q e (not_after_less q p f)

less_then_not_after : (p q r : Point) → IsPoint p → IsPoint q → IsPoint r → compare p q ≡ Less → NotAfter q r → compare p r ≡ Less
less_then_not_after p q r hp hq hr e h = go (not_after_cases q r h)
  where
    go : (compare q r ≡ Less) ⊎ (same_point q r ≡ true) → compare p r ≡ Less
    go (inl f) = less_transitive p q r hp hq hr e f
    go (inr f) = less_right p q r hq hr e f

not_after_then_less : (p q r : Point) → IsPoint p → IsPoint q → IsPoint r → NotAfter p q → compare q r ≡ Less → compare p r ≡ Less
not_after_then_less p q r hp hq hr h f = go (not_after_cases p q h)
  where
    go : (compare p q ≡ Less) ⊎ (same_point p q ≡ true) → compare p r ≡ Less
    go (inl e) = less_transitive p q r hp hq hr e f
    go (inr e) = less_left p q r hp hq e f

sorted_with_last : (xs : List Point) (z : Point) → Sorted compare xs → Each (λ x. compare x z ≡ Less) xs → Sorted compare (xs ++ z ∷ [])
sorted_with_last [] z s h = (tt, tt)
sorted_with_last (x ∷ xs) z s h = (each_append (λ y. compare x y ≡ Less) xs (z ∷ []) s.0 (h.0, tt), sorted_with_last xs z s.1 h.1)

-- ---- an edge with its lesser and its greater end
start_is_end : (e : Edge) → is_end e (point_at e.start) ≡ true
start_is_end e = or_left (same_point (point_at e.start) (point_at e.start)) (same_point (point_at e.end) (point_at e.start)) (same_reflexive (point_at e.start))

end_is_end : (e : Edge) → is_end e (point_at e.end) ≡ true
end_is_end e = or_right (same_point (point_at e.start) (point_at e.end)) (same_point (point_at e.end) (point_at e.end)) (same_reflexive (point_at e.end))

low_is_end : (e : Edge) (low high : Position) → HasEnds e low high → is_end e (point_at low) ≡ true
low_is_end e low high h = at_low (λ a. is_end e (point_at a) ≡ true) e low high h (start_is_end e) (end_is_end e)

high_is_end : (e : Edge) (low high : Position) → HasEnds e low high → is_end e (point_at high) ≡ true
high_is_end e low high h = at_high (λ a. is_end e (point_at a) ≡ true) e low high h (start_is_end e) (end_is_end e)

-- a position on an edge's line between two points of it is on the edge
on_between : (e : Edge) → (e.start ≡ e.end → ⊥) → (a : Position) (p q : Point) → IsPoint p → IsPoint q → on e p ≡ true → on e q ≡ true → OnLine e a → NotAfter p (point_at a) → NotAfter (point_at a) q → on e (point_at a) ≡ true
on_between e wide a p q hp hq kp kq line f g = go _ _ (has_ends e wide)
  where
    go : (low high : Position) → HasEnds e low high → on e (point_at a) ≡ true
    go low high h = held e low high h (point_at a) (position_is_point a)
        (area_on_line e.start e.end (point_at low) (point_at high) (point_at a) wide (at_low (OnLine e) e low high h (start_on_line e) (end_on_line e)) (at_high (OnLine e) e low high h (start_on_line e) (end_on_line e)) line)
        (not_after_trans (point_at low) p (point_at a) (position_is_point low) hp (position_is_point a) (not_before_low e low high h p hp kp) f)
        (not_after_trans (point_at a) q (point_at high) (position_is_point a) hq (position_is_point high) g (not_after_high e low high h q hq kq))

-- ---- where no cut that both edges hold lies strictly between two points, the other holds all points between or none
abbrev NoCut : Edge → Edge → Point → Point → Type 0
NoCut e f p q = (x : Point) → IsPoint x → compare p x ≡ Less → compare x q ≡ Less → is_common_cut e f x ≡ true → ⊥

abbrev ClearOrShared : Edge → Edge → Point → Point → Type 0
ClearOrShared e f p q = IsClear e p q f ⊎ IsShared e p q f

crossing_clear : (e f : Edge) (p q : Point) → on_one_line e f ≡ false → NoCut e f p q → IsClear e p q f
crossing_clear e f p q apart none = λ x b. is_false (on f x) (λ k. none x b.is_point b.after b.before (common_at_crossing e f x b.is_on k apart))

dot_clear : (e f : Edge) (p q : Point) → f.start ≡ f.end → NoCut e f p q → IsClear e p q f
dot_clear e f p q is none = λ x b. is_false (on f x) (λ k. none x b.is_point b.after b.before (common_at_end e f x b.is_on k (ends x b k)))
  where
    ends : (x : Point) → IsBetween e p q x → on f x ≡ true → is_end f x ≡ true
    ends x b k = or_left (same_point (point_at f.start) x) (same_point (point_at f.end) x)
        (dot_is_at f.start x b.is_point (subst (λ (a : Position). on (record { start = f.start; end = a }) x ≡ true) (sym is) k))

lined_clear : (e f : Edge) (p q : Point) (low high : Position) → (e.start ≡ e.end → ⊥) → IsPoint p → IsPoint q → on e p ≡ true → on e q ≡ true → on_one_line e f ≡ true → HasEnds f low high → NoCut e f p q → ClearOrShared e f p q
lined_clear e f p q low high wide hp hq kp kq one h none = go (not_after_or (point_at low) p) (not_after_or q (point_at high))
  where
    line : OneLine e f
    line = one_line e f one

    low_line : OnLine e low
    low_line = at_low (OnLine e) f low high h line.start line.end

    high_line : OnLine e high
    high_line = at_high (OnLine e) f low high h line.start line.end

    low_on : on f (point_at low) ≡ true
    low_on = end_is_on_edge f (point_at low) (position_is_point low) (low_is_end f low high h)

    high_on : on f (point_at high) ≡ true
    high_on = end_is_on_edge f (point_at high) (position_is_point high) (high_is_end f low high h)

    starts_within : compare p (point_at low) ≡ Less → (x : Point) → IsBetween e p q x → on f x ≡ true → ⊥
    starts_within l x b k =
        let past : NotAfter (point_at low) x = not_before_low f low high h x b.is_point k in
        none (point_at low) (position_is_point low) l (not_after_then_less (point_at low) x q (position_is_point low) b.is_point hq past b.before)
        (common_at_end e f (point_at low) (on_between e wide low p x hp b.is_point kp b.is_on low_line (not_after_less p (point_at low) l) past) low_on (low_is_end f low high h))

    ends_within : compare (point_at high) q ≡ Less → (x : Point) → IsBetween e p q x → on f x ≡ true → ⊥
    ends_within l x b k =
        let short : NotAfter x (point_at high) = not_after_high f low high h x b.is_point k in
        none (point_at high) (position_is_point high) (less_then_not_after p x (point_at high) hp b.is_point (position_is_point high) b.after short) l
        (common_at_end e f (point_at high) (on_between e wide high x q b.is_point hq b.is_on kq high_line short (not_after_less (point_at high) q l)) high_on (high_is_end f low high h))

    holds : NotAfter (point_at low) p → NotAfter q (point_at high) → (x : Point) → IsBetween e p q x → on f x ≡ true
    holds l m x b = held f low high h x b.is_point
        (area_on_line e.start e.end (point_at low) (point_at high) x wide low_line high_line (on_parts e x b.is_on).on_line)
        (not_after_trans (point_at low) p x (position_is_point low) hp b.is_point l (not_after_less p x b.after))
        (not_after_trans x q (point_at high) b.is_point hq (position_is_point high) (not_after_less x q b.before) m)

    go : NotAfter (point_at low) p ⊎ (compare p (point_at low) ≡ Less) → NotAfter q (point_at high) ⊎ (compare (point_at high) q ≡ Less) → ClearOrShared e f p q
    go (inr l) m = inl (λ x b. is_false (on f x) (λ k. starts_within l x b k))
    go (inl l) (inr m) = inl (λ x b. is_false (on f x) (λ k. ends_within m x b k))
    go (inl l) (inl m) = inr (one, holds l m)

clear_or_shared : (e f : Edge) (p q : Point) → (e.start ≡ e.end → ⊥) → IsPoint p → IsPoint q → on e p ≡ true → on e q ≡ true → NoCut e f p q → ClearOrShared e f p q
clear_or_shared e f p q wide hp hq kp kq none = go (on_one_line e f) refl (same_point (point_at f.start) (point_at f.end)) refl
  where
    differ : same_point (point_at f.start) (point_at f.end) ≡ false → f.start ≡ f.end → ⊥
    differ k is = let clash : true ≡ false = sym (subst (λ (a : Position). same_point (point_at f.start) (point_at a) ≡ true) is (same_reflexive (point_at f.start))) ∙ k in cc

    go : (s : Bool) → on_one_line e f ≡ s → (t : Bool) → same_point (point_at f.start) (point_at f.end) ≡ t → ClearOrShared e f p q
    go false k t l = inl (crossing_clear e f p q k none)
    go true k true l = inl (dot_clear e f p q (same_position f.start f.end l) none)
    go true k false l = lined_clear e f p q _ _ wide hp hq kp kq k (has_ends f (differ l)) none

-- ---- the stops
pub record IsStop (e : Edge) (others : List Edge) (p : Point) : Type 0 where
  pub is_cut : IsCut (e ∷ others) [] p
  pub on_edge : on e p ≡ true
  pub limit : p.W ≤ℤ pos meeting_limit

abbrev inner : Edge → List Point → List Point
inner e points = filter (λ p. not (is_end e p)) points

abbrev stops_from : Edge → List Point → Position → Position → List Point
stops_from e points low high = point_at low ∷ inner e points ++ point_at high ∷ []

end_is_stop : (e : Edge) (others : List Edge) (a : Position) → is_end e (point_at a) ≡ true → IsStop e others (point_at a)
end_is_stop e others a k = record {
  is_cut = AtEnd (position_is_point a) e (0, omega arith, refl) k;
  on_edge = end_is_on_edge e (point_at a) (position_is_point a) k;
  limit = (position_is_triple a).limit;
}

no_end : (b : Bool) → not b ≡ true → b ≡ true → ⊥
no_end true h k = let clash : false ≡ true = h in cc
no_end false h k = let clash : false ≡ true = k in cc

stop_is : (e : Edge) (others : List Edge) (points : List Point) (low high : Position) → HasEnds e low high → AreShared e others points → (p : Point) → Among p (stops_from e points low high) → IsStop e others p
stop_is e others points low high h s p (inl k) = subst (IsStop e others) (sym k) (end_is_stop e others low (low_is_end e low high h))
stop_is e others points low high h s p (inr a) = go (among_either p (inner e points) (point_at high ∷ []) a)
  where
    of_shared : Contains points p → IsStop e others p
    of_shared c = record { is_cut = (s.from p c).is_cut; on_edge = (s.from p c).on_edge; limit = (s.from p c).limit }

    go : Among p (inner e points) ⊎ Among p (point_at high ∷ []) → IsStop e others p
    go (inl b) = of_shared (contains_from_among points p (among_filter (λ q. not (is_end e q)) points p b).0)
    go (inr (inl k)) = subst (IsStop e others) (sym k) (end_is_stop e others high (high_is_end e low high h))
    go (inr (inr c)) = absurd c

stop_is_point : (e : Edge) (others : List Edge) (p : Point) → IsStop e others p → IsPoint p
stop_is_point e others p s = cut_is_point (e ∷ others) [] p s.is_cut

record IsInner (e : Edge) (p : Point) : Type 0 where
  is_point : IsPoint p
  on_edge : on e p ≡ true
  ends_nothing : is_end e p ≡ true → ⊥

stops_ascend : (e : Edge) (others : List Edge) (points : List Point) (low high : Position) → HasEnds e low high → AreShared e others points → AscendingPoints points → Sorted compare (stops_from e points low high)
stops_ascend e others points low high h s up = (
  each_append (λ y. compare (point_at low) y ≡ Less) (inner e points) (point_at high ∷ []) (each_of (λ y. compare (point_at low) y ≡ Less) (inner e points) after) (h.in_order, tt),
  sorted_with_last (inner e points) (point_at high) (filter-sorted compare (λ q. not (is_end e q)) points (sorted_from_pairs compare points up)) (each_of (λ y. compare y (point_at high) ≡ Less) (inner e points) before),
)
  where
    inner_is : (p : Point) → Among p (inner e points) → IsInner e p
    inner_is p a =
        let both = among_filter (λ q. not (is_end e q)) points p a in
        let shared = s.from p (contains_from_among points p both.0) in
        record { is_point = cut_is_point (e ∷ others) [] p shared.is_cut; on_edge = shared.on_edge; ends_nothing = no_end (is_end e p) both.1 }

    moved_end : (a : Position) (p : Point) → is_end e (point_at a) ≡ true → same_point (point_at a) p ≡ true → is_end e p ≡ true
    moved_end a p k same = go (or_cases (same_point (point_at e.start) (point_at a)) (same_point (point_at e.end) (point_at a)) k)
      where
        go : (same_point (point_at e.start) (point_at a) ≡ true) ⊎ (same_point (point_at e.end) (point_at a) ≡ true) → is_end e p ≡ true
        go (inl l) = or_left (same_point (point_at e.start) p) (same_point (point_at e.end) p) (same_transitive (point_at e.start) (point_at a) p (position_is_point a) l same)
        go (inr l) = or_right (same_point (point_at e.start) p) (same_point (point_at e.end) p) (same_transitive (point_at e.end) (point_at a) p (position_is_point a) l same)

    after : (p : Point) → Among p (inner e points) → compare (point_at low) p ≡ Less
    after p a = let i = inner_is p a in go i (not_after_cases (point_at low) p (not_before_low e low high h p i.is_point i.on_edge))
      where
        go : IsInner e p → (compare (point_at low) p ≡ Less) ⊎ (same_point (point_at low) p ≡ true) → compare (point_at low) p ≡ Less
        go i (inl l) = l
        go i (inr l) = absurd (i.ends_nothing (moved_end low p (low_is_end e low high h) l))

    before : (p : Point) → Among p (inner e points) → compare p (point_at high) ≡ Less
    before p a = let i = inner_is p a in go i (not_after_cases p (point_at high) (not_after_high e low high h p i.is_point i.on_edge))
      where
        go : IsInner e p → (compare p (point_at high) ≡ Less) ⊎ (same_point p (point_at high) ≡ true) → compare p (point_at high) ≡ Less
        go i (inl l) = l
        go i (inr l) = absurd (i.ends_nothing (moved_end high p (high_is_end e low high h) (same_symmetric (point_at high) p ∙ l)))

-- each shared point is one of the stops
stops_list : (e : Edge) (others : List Edge) (points : List Point) (low high : Position) → HasEnds e low high → AreShared e others points → (p : Point) → ListsPoint points p → Some_of (λ q. same_point q p ≡ true) (stops_from e points low high)
stops_list e others points low high h s p l = at (some_from_any (λ q. same_point q p ≡ true) points l)
  where
    at : Some_of (λ q. same_point q p ≡ true) points → Some_of (λ q. same_point q p ≡ true) (stops_from e points low high)
    at f = go (is_end e f.found) refl
      where
        is_point : IsPoint f.found
        is_point = cut_is_point (e ∷ others) [] f.found (s.from f.found (contains_from_among points f.found f.among)).is_cut

        end : (same_point (point_at low) f.found ≡ true) ⊎ (same_point (point_at high) f.found ≡ true) → Some_of (λ q. same_point q p ≡ true) (stops_from e points low high)
        end (inl k) = record { found = point_at low; among = inl refl; has = same_transitive (point_at low) f.found p is_point k f.has }
        end (inr k) = record { found = point_at high; among = inr (among_right (point_at high) (inner e points) (point_at high ∷ []) (inl refl)); has = same_transitive (point_at high) f.found p is_point k f.has }

        go : (b : Bool) → is_end e f.found ≡ b → Some_of (λ q. same_point q p ≡ true) (stops_from e points low high)
        go true k = end (end_of e low high h f.found k)
        go false k = record { found = f.found; among = inr (among_left f.found (inner e points) (point_at high ∷ []) (filter_among (λ q. not (is_end e q)) points f.found f.among (ap not k))); has = f.has }

-- ---- the gaps between neighbouring stops
stretch_is_gap : (e : Edge) (others : List Edge) (points : List Point) (low high : Position) → (e.start ≡ e.end → ⊥) → HasEnds e low high → AreShared e others points → AscendingPoints points
    → (c : Piece) → Among c (stretches (stops_from e points low high)) → IsGap e others c.lesser c.greater
stretch_is_gap e others points low high wide h s up c a = made (stretch_is (stops_from e points low high) (each_of IsPoint (stops_from e points low high) points_are) (stops_ascend e others points low high h s up) c a)
  where
    stop : (p : Point) → Among p (stops_from e points low high) → IsStop e others p
    stop = stop_is e others points low high h s

    points_are : (p : Point) → Among p (stops_from e points low high) → IsPoint p
    points_are p b = stop_is_point e others p (stop p b)

    made : Neighbours (stops_from e points low high) c → IsGap e others c.lesser c.greater
    made n = record {
      lesser_is_point = points_are c.lesser n.lesser;
      greater_is_point = points_are c.greater n.greater;
      lesser_on = (stop c.lesser n.lesser).on_edge;
      greater_on = (stop c.greater n.greater).on_edge;
      in_order = n.in_order;
      whole = all_of (λ f. IsClear e c.lesser c.greater f ⊎ IsShared e c.lesser c.greater f) others (λ f b. clear_or_shared e f c.lesser c.greater wide (points_are c.lesser n.lesser) (points_are c.greater n.greater)
          (stop c.lesser n.lesser).on_edge (stop c.greater n.greater).on_edge (no_cut f b));
    }
      where
        no_cut : (f : Edge) → Contains others f → NoCut e f c.lesser c.greater
        no_cut f b x hx past short k = at (stops_list e others points low high h s x (s.found f b x hx k))
          where
            at : Some_of (λ q. same_point q x ≡ true) (stops_from e points low high) → ⊥
            at z = n.none z.found z.among
                (less_right c.lesser x z.found hx (points_are z.found z.among) past (same_symmetric x z.found ∙ z.has))
                (less_left z.found x c.greater (points_are z.found z.among) hx z.has short)

-- each point from the first to the last is within a stretch
some_within : (p : Point) (xs : List Point) (z x : Point) → (compare x p ≡ Less → ⊥) → (compare z x ≡ Less → ⊥) → Some_of (λ c. IsWithin c x) (stretches (p ∷ xs ++ z ∷ []))
some_within p [] z x f g = record { found = record { lesser = p; greater = z }; among = inl refl; has = record { not_before = f; not_after = g } }
some_within p (q ∷ xs) z x f g = go (not_after_or x q) (λ l. some_within q xs z x (λ k. not_both_before q x l k) g)
  where
    next : Some_of (λ c. IsWithin c x) (stretches (q ∷ xs ++ z ∷ [])) → Some_of (λ c. IsWithin c x) (stretches (p ∷ q ∷ xs ++ z ∷ []))
    next s = record { found = s.found; among = inr s.among; has = s.has }

    go : NotAfter x q ⊎ (compare q x ≡ Less) → (compare q x ≡ Less → Some_of (λ c. IsWithin c x) (stretches (q ∷ xs ++ z ∷ []))) → Some_of (λ c. IsWithin c x) (stretches (p ∷ q ∷ xs ++ z ∷ []))
    go (inl l) rest = record { found = record { lesser = p; greater = q }; among = inl refl; has = record { not_before = f; not_after = λ k. before_is_not_after q x k l } }
    go (inr l) rest = next (rest l)

-- ---- all that is asked of gaps
common_cut : (e f : Edge) (x : Point) → on e x ≡ true → on f x ≡ true → is_end e x || is_end f x ≡ true → is_common_cut e f x ≡ true
common_cut e f x ke kf k = and_from (on_both e f x) (is_end e x || is_end f x || not (on_one_line e f)) (and_from (on e x) (on f x) ke kf) (or_left (is_end e x || is_end f x) (not (on_one_line e f)) k)

gaps_from : (e : Edge) (others : List Edge) (points : List Point) (low high : Position) → (e.start ≡ e.end → ⊥) → HasEnds e low high → AreShared e others points → AscendingPoints points
    → AreGaps e others (record { shared = points; stops = stops_from e points low high })
gaps_from e others points low high wide h s up = record {
  shared_on = all_of (λ p. IsPoint p × (on e p ≡ true) × Any (λ f. on f p ≡ true) others) points (λ p c. (cut_is_point (e ∷ others) [] p (s.from p c).is_cut, (s.from p c).on_edge, (s.from p c).on_other));
  found = λ f c x hx ke kf k. s.found f c x hx (common_cut e f x ke kf k);
  crossed = λ f c x hx ke kf k. s.found f c x hx (common_at_crossing e f x ke kf k);
  gaps = all_of (λ c. IsGap e others c.lesser c.greater) (stretches stops) (λ c b. stretch_is_gap e others points low high wide h s up c (among_from_contains (stretches stops) c b));
  cuts = all_of (IsCut (e ∷ others) []) stops (λ p b. (stop p b).is_cut);
  whole = λ x hx k. any_from_some (λ c. IsWithin c x) (stretches stops) (some_within (point_at low) (inner e points) (point_at high) x
      (λ l. before_is_not_after x (point_at low) l (not_before_low e low high h x hx k)) (λ l. before_is_not_after (point_at high) x l (not_after_high e low high h x hx k)));
  limits = all_of (λ p. p.W ≤ℤ pos meeting_limit) stops (λ p b. (stop p b).limit);
}
  where
    stops : List Point
    stops = stops_from e points low high

    stop : (p : Point) → Contains stops p → IsStop e others p
    stop p b = stop_is e others points low high h s p (among_from_contains stops p b)

pub stops_are_gaps : (e : Edge) (others : List Edge) (points stops : List Point) → (e.start ≡ e.end → ⊥) → AreShared e others points → AscendingPoints points → stops ≡ stops_of e points
    → AreGaps e others (record { shared = points; stops = stops })
stops_are_gaps e others points stops wide s up is = subst (λ ps. AreGaps e others (record { shared = points; stops = ps })) (sym is)
    (gaps_from e others points (ord_min position_order e.start e.end) (ord_max position_order e.start e.end) wide (has_ends e wide) s up)
