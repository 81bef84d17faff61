-- The break points of an edge, as they are found one edge after the other.
use Rattle.std.proofs.Common.{◌≡◌, ◌≢◌, ◌⊎◌, inl, inr, ℕ, ◌+◌, ◌<◌, ◌≤◌, Bool, true, false, not, ◌||◌, refl, sym, ap, subst, ◌∙◌, List, [], ◌∷◌, ◌++◌, length, take, drop, get_or, map, All, Any, Contains, pos, ◌≤ℤ◌, arith}
use Rattle.std.proofs.lemmas.Int.{ints}
use Rattle.std.proofs.Math.Seq.{take-append_seam}
use Rattle.std.proofs.lemmas.List.{get_or_default, get_or-map, length-map}
use Rattle.std.proofs.lemmas.List.Elements.{All-contains, Contains-append_left, Contains-append_cases}
use Rattle.std.proofs.lemmas.Bool.{cases_lt, and_parts, and_from, or_left, or_right, or_cases}
use Rattle.basics.proofs.Numbers.{earlier_or_last, in_order}
use Rattle.geometry_model.specs.Points.{Position, Point, IsPoint, IsLeast, point_at, same_point}
use Rattle.fraction.specs.Ranges.{meeting_limit}
use Rattle.geometry_model.specs.Geometries.{Edge}
use Rattle.geometry_model.specs.Sides.{on, on_one_line}
use Rattle.geometry_model.specs.CutPoints.{IsCut, is_end}
use Rattle.geometry_model.specs.CutPoints.IsCut.{AtEnd, Listed}
use Rattle.geometry_laws.proofs.Each.{Among, among_left, among_right, each_of}
use Rattle.geometry_laws.proofs.PointOrder.{same_reflexive, same_transitive}
use Rattle.geometry_laws.proofs.Respect.{on_respects}
use Rattle.geometry_laws.proofs.RingParity.{position_is_point}
use Rattle.matrix_laws.proofs.MatrixLists.{Some_of, among_from_contains, contains_from_among, some_from_any, any_from_some, all_from_each, among_map, map_among, among_filter, filter_among}
use Rattle.noding.specs.Meetings.{on_both, IsMeeting, named, is_common_cut, NamesCommonCuts}
use Rattle.noding.specs.declared.answers.Meet.{Meet}
use Rattle.noding.specs.Nodings.{ListsPoint, IsNodeTriple, AreBreaks, PutsPointsInOrder, IsBreak, AllBreaks}
use Rattle.noding.specs.Sweeps.{own_breaks, IsWide, GrowsAt, IsTried, SweptTo, AllSwept, OrdersAt, OrdersEach, OrdersFirst, HavePoints, AllCut}
use Rattle.noding.proofs.NamedCuts.{CutOf}
use Rattle.noding.proofs.LeastPositions.{position_is_least}
use Rattle.noding.proofs.NodeCuts.{cut_is_point, cut_of_more, cut_of_both, named_on_both, end_is_on_edge, cut_on_edge, its_own_line, one_line_turned}

-- ---- lists
pub all_of : {X : Type 0} (P : X → Type 0) (xs : List X) → ((x : X) → Contains xs x → P x) → All P xs
all_of P xs f = all_from_each P xs (each_of P xs (λ x a. f x (contains_from_among xs x a)))

pub any_left : {X : Type 0} (P : X → Type 0) (xs ys : List X) → Any P xs → Any P (xs ++ ys)
any_left P xs ys h = go (some_from_any P xs h)
  where
    go : Some_of P xs → Any P (xs ++ ys)
    go s = any_from_some P (xs ++ ys) (record { found = s.found; among = among_left s.found xs ys s.among; has = s.has })

pub any_right : {X : Type 0} (P : X → Type 0) (xs ys : List X) → Any P ys → Any P (xs ++ ys)
any_right P xs ys h = go (some_from_any P ys h)
  where
    go : Some_of P ys → Any P (xs ++ ys)
    go s = any_from_some P (xs ++ ys) (record { found = s.found; among = among_right s.found xs ys s.among; has = s.has })

-- the element at a place, whatever stands for a place past the end
pub element_is : {X : Type 0} (xs : List X) (k n : ℕ) (x d : X) → n < length xs → x ≡ get_or xs n x → k ≡ n → get_or xs k d ≡ x
element_is xs k n x d l e g = ap (λ j. get_or xs j d) g ∙ get_or_default xs n d x l ∙ sym e

pub same_or_other : (k n : ℕ) → (k ≡ n) ⊎ (k ≢ n)
same_or_other k n = grind arith

-- ---- a list of break points that has grown
-- a list that grew still has its points, and the lists of the other edges are as they were
grown_has : (i : ℕ) (points : List Point) (before after : List (List Point)) → GrowsAt i points before after → (k : ℕ) (p : Point) → Contains (get_or before k []) p → Contains (get_or after k []) p
grown_has i points before after g k p c = go (same_or_other k i)
  where
    go : (k ≡ i) ⊎ (k ≢ i) → Contains (get_or after k []) p
    go (inl e) = subst (λ n. Contains (get_or after n []) p) (sym e) (subst (λ zs. Contains zs p) (sym g.there) (Contains-append_left (get_or before i []) points p (subst (λ n. Contains (get_or before n []) p) e c)))
    go (inr n) = subst (λ zs. Contains zs p) (sym (g.elsewhere k n)) c

-- the same, a point counting as there in any of its triples
grown_lists : (i : ℕ) (points : List Point) (before after : List (List Point)) → GrowsAt i points before after → (k : ℕ) (p : Point) → ListsPoint (get_or before k []) p → ListsPoint (get_or after k []) p
grown_lists i points before after g k p c = go (same_or_other k i)
  where
    go : (k ≡ i) ⊎ (k ≢ i) → ListsPoint (get_or after k []) p
    go (inl e) = subst (λ n. ListsPoint (get_or after n []) p) (sym e) (subst (λ zs. ListsPoint zs p) (sym g.there) (any_left (λ q. same_point q p ≡ true) (get_or before i []) points (subst (λ n. ListsPoint (get_or before n []) p) e c)))
    go (inr n) = subst (λ zs. ListsPoint zs p) (sym (g.elsewhere k n)) c

-- it has the points by which it grew
grown_by : (i : ℕ) (points : List Point) (before after : List (List Point)) → GrowsAt i points before after → (p : Point) → ListsPoint points p → ListsPoint (get_or after i []) p
grown_by i points before after g p c = subst (λ zs. ListsPoint zs p) (sym g.there) (any_right (λ q. same_point q p ≡ true) (get_or before i []) points c)

-- and it has no others
grown_from : (i : ℕ) (points : List Point) (before after : List (List Point)) → GrowsAt i points before after → (k : ℕ) (p : Point) → Contains (get_or after k []) p → Contains (get_or before k []) p ⊎ ((k ≡ i) × Contains points p)
grown_from i points before after g k p c = go (same_or_other k i)
  where
    said : k ≡ i → Contains (get_or before i []) p ⊎ Contains points p → Contains (get_or before k []) p ⊎ ((k ≡ i) × Contains points p)
    said e (inl b) = inl (subst (λ n. Contains (get_or before n []) p) (sym e) b)
    said e (inr b) = inr (e, b)

    go : (k ≡ i) ⊎ (k ≢ i) → Contains (get_or before k []) p ⊎ ((k ≡ i) × Contains points p)
    go (inl e) = said e (Contains-append_cases (get_or before i []) points p (subst (λ zs. Contains zs p) g.there (subst (λ n. Contains (get_or after n []) p) e c)))
    go (inr n) = inl (subst (λ zs. Contains zs p) (g.elsewhere k n) c)

-- ---- one more pair
-- what two edges have in common, as far as their break points want it
pub record Shares (e f : Edge) (m : Meet) : Type 0 where
  pub exact : IsMeeting e f m
  pub cuts : All (CutOf e f) (named m)
  pub names : NamesCommonCuts e f m
  pub least : All IsLeast (named m)
  pub limit : All (λ p. p.W ≤ℤ pos meeting_limit) (named m)

-- each point named of two edges is a cut of them
shared_cut : (e f : Edge) (m : Meet) → Shares e f m → (p : Point) → Contains (named m) p → CutOf e f p
shared_cut e f m s p c = All-contains (CutOf e f) (named m) p s.cuts c

-- it is in least form, with a denominator that keeps the limit
shared_triple : (e f : Edge) (m : Meet) → Shares e f m → (p : Point) → Contains (named m) p → IsNodeTriple p
shared_triple e f m s p c = record { least = All-contains IsLeast (named m) p s.least c; limit = All-contains (λ q. q.W ≤ℤ pos meeting_limit) (named m) p s.limit c }

-- and it lies on both
shared_on : (e f : Edge) (m : Meet) → Shares e f m → (p : Point) → Contains (named m) p → (on e p ≡ true) × (on f p ≡ true)
shared_on e f m s p c = and_parts (on e p) (on f p) (named_on_both e f m s.exact p (cut_is_point (e ∷ f ∷ []) [] p (shared_cut e f m s p c)) (among_from_contains (named m) p c))

-- a pair is tried: what its edges have in common is added to the break points of both, and nothing else, so the sweep is past it
pub pair_swept : (es : List Edge) (ps : List Position) (i j : ℕ) (e f : Edge) (m : Meet) (before middle after : List (List Point)) → i < j → j < length es → e ≡ get_or es i e → f ≡ get_or es j f
    → Shares e f m → GrowsAt i (named m) before middle → GrowsAt j (named m) middle after → SweptTo es ps i j before → SweptTo es ps i (j + 1) after
pair_swept es ps i j e f m before middle after less hj he hf s g k h = record {
  same_length = k.same_length ∙ g.same_length ∙ h.same_length;
  wide = h.wide;
  own = λ n d l p c. kept n p (h.own n d l p c);
  from = λ n d l p c. first n d l p (grown_from j (named m) middle after k n p c);
  first_found = λ a b d t l lb p hp c. first_of a b d l lb p hp c (which a b t);
  second_found = λ a b d t l lb p hp c. second_of a b d l lb p hp c (which a b t);
}
  where
    hi : i < length es
    hi = omega (arith, less, hj)

    kept : (n : ℕ) (p : Point) → Contains (get_or before n []) p → Contains (get_or after n []) p
    kept n p c = grown_has j (named m) middle after k n p (grown_has i (named m) before middle g n p c)

    stays : (n : ℕ) (p : Point) → ListsPoint (get_or before n []) p → ListsPoint (get_or after n []) p
    stays n p c = grown_lists j (named m) middle after k n p (grown_lists i (named m) before middle g n p c)

    cut : (p : Point) → Contains (named m) p → IsCut es ps p
    cut p c = cut_of_more es es ps p (λ x y. y) (cut_of_both es e f p (i, hi, sym he) (j, hj, sym hf) (shared_cut e f m s p c))

    at_first : (n : ℕ) (d : Edge) → n ≡ i → (p : Point) → Contains (named m) p → IsBreak es ps (get_or es n d) p
    at_first n d q p c = subst (λ x. IsBreak es ps x p) (sym (element_is es n i e d hi he q)) (record { on_edge = (shared_on e f m s p c).0; is_cut = cut p c; triple = shared_triple e f m s p c })

    at_second : (n : ℕ) (d : Edge) → n ≡ j → (p : Point) → Contains (named m) p → IsBreak es ps (get_or es n d) p
    at_second n d q p c = subst (λ x. IsBreak es ps x p) (sym (element_is es n j f d hj hf q)) (record { on_edge = (shared_on e f m s p c).1; is_cut = cut p c; triple = shared_triple e f m s p c })

    second : (n : ℕ) (d : Edge) → n < length es → (p : Point) → Contains (get_or before n []) p ⊎ ((n ≡ i) × Contains (named m) p) → IsBreak es ps (get_or es n d) p
    second n d l p (inl c) = h.from n d l p c
    second n d l p (inr c) = at_first n d c.0 p c.1

    first : (n : ℕ) (d : Edge) → n < length es → (p : Point) → Contains (get_or middle n []) p ⊎ ((n ≡ j) × Contains (named m) p) → IsBreak es ps (get_or es n d) p
    first n d l p (inl c) = second n d l p (grown_from i (named m) before middle g n p c)
    first n d l p (inr c) = at_second n d c.0 p c.1

    which : (a b : ℕ) → IsTried i (j + 1) a b → IsTried i j a b ⊎ ((a ≡ i) × (b ≡ j))
    which a b (inl l) = inl (inl l)
    which a b (inr l) = pick (earlier_or_last b j l.1)
      where
        pick : (b < j) ⊎ (b ≡ j) → IsTried i j a b ⊎ ((a ≡ i) × (b ≡ j))
        pick (inl x) = inl (inr (l.0, x))
        pick (inr x) = inr (l.0, x)

    names : (a b : ℕ) (d : Edge) → a ≡ i → b ≡ j → (p : Point) → IsPoint p → is_common_cut (get_or es a d) (get_or es b d) p ≡ true → ListsPoint (named m) p
    names a b d x y p hp c = s.names p hp (subst (λ (z : Edge). is_common_cut z f p ≡ true) (element_is es a i e d hi he x) (subst (λ (z : Edge). is_common_cut (get_or es a d) z p ≡ true) (element_is es b j f d hj hf y) c))

    first_of : (a b : ℕ) (d : Edge) → a < b → b < length es → (p : Point) → IsPoint p → is_common_cut (get_or es a d) (get_or es b d) p ≡ true → IsTried i j a b ⊎ ((a ≡ i) × (b ≡ j)) → ListsPoint (get_or after a []) p
    first_of a b d l lb p hp c (inl t) = stays a p (h.first_found a b d t l lb p hp c)
    first_of a b d l lb p hp c (inr t) = subst (λ n. ListsPoint (get_or after n []) p) (sym t.0)
        (grown_lists j (named m) middle after k i p (grown_by i (named m) before middle g p (names a b d t.0 t.1 p hp c)))

    second_of : (a b : ℕ) (d : Edge) → a < b → b < length es → (p : Point) → IsPoint p → is_common_cut (get_or es a d) (get_or es b d) p ≡ true → IsTried i j a b ⊎ ((a ≡ i) × (b ≡ j)) → ListsPoint (get_or after b []) p
    second_of a b d l lb p hp c (inl t) = stays b p (h.second_found a b d t l lb p hp c)
    second_of a b d l lb p hp c (inr t) = subst (λ n. ListsPoint (get_or after n []) p) (sym t.1) (grown_by j (named m) middle after k p (names a b d t.0 t.1 p hp c))

-- ---- the edges that follow have nothing in common with this one
-- where no later edge has a cut in common with this one the sweep may go on with the next edge
pub rest_apart : (es : List Edge) (ps : List Position) (i j : ℕ) (breaks : List (List Point))
    → ((b : ℕ) (d : Edge) → j ≤ b → b < length es → (p : Point) → IsPoint p → is_common_cut (get_or es i d) (get_or es b d) p ≡ true → ⊥)
    → SweptTo es ps i j breaks → SweptTo es ps (i + 1) (i + 1 + 1) breaks
rest_apart es ps i j breaks none h = record {
  same_length = h.same_length;
  wide = h.wide;
  own = h.own;
  from = h.from;
  first_found = λ a b d t l lb p hp c. h.first_found a b d (before a b d t l lb p hp c) l lb p hp c;
  second_found = λ a b d t l lb p hp c. h.second_found a b d (before a b d t l lb p hp c) l lb p hp c;
}
  where
    in_row : (a b : ℕ) (d : Edge) → a ≡ i → b < length es → (p : Point) → IsPoint p → is_common_cut (get_or es a d) (get_or es b d) p ≡ true → (b < j) ⊎ (j ≤ b) → IsTried i j a b
    in_row a b d q lb p hp c (inl x) = inr (q, x)
    in_row a b d q lb p hp c (inr x) = absurd (none b d x lb p hp (subst (λ n. is_common_cut (get_or es n d) (get_or es b d) p ≡ true) q c))

    before : (a b : ℕ) (d : Edge) → IsTried (i + 1) (i + 1 + 1) a b → a < b → b < length es → (p : Point) → IsPoint p → is_common_cut (get_or es a d) (get_or es b d) p ≡ true → IsTried i j a b
    before a b d (inl x) l lb p hp c = go (earlier_or_last a i x)
      where
        go : (a < i) ⊎ (a ≡ i) → IsTried i j a b
        go (inl y) = inl y
        go (inr y) = in_row a b d y lb p hp c (cases_lt b j)
    before a b d (inr x) l lb p hp c = absurd (omega (arith, x.0, x.1, l))

-- ---- what an edge has by itself
-- a position is a point of denominator 1, so its triple is that of a node
pub position_is_triple : (a : Position) → IsNodeTriple (point_at a)
position_is_triple a = record { least = position_is_least a; limit = omega (arith, ints) }

-- an edge's own ends and the listed positions on it are cuts on it
own_is_break : (es : List Edge) (ps : List Position) (e : Edge) → Contains es e → (p : Point) → Among p (own_breaks ps e) → IsBreak es ps e p
own_is_break es ps e he p a = go a
  where
    at_end : (a : Position) → is_end e (point_at a) ≡ true → IsBreak es ps e (point_at a)
    at_end a k = record {
      on_edge = end_is_on_edge e (point_at a) (position_is_point a) k;
      is_cut = AtEnd (position_is_point a) e he k;
      triple = position_is_triple a;
    }

    at_listed : on e p ≡ true → Some_of (λ a. p ≡ point_at a) ps → IsBreak es ps e p
    at_listed k a = record {
      on_edge = k;
      is_cut = subst (IsCut es ps) (sym a.has) (Listed (position_is_point a.found) a.found (contains_from_among ps a.found a.among) (same_reflexive (point_at a.found)));
      triple = subst IsNodeTriple (sym a.has) (position_is_triple a.found);
    }

    go : Among p (own_breaks ps e) → IsBreak es ps e p
    go (inl k) = subst (IsBreak es ps e) (sym k) (at_end e.start (or_left (same_point (point_at e.start) (point_at e.start)) (same_point (point_at e.end) (point_at e.start)) (same_reflexive (point_at e.start))))
    go (inr (inl k)) = subst (IsBreak es ps e) (sym k) (at_end e.end (or_right (same_point (point_at e.start) (point_at e.end)) (same_point (point_at e.end) (point_at e.end)) (same_reflexive (point_at e.end))))
    go (inr (inr a)) = last (among_filter (on e) (map point_at ps) p a)
      where
        last : Among p (map point_at ps) × (on e p ≡ true) → IsBreak es ps e p
        last b = at_listed b.1 (among_map point_at ps p b.0)

-- before any pair is tried each edge has its own break points
pub swept_by_itself : (es : List Edge) (ps : List Position) (breaks : List (List Point)) → All IsWide es → breaks ≡ map (own_breaks ps) es → SweptTo es ps 0 1 breaks
swept_by_itself es ps breaks wide made = record {
  same_length = ap length made ∙ simp length-map;
  wide = λ k d l. wide k d l;
  own = λ k d l p c. subst (λ zs. Contains zs p) (sym (here k d l)) c;
  from = λ k d l p c. own_is_break es ps (get_or es k d) (k, l, get_or_default es k (get_or es k d) d l) p (among_from_contains (own_breaks ps (get_or es k d)) p (subst (λ zs. Contains zs p) (here k d l) c));
  first_found = λ a b d t l lb p hp c. absurd (none a b t l);
  second_found = λ a b d t l lb p hp c. absurd (none a b t l);
}
  where
    here : (k : ℕ) (d : Edge) → k < length es → get_or breaks k [] ≡ own_breaks ps (get_or es k d)
    here k d l = ap (λ bs. get_or bs k []) made ∙ get_or-map (own_breaks ps) es k d [] l

    none : (a b : ℕ) → IsTried 0 1 a b → a < b → ⊥
    none a b (inl x) l = omega (arith, x)
    none a b (inr x) l = omega (arith, x.0, x.1, l)

-- ---- all of them
-- a cut that an edge has in common with itself is an end of it
itself_is_end : (e : Edge) (p : Point) → is_common_cut e e p ≡ true → is_end e p ≡ true
itself_is_end e p k = go (or_cases (is_end e p || is_end e p) (not (on_one_line e e)) (and_parts (on_both e e p) (is_end e p || is_end e p || not (on_one_line e e)) k).1)
  where
    inner : (is_end e p ≡ true) ⊎ (is_end e p ≡ true) → is_end e p ≡ true
    inner (inl h) = h
    inner (inr h) = h

    go : ((is_end e p || is_end e p) ≡ true) ⊎ (not (on_one_line e e) ≡ true) → is_end e p ≡ true
    go (inl h) = inner (or_cases (is_end e p) (is_end e p) h)
    go (inr h) = absurd (let clash : false ≡ true = subst (λ (b : Bool). not b ≡ true) (its_own_line e) h in cc)

-- a cut that one edge has in common with another the other has in common with it
common_turned : (e f : Edge) → IsWide e → IsWide f → (p : Point) → is_common_cut e f p ≡ true → is_common_cut f e p ≡ true
common_turned e f we wf p k = and_from (on_both f e p) (is_end f p || is_end e p || not (on_one_line f e)) (and_from (on f p) (on e p) both_on.1 both_on.0) (go (or_cases (is_end e p || is_end f p) (not (on_one_line e f)) both.1))
  where
    both : (on_both e f p ≡ true) × ((is_end e p || is_end f p || not (on_one_line e f)) ≡ true)
    both = and_parts (on_both e f p) (is_end e p || is_end f p || not (on_one_line e f)) k

    both_on : (on e p ≡ true) × (on f p ≡ true)
    both_on = and_parts (on e p) (on f p) both.0

    inner : (is_end e p ≡ true) ⊎ (is_end f p ≡ true) → (is_end f p || is_end e p) ≡ true
    inner (inl h) = or_right (is_end f p) (is_end e p) h
    inner (inr h) = or_left (is_end f p) (is_end e p) h

    go : ((is_end e p || is_end f p) ≡ true) ⊎ (not (on_one_line e f) ≡ true) → (is_end f p || is_end e p || not (on_one_line f e)) ≡ true
    go (inl h) = or_left (is_end f p || is_end e p) (not (on_one_line f e)) (inner (or_cases (is_end e p) (is_end f p) h))
    go (inr h) = or_right (is_end f p || is_end e p) (not (on_one_line f e)) (subst (λ (b : Bool). not b ≡ true) (one_line_turned e f we wf) h)

-- when all pairs are tried each edge has all its break points: a cut on it is its own,
-- or one that it has in common with an earlier or a later edge
pub all_swept : (es : List Edge) (ps : List Position) (j : ℕ) (breaks : List (List Point)) → SweptTo es ps (length es) j breaks → AllSwept es ps breaks
all_swept es ps j breaks h = record { same_length = h.same_length; all = at }
  where
    at : (k : ℕ) (d : Edge) → k < length es → AllBreaks es ps (get_or es k d) (get_or breaks k [])
    at k d l = record { from = λ p c. h.from k d l p c; found = found }
      where
        e : Edge
        e = get_or es k d

        points : List Point
        points = get_or breaks k []

        owned : (p : Point) → IsPoint p → (q : Point) → same_point q p ≡ true → Among q (own_breaks ps (get_or es k d)) → ListsPoint (get_or breaks k []) p
        owned p hp q g a = any_from_some (λ r. same_point r p ≡ true) (get_or breaks k []) (record {
          found = q;
          among = among_from_contains (get_or breaks k []) q (h.own k d l q (contains_from_among (own_breaks ps (get_or es k d)) q a));
          has = g;
        })

        of_listed : (p : Point) → IsPoint p → on (get_or es k d) p ≡ true → (a : Position) → same_point (point_at a) p ≡ true → Among a ps → ListsPoint (get_or breaks k []) p
        of_listed p hp c a g b = owned p hp (point_at a) g (inr (inr (filter_among (on (get_or es k d)) (map point_at ps) (point_at a) (map_among point_at ps a b)
            (on_respects (get_or es k d) (point_at a) p (position_is_point a) hp g ∙ c))))

        of_end : (p : Point) → IsPoint p → (same_point (point_at (get_or es k d).start) p ≡ true) ⊎ (same_point (point_at (get_or es k d).end) p ≡ true) → ListsPoint (get_or breaks k []) p
        of_end p hp (inl g) = owned p hp (point_at (get_or es k d).start) g (inl refl)
        of_end p hp (inr g) = owned p hp (point_at (get_or es k d).end) g (inr (inl refl))

        at_place : (b : ℕ) → b < length es → (p : Point) → IsPoint p → is_common_cut (get_or es k d) (get_or es b d) p ≡ true → (b < k) ⊎ ((b ≡ k) ⊎ (k < b)) → ListsPoint (get_or breaks k []) p
        at_place b lb p hp c (inl x) = h.second_found b k d (inl lb) x l p hp (common_turned (get_or es k d) (get_or es b d) (h.wide k d l) (h.wide b d lb) p c)
        at_place b lb p hp c (inr (inl x)) = of_end p hp (or_cases (same_point (point_at (get_or es k d).start) p) (same_point (point_at (get_or es k d).end) p)
            (itself_is_end (get_or es k d) p (subst (λ n. is_common_cut (get_or es k d) (get_or es n d) p ≡ true) x c)))
        at_place b lb p hp c (inr (inr x)) = h.first_found k b d (inl l) x lb p hp c

        of_common : (p : Point) → IsPoint p → (f : Edge) → is_common_cut (get_or es k d) f p ≡ true → Contains es f → ListsPoint (get_or breaks k []) p
        of_common p hp f c b = at_place b.0 b.1 p hp (subst (λ (x : Edge). is_common_cut (get_or es k d) x p ≡ true) (sym b.2 ∙ get_or_default es b.0 f d b.1) c) (in_order b.0 k)

        found : (p : Point) → on (get_or es k d) p ≡ true → IsCut es ps p → ListsPoint (get_or breaks k []) p
        found p c i = go (cut_on_edge es ps (get_or es k d) (h.wide k d l) p c i)
          where
            go : Some_of (λ f. is_common_cut (get_or es k d) f p ≡ true) es ⊎ Some_of (λ a. same_point (point_at a) p ≡ true) ps → ListsPoint (get_or breaks k []) p
            go (inl f) = of_common p (cut_is_point es ps p i) f.found f.has (contains_from_among es f.found f.among)
            go (inr a) = of_listed p (cut_is_point es ps p i) c a.found a.has a.among

pub breaks_are_points : (es : List Edge) (ps : List Position) (e : Edge) (points : List Point) → AllBreaks es ps e points → All IsPoint points
breaks_are_points es ps e points h = all_of IsPoint points (λ p c. cut_is_point es ps p (h.from p c).is_cut)

-- ---- a point that is kept in another triple
-- a point that is put in order is still there, in some triple
pub point_kept : (given ordered : List Point) → All IsPoint given → PutsPointsInOrder given ordered → (p : Point) → ListsPoint given p → ListsPoint ordered p
point_kept given ordered hs o p h = first (some_from_any (λ q. same_point q p ≡ true) given h)
  where
    second : (q : Point) → IsPoint q → same_point q p ≡ true → Some_of (λ r. same_point r q ≡ true) ordered → ListsPoint ordered p
    second q hq g s = any_from_some (λ r. same_point r p ≡ true) ordered (record { found = s.found; among = s.among; has = same_transitive s.found q p hq s.has g })

    first : Some_of (λ q. same_point q p ≡ true) given → ListsPoint ordered p
    first s = let c : Contains given s.found = contains_from_among given s.found s.among in
        second s.found (All-contains IsPoint given s.found hs c) s.has (some_from_any (λ r. same_point r s.found ≡ true) ordered (o.kept s.found c))

-- break points that are put in order are the cuts on the edge, ascending, each once
pub breaks_in_order : (es : List Edge) (ps : List Position) (e : Edge) (points ordered : List Point) → AllBreaks es ps e points → PutsPointsInOrder points ordered → AreBreaks es ps e ordered
breaks_in_order es ps e points ordered h o = record {
  on_edge = all_of (λ p. on e p ≡ true) ordered (λ p c. (h.from p (o.from p c)).on_edge);
  cuts = all_of (IsCut es ps) ordered (λ p c. (h.from p (o.from p c)).is_cut);
  found = λ p k c. point_kept points ordered (breaks_are_points es ps e points h) o p (h.found p k c);
  ascend = o.ascend;
  triples = all_of IsNodeTriple ordered (λ p c. (h.from p (o.from p c)).triple);
}

-- ---- each list in order
-- one list more is put in order, those before it stay in order, and those behind it aren't touched
pub ordered_more : (n : ℕ) (before middle after : List (List Point)) → OrdersFirst n before middle → OrdersAt n middle after → OrdersFirst (n + 1) before after
ordered_more n before middle after h o = record { same_length = o.same_length ∙ h.same_length; ordered = λ k l. at k (earlier_or_last k n l); rest = rest }
  where
    at : (k : ℕ) → (k < n) ⊎ (k ≡ n) → PutsPointsInOrder (get_or before k []) (get_or after k [])
    at k (inl l) = subst (PutsPointsInOrder (get_or before k [])) (sym (o.elsewhere k (λ e. omega (arith, l, e)))) (h.ordered k l)
    at k (inr e) = subst (λ m. PutsPointsInOrder (get_or before m []) (get_or after m [])) (sym e)
        (subst (λ us. PutsPointsInOrder us (get_or after n [])) (h.rest n (omega arith)) o.there)

    rest : (k : ℕ) → n + 1 ≤ k → get_or after k [] ≡ get_or before k []
    rest k l = o.elsewhere k (λ e. omega (arith, l, e)) ∙ h.rest k (omega (arith, l))

pub some_edge : Edge
some_edge = record { start = record { x = pos 0; y = pos 0 }; end = record { x = pos 0; y = pos 0 } }

pub swept_points : (es : List Edge) (ps : List Position) (breaks : List (List Point)) → AllSwept es ps breaks → HavePoints breaks
swept_points es ps breaks h k l = breaks_are_points es ps (get_or es k some_edge) (get_or breaks k []) (h.all k some_edge (omega (arith, l, h.same_length)))

-- all break points, each list put in order, cut all edges
pub all_cut : (es : List Edge) (ps : List Position) (before after : List (List Point)) → AllSwept es ps before → OrdersEach before after → AllCut es ps after
all_cut es ps before after h o = record {
  same_length = o.same_length ∙ h.same_length;
  all = λ k d l. breaks_in_order es ps (get_or es k d) (get_or before k []) (get_or after k []) (h.all k d l) (o.ordered k (omega (arith, l, h.same_length)));
}

-- past the last edge no pair is left to be tried
pub swept_enough : (es : List Edge) (ps : List Position) (i j : ℕ) (breaks : List (List Point)) → length es ≤ i → SweptTo es ps i j breaks → SweptTo es ps (length es) (length es + 1) breaks
swept_enough es ps i j breaks enough h = record {
  same_length = h.same_length;
  wide = h.wide;
  own = h.own;
  from = h.from;
  first_found = λ a b d t l lb p hp c. h.first_found a b d (inl (before a b l lb)) l lb p hp c;
  second_found = λ a b d t l lb p hp c. h.second_found a b d (inl (before a b l lb)) l lb p hp c;
}
  where
    before : (a b : ℕ) → a < b → b < length es → a < i
    before a b l lb = omega (arith, enough)

-- as many elements as there were take the places of all
pub put_back : {X : Type 0} (n : ℕ) (xs ys : List X) → length ys ≡ n → take n (ys ++ drop (length ys) xs) ≡ ys
put_back n xs ys e = ap (λ k. take k (ys ++ drop (length ys) xs)) (sym e) ∙ take-append_seam ys (drop (length ys) xs)

-- what a sweep leaves, taken into the list that it was lent of
pub swept_list : (es : List Edge) (ps : List Position) (items first swept now : List (List Point)) (len : ℕ) → All IsWide es → items ≡ map (own_breaks ps) es → first ≡ items → length first ≡ len → length swept ≡ length es
    → (SweptTo es ps 0 1 first → SweptTo es ps (length es) (length es + 1) swept) → now ≡ take len (swept ++ drop (length swept) items) → AllSwept es ps now
swept_list es ps items first swept now len wide made same size swept_size sweeps is =
    subst (AllSwept es ps) (sym (is ∙ put_back len items swept (swept_size ∙ sym (simp length-map) ∙ sym (ap length (same ∙ made)) ∙ size)))
    (all_swept es ps (length es + 1) swept (sweeps (swept_by_itself es ps first wide (same ∙ made))))
