-- The points that an edge shares with others, as they are found one edge after the other.
use Rattle.std.proofs.Common.{◌≡◌, ◌⊎◌, inl, inr, ℕ, suc, ◌+◌, ◌<◌, ◌≤◌, Bool, true, false, not, ◌&&◌, ◌||◌, refl, sym, ap, subst, ◌∙◌, List, [], ◌∷◌, ◌++◌, length, get_or, All, Contains, pos, ◌≤ℤ◌, arith}
use Rattle.std.proofs.lemmas.List.{get_or_default}
use Rattle.std.specs.List.{list_any}
use Rattle.std.proofs.lemmas.List.Folds.{list_any_at}
use Rattle.std.proofs.lemmas.List.Elements.{All-contains, Contains-append_cases}
use Rattle.std.proofs.lemmas.Bool.{and_parts, and_from, or_cases, not-true}
use Rattle.basics.proofs.Numbers.{earlier_or_last}
use Rattle.geometry_model.specs.Points.{Position, Point, IsPoint, same_point, point_at}
use Rattle.geometry_model.specs.Geometries.{Edge}
use Rattle.geometry_model.specs.Sides.{on, on_one_line}
use Rattle.geometry_model.specs.FirstFaults.{share_point, share_other}
use Rattle.geometry_model.specs.WellKnownText.{same_position}
use Rattle.geometry_laws.specs.SharedPointLaws.{IsEnd}
use Rattle.geometry_laws.proofs.OtherPoints.{same_from, other_point_is_decided}
use Rattle.geometry_laws.proofs.PointOrder.{same_symmetric, same_transitive}
use Rattle.geometry_laws.proofs.RingParity.{position_is_point}
use Rattle.geometry_model.specs.Envelopes.{overlap}
use Rattle.geometry_laws.proofs.SharedPoints.{shared_point_is_decided}
use Rattle.fraction.specs.Ranges.{meeting_limit}
use Rattle.matrix_laws.proofs.MatrixLists.{among_from_contains, any_from_some}
use Rattle.edge_boxes.specs.RunLaws.{box_of}
use Rattle.edge_boxes.proofs.OverlappingBoxes.{sharing_boxes_overlap}
use Rattle.edge_boxes.specs.Sharings.{places_sharing}
use Rattle.edge_boxes.specs.OneLine.{touch_at, touch, overlap_on_one_line}
use Rattle.noding.specs.Meetings.{on_both, named, is_common_cut}
use Rattle.noding.specs.Nodings.{ListsPoint, PutsPointsInOrder}
use Rattle.noding.specs.declared.answers.Meet.{Meet}
use Rattle.noding.proofs.NamedCuts.{CutOf}
use Rattle.noding.proofs.NodeCuts.{cut_is_point, cut_of_both, named_on_both}
use Rattle.noding.proofs.BreakPoints.{Shares, all_of, any_left, any_right, point_kept}
use Rattle.matrix_laws.specs.Gaps.{SharesNoStretch}
use Rattle.noding.specs.Steps.{IsSharedPoint, ListsCommonCuts, AreSharedSoFar, IsAt, IsAtPlace, AreShared}
use Rattle.noding.proofs.NearGaps.{IsNearAt, sharing, sharing_is_near}

-- ---- one more edge
element_is_there : {X : Type 0} (xs : List X) (j : ℕ) (x d : X) → j < length xs → x ≡ get_or xs j x → get_or xs j d ≡ x
element_is_there xs j x d h is = get_or_default xs j d x h ∙ sym is

pub shared_more : (e : Edge) (others : List Edge) (IsAsked : ℕ → Edge → Type 0) (n : ℕ) (f : Edge) (m : Meet) (xs ys : List Point) → Contains others f → ((g : Edge) → IsAsked n g → f ≡ g)
    → Shares e f m → ys ≡ xs ++ named m → AreSharedSoFar e others IsAsked n xs → AreSharedSoFar e others IsAsked (n + 1) ys
shared_more e others IsAsked n f m xs ys own same s grown h = record { from = from; found = found }
  where
    cut : (p : Point) → Contains (named m) p → CutOf e f p
    cut p c = All-contains (CutOf e f) (named m) p s.cuts c

    both : (p : Point) → Contains (named m) p → (on e p ≡ true) × (on f p ≡ true)
    both p c = and_parts (on e p) (on f p) (named_on_both e f m s.exact p (cut_is_point (e ∷ f ∷ []) [] p (cut p c)) (among_from_contains (named m) p c))

    behind : Contains (e ∷ others) f
    behind = (suc own.0, omega (arith, own.1), own.2)

    either : (p : Point) → Contains xs p ⊎ Contains (named m) p → IsSharedPoint e others p
    either p (inl c) = h.from p c
    either p (inr c) = record {
      on_edge = (both p c).0;
      on_other = any_from_some (λ g. on g p ≡ true) others (record { found = f; among = among_from_contains others f own; has = (both p c).1 });
      is_cut = cut_of_both (e ∷ others) e f p (0, omega arith, refl) behind (cut p c);
      limit = All-contains (λ q. q.W ≤ℤ pos meeting_limit) (named m) p s.limit c;
    }

    from : (p : Point) → Contains ys p → IsSharedPoint e others p
    from p c = either p (Contains-append_cases xs (named m) p (subst (λ zs. Contains zs p) grown c))

    found : (k : ℕ) (g : Edge) → k < n + 1 → IsAsked k g → ListsCommonCuts e g ys
    found k g l asked p hp c = go (earlier_or_last k n l)
      where
        go : (k < n) ⊎ (k ≡ n) → ListsPoint ys p
        go (inl b) = subst (λ zs. ListsPoint zs p) (sym grown) (any_left (λ q. same_point q p ≡ true) xs (named m) (h.found k g b asked p hp c))
        go (inr b) = subst (λ zs. ListsPoint zs p) (sym grown) (any_right (λ q. same_point q p ≡ true) xs (named m)
            (s.names p hp (subst (λ (x : Edge). is_common_cut e x p ≡ true) (sym (same g (subst (λ i. IsAsked i g) b asked))) c)))

-- an edge whose bounds don't meet those of another shares no point with it
no_common_cut : (e f : Edge) (p : Point) → overlap (box_of f) (box_of e) ≡ false → IsPoint p → is_common_cut e f p ≡ true → ⊥
no_common_cut e f p off hp k =
    let both : (on e p ≡ true) × (on f p ≡ true) = and_parts (on e p) (on f p) (and_parts (on_both e f p) _ k).0 in
    absurd (let clash : true ≡ false = sym (sharing_boxes_overlap f e (sharing f e p hp both.1 both.0)) ∙ off in cc)

pub shared_no_more : (e : Edge) (others : List Edge) (IsAsked : ℕ → Edge → Type 0) (n : ℕ) (f : Edge) (points : List Point) → overlap (box_of f) (box_of e) ≡ false → ((g : Edge) → IsAsked n g → f ≡ g)
    → AreSharedSoFar e others IsAsked n points → AreSharedSoFar e others IsAsked (n + 1) points
shared_no_more e others IsAsked n f points off same h = record { from = h.from; found = found }
  where
    found : (k : ℕ) (g : Edge) → k < n + 1 → IsAsked k g → ListsCommonCuts e g points
    found k g l asked p hp c = go (earlier_or_last k n l)
      where
        go : (k < n) ⊎ (k ≡ n) → ListsPoint points p
        go (inl b) = h.found k g b asked p hp c
        go (inr b) = absurd (no_common_cut e f p off hp (subst (λ (x : Edge). is_common_cut e x p ≡ true) (sym (same g (subst (λ i. IsAsked i g) b asked))) c))

-- the edge that is read at a place is the one there
pub one_at : (others : List Edge) (j : ℕ) (f g : Edge) → j < length others → f ≡ get_or others j f → IsAt others j g → f ≡ g
one_at others j f g lj hf at = sym (element_is_there others j f g lj hf) ∙ at

pub one_at_place : (others : List Edge) (near : List ℕ) (n j : ℕ) (f g : Edge) → n < length near → j ≡ get_or near n j → j < length others → f ≡ get_or others j f → IsAtPlace others near n g → f ≡ g
one_at_place others near n j f g hn hj lj hf at = one_at others j f g lj hf (subst (λ i. IsAt others i g) (element_is_there near n j 0 hn hj) at)

-- ---- after the last edge
pub all_shared : (e : Edge) (others : List Edge) (n : ℕ) (points : List Point) → length others ≤ n → AreSharedSoFar e others (IsAt others) n points → AreShared e others points
all_shared e others n points past h = record { from = h.from; found = λ f c. h.found c.0 f (omega (arith, c.1, past)) c.2 }

pub all_near_shared : (e : Edge) (others : List Edge) (near : List ℕ) (n : ℕ) (points : List Point) → near ≡ places_sharing e 0 others → length near ≤ n
    → AreSharedSoFar e others (IsAtPlace others near) n points → AreShared e others points
all_near_shared e others near n points is past h = record { from = h.from; found = found }
  where
    found : (f : Edge) → Contains others f → ListsCommonCuts e f points
    found f c p hp k =
        let both : (on e p ≡ true) × (on f p ≡ true) = and_parts (on e p) (on f p) (and_parts (on_both e f p) _ k).0 in
        at (sharing_is_near e others near f p is c hp both.0 both.1)
      where
        at : IsNearAt near others f → ListsPoint points p
        at a = h.found a.index f (omega (arith, a.within, past)) (ap (λ i. get_or others i f) (get_or_default near a.index 0 a.place a.within) ∙ a.applies) p hp k

pub shared_points : (e : Edge) (others : List Edge) (points : List Point) → AreShared e others points → All IsPoint points
shared_points e others points h = all_of IsPoint points (λ p c. cut_is_point (e ∷ others) [] p (h.from p c).is_cut)

-- put in order, each once
pub shared_in_order : (e : Edge) (others : List Edge) (points ordered : List Point) → AreShared e others points → PutsPointsInOrder points ordered → AreShared e others ordered
shared_in_order e others points ordered h o = record {
  from = λ p c. h.from p (o.from p c);
  found = λ f c p hp k. point_kept points ordered (shared_points e others points h) o p (h.found f c p hp k);
}

-- ---- none of the others overlaps the edge on one line
-- edges that share a common end alone have all points in common there
at_common : (c : Position) (e f : Edge) → IsEnd c e → touch_at c e f ≡ true → (x : Point) → IsPoint x → on e x ≡ true → on f x ≡ true → same_point x (point_at c) ≡ true
at_common c e f own touching x hx k l = go (same_point x (point_at c)) refl
  where
    parts : ((same_position c f.start || same_position c f.end) ≡ true) × (not (share_other c e f) ≡ true)
    parts = and_parts (same_position c f.start || same_position c f.end) (not (share_other c e f)) touching

    ends : (same_position c f.start ≡ true) ⊎ (same_position c f.end ≡ true) → IsEnd c f
    ends (inl h) = inl (sym (same_from c f.start h))
    ends (inr h) = inr (sym (same_from c f.end h))

    other : same_point x (point_at c) ≡ false → share_other c e f ≡ true
    other s = (other_point_is_decided c e f own (ends (or_cases (same_position c f.start) (same_position c f.end) parts.0))).1
        (record { at = x; is_point = hx; on_first = k; on_second = l; other = s })

    go : (b : Bool) → same_point x (point_at c) ≡ b → same_point x (point_at c) ≡ true
    go true s = s
    go false s = absurd (let clash : true ≡ false = sym (other s) ∙ not-true (share_other c e f) parts.1 in cc)

touching_alike : (e f : Edge) → touch e f ≡ true → (x y : Point) → IsPoint x → IsPoint y
    → on e x ≡ true → on f x ≡ true → on e y ≡ true → on f y ≡ true → same_point x y ≡ true
touching_alike e f touching x y hx hy kx lx ky ly = go (or_cases (touch_at e.start e f) (touch_at e.end e f) touching)
  where
    at : (c : Position) → IsEnd c e → touch_at c e f ≡ true → same_point x y ≡ true
    at c own t = same_transitive x (point_at c) y (position_is_point c) (at_common c e f own t x hx kx lx)
        (same_symmetric (point_at c) y ∙ at_common c e f own t y hy ky ly)

    go : (touch_at e.start e f ≡ true) ⊎ (touch_at e.end e f ≡ true) → same_point x y ≡ true
    go (inl t) = at e.start (inl refl) t
    go (inr t) = at e.end (inr refl) t

pub none_shares : (e : Edge) (others : List Edge) → list_any (overlap_on_one_line e) others ≡ false → SharesNoStretch e others
none_shares e others none f c one x y hx hy kx lx ky ly = go (touch e f) refl
  where
    shares : share_point e f ≡ true
    shares = (shared_point_is_decided e f).1 (record { at = x; is_point = hx; on_first = kx; on_second = lx })

    found : touch e f ≡ false → list_any (overlap_on_one_line e) others ≡ true
    found apart = list_any_at (overlap_on_one_line e) others c.0 f c.1 (ap (overlap_on_one_line e) c.2
        ∙ and_from (on_one_line e f && share_point e f) (not (touch e f)) (and_from (on_one_line e f) (share_point e f) one shares) (ap not apart))

    go : (b : Bool) → touch e f ≡ b → same_point x y ≡ true
    go true t = touching_alike e f t x y hx hy kx lx ky ly
    go false t = absurd (let clash : true ≡ false = sym (found t) ∙ none in cc)
