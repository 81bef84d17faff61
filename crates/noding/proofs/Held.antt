-- Edges that hold others: turned, within, joined.
use Rattle.std.proofs.Common.{◌≡◌, ◌↔◌, ◌⊎◌, inl, inr, Bool, true, false, ◌&&◌, IsTrue, refl, sym, ap, ap₂, subst, ◌∙◌, ℕ, ◌+◌, ◌<◌, ◌≤◌, List, [], ◌∷◌, ◌++◌, length, get_or, set, take, drop, All, Any, Contains, Option, None, Some, IfSome, ℤ, pos, ◌+ℤ◌, ◌*ℤ◌, arith}
use Rattle.std.specs.List.Sorted.{IsPermutation}
use Rattle.std.proofs.lemmas.List.{append_assoc, append-nil, drop-set-lt, drop_all, drop_more, take-append-drop, take_more, take_more_set}
use Rattle.std.proofs.lemmas.List.Elements.{All-nil, All-cons, All-push, All-set, All-contains, All-contains_itself, All-weaker}
use Rattle.std.proofs.lemmas.List.Sorted.{All-permutation, IsPermutation-sym}
use borrow.Author.Differences.{ints}
use Rattle.std.specs.declared.cmp.Ordering.{Ordering}
use Rattle.std.specs.declared.cmp.Ordering.TheVariants.{Less, Equal, Greater}
use Rattle.std.proofs.lemmas.Bool.{and_parts}
use Rattle.basics.proofs.Bools.{not_both}
use Rattle.geometry_model.specs.Points.{Position, Point, IsPoint, point_at, compare}
use Rattle.geometry_model.specs.Geometries.{Edge}
use Rattle.geometry_model.specs.Sides.{side, on, on_one_line}
use Rattle.geometry_laws.proofs.Each.{Among, among_either, among_left, among_right, each_at, each_of}
use Rattle.geometry_laws.proofs.PointOrder.{same_reflexive, same_symmetric, equal_is_same, less_transitive}
use Rattle.geometry_laws.proofs.RingParity.{each_from_all, position_is_point, side_is_area}
use Rattle.geometry_laws.proofs.Respect.{compare_respects}
use Rattle.geometry_laws.proofs.Locating.{start_is_on, end_is_on}
use Rattle.geometry_laws.proofs.Hulls.{OnHull, on_from_hull, hull_from_on}
use Rattle.geometry_laws.proofs.LineOrder.{on_sum, area_on_line}
use Rattle.geometry_laws.proofs.Cuts.{OneLine, one_line, not_less_self, turn_less, not_after_both, not_before_both}
use Rattle.matrix_laws.proofs.MatrixLists.{Some_of, all_from_each, among_from_contains, any_from_some, contains_from_among, some_from_any}
use Rattle.matrix_laws.specs.Covering.{IsHeld}
use Rattle.noding.specs.Merging.{AreMerged, left_of}
use Rattle.matrix_laws.proofs.Between.{on_line, wide}
use Rattle.matrix_laws.proofs.Shared.{start_on, end_on, span_forth, on_forth}

-- ---- lists
held_by : (es : List Edge) (f : Edge) → Among f es → (x : Point) → on f x ≡ true → Any (λ g. on g x ≡ true) es
held_by es f a x h = any_from_some (λ g. on g x ≡ true) es (record { found = f; among = a; has = h })

-- what an edge holds is held where that edge is
pub held_within : (es : List Edge) (f e : Edge) → ((x : Point) → IsPoint x → on e x ≡ true → on f x ≡ true) → IsHeld es f → IsHeld es e
held_within es f e h k x hx l = k x hx (h x hx l)

-- what edges hold that are held is held
pub held_through : (es fs : List Edge) (e : Edge) → All (IsHeld es) fs → IsHeld fs e → IsHeld es e
held_through es fs e all h x hx k = go (some_from_any (λ f. on f x ≡ true) fs (h x hx k))
  where
    go : Some_of (λ f. on f x ≡ true) fs → Any (λ f. on f x ≡ true) es
    go s = each_at (IsHeld es) fs s.found (each_from_all (IsHeld es) fs all) s.among x hx s.has

-- ---- turned
abbrev pub turned : Edge → Edge
turned e = record { start = e.end; end = e.start }

turned_hull : (e : Edge) (x : Point) → OnHull (turned e) x → OnHull e x
turned_hull e x h = record {
  k = h.k;
  m = h.n;
  n = h.m;
  from_k = h.from_k;
  from_m = h.from_n;
  from_n = h.from_m;
  x_is = h.x_is ∙ exchanged (h.m *ℤ e.end.x) (h.n *ℤ e.start.x);
  y_is = h.y_is ∙ exchanged (h.m *ℤ e.end.y) (h.n *ℤ e.start.y);
  w_is = h.w_is ∙ exchanged h.m h.n;
}
  where
    exchanged : (x y : ℤ) → x +ℤ y ≡ y +ℤ x
    exchanged x y = omega (arith, ints)

-- an edge holds itself turned
pub turned_is_held : (e : Edge) → IsHeld (e ∷ []) (turned e)
turned_is_held e x hx h = held_by (e ∷ []) e (inl refl) x (on_from_hull e x (turned_hull e x (hull_from_on (turned e) x hx h)))

-- ---- within: an edge that holds the ends of another holds all of it
pub holds_all : (f e : Edge) → on f (point_at e.start) ≡ true → on f (point_at e.end) ≡ true → (x : Point) → IsPoint x → on e x ≡ true → on f x ≡ true
holds_all f e s t x hx h = from (hull_from_on e x hx h)
  where
    both : (m n : ℤ) → m +ℤ n ≡ m *ℤ pos 1 +ℤ n *ℤ pos 1
    both m n = omega (arith, ints)

    from : OnHull e x → on f x ≡ true
    from o = on_from_hull f x (on_sum f (point_at e.start) (point_at e.end) x (hull_from_on f (point_at e.start) (position_is_point e.start) s) (hull_from_on f (point_at e.end) (position_is_point e.end) t)
        (record { k = o.k; m = o.m; n = o.n; from_k = o.from_k; from_m = o.from_m; from_n = o.from_n; x_is = o.x_is; y_is = o.y_is; w_is = o.w_is ∙ both o.m o.n }))

-- ---- joined
-- the order of points carries over points that aren't in the opposite order
weak_before : (a b c : Point) → IsPoint a → IsPoint b → IsPoint c → (compare b a ≡ Less → ⊥) → compare b c ≡ Less → compare a c ≡ Less
weak_before a b c ha hb hc n l = go (compare a b) refl
  where
    go : (o : Ordering) → compare a b ≡ o → compare a c ≡ Less
    go Less k = less_transitive a b c ha hb hc k l
    go Equal k = compare_respects c a b ha hb ((equal_is_same a b).0 k) ∙ l
    go Greater k = absurd (n (turn_less a b k))

-- what an edge's ends are of a line, its points are
line_kept : (s g : Edge) (x : Point) → (s.start ≡ s.end → ⊥) → (g.start ≡ g.end → ⊥) → side s.start s.end (point_at g.start) ≡ pos 0 → side s.start s.end (point_at g.end) ≡ pos 0 → on g x ≡ true → side s.start s.end x ≡ pos 0
line_kept s g x w v p q h = side_is_area s.start s.end x ∙ area_on_line g.start g.end (point_at s.start) (point_at s.end) x v (seen s.start (on_line s (point_at s.start) (start_on s))) (seen s.end (on_line s (point_at s.end) (end_on s))) (on_line g x h)
  where
    seen : (a : Position) → side s.start s.end (point_at a) ≡ pos 0 → side g.start g.end (point_at a) ≡ pos 0
    seen a l = side_is_area g.start g.end (point_at a) ∙ area_on_line s.start s.end (point_at g.start) (point_at g.end) (point_at a) w p q l

-- two edges of a line, the second of which starts on the first and ends after it
pub record Follows (s e : Edge) : Type 0 where
  pub wide : s.start ≡ s.end → ⊥
  pub one_line : on_one_line s e ≡ true
  pub not_after : compare (point_at s.end) (point_at e.start) ≡ Less → ⊥
  pub not_before : compare (point_at e.start) (point_at s.start) ≡ Less → ⊥
  pub longer : compare (point_at s.end) (point_at e.end) ≡ Less

-- together they hold all from the start of the first to the end of the second
pub joined_is_held : (s e : Edge) → Follows s e → IsHeld (s ∷ e ∷ []) (record { start = s.start; end = e.end })
joined_is_held s e f x hx h = go (compare (point_at s.end) x) refl
  where
    line : OneLine s e
    line = one_line s e f.one_line

    in_order : compare (point_at s.start) (point_at e.end) ≡ Less
    in_order = weak_before (point_at s.start) (point_at e.start) (point_at e.end) (position_is_point s.start) (position_is_point e.start) (position_is_point e.end) f.not_before
        (weak_before (point_at e.start) (point_at s.end) (point_at e.end) (position_is_point e.start) (position_is_point s.end) (position_is_point e.end) f.not_after f.longer)

    is_wide : s.start ≡ e.end → ⊥
    is_wide = wide (record { start = s.start; end = e.end }) (point_at s.start) (point_at e.end) (span_forth (record { start = s.start; end = e.end }) in_order)

    on_s_line : side s.start s.end x ≡ pos 0
    on_s_line = line_kept s (record { start = s.start; end = e.end }) x f.wide is_wide (on_line s (point_at s.start) (start_on s)) line.end h

    on_e_line : side e.start e.end x ≡ pos 0
    on_e_line = side_is_area e.start e.end x ∙ area_on_line s.start s.end (point_at e.start) (point_at e.end) x f.wide line.start line.end on_s_line

    by_first : on s x ≡ true → Any (λ d. on d x ≡ true) (s ∷ e ∷ [])
    by_first k = held_by (s ∷ e ∷ []) s (inl refl) x k

    by_second : on e x ≡ true → Any (λ d. on d x ≡ true) (s ∷ e ∷ [])
    by_second k = held_by (s ∷ e ∷ []) e (inr (inl refl)) x k

    -- after the first's end
    beyond : compare (point_at e.start) x ≡ Less → (o : Ordering) → compare x (point_at e.end) ≡ o → on e x ≡ true
    beyond k Less l = on_forth e x hx on_e_line k l
    beyond k Equal l = end_is_on e x hx (same_symmetric (point_at e.end) x ∙ (equal_is_same x (point_at e.end)).0 l)
    beyond k Greater l = absurd (not_both (on (record { start = s.start; end = e.end }) x) h (not_after_both (record { start = s.start; end = e.end }) x hx
        (weak_before (point_at s.start) (point_at e.start) x (position_is_point s.start) (position_is_point e.start) hx f.not_before k) (turn_less x (point_at e.end) l)))

    -- before it
    within : compare x (point_at s.end) ≡ Less → (o : Ordering) → compare (point_at s.start) x ≡ o → on s x ≡ true
    within k Less l = on_forth s x hx on_s_line l k
    within k Equal l = start_is_on s x hx ((equal_is_same (point_at s.start) x).0 l)
    within k Greater l = absurd (not_both (on (record { start = s.start; end = e.end }) x) h (not_before_both (record { start = s.start; end = e.end }) x hx (turn_less (point_at s.start) x l)
        (less_transitive x (point_at s.end) (point_at e.end) hx (position_is_point s.end) (position_is_point e.end) k f.longer)))

    go : (o : Ordering) → compare (point_at s.end) x ≡ o → Any (λ d. on d x ≡ true) (s ∷ e ∷ [])
    go Less k = by_second (beyond (weak_before (point_at e.start) (point_at s.end) x (position_is_point e.start) (position_is_point s.end) hx f.not_after k) (compare x (point_at e.end)) refl)
    go Equal k = by_first (end_is_on s x hx ((equal_is_same (point_at s.end) x).0 k))
    go Greater k = by_first (within (turn_less (point_at s.end) x k) (compare (point_at s.start) x) refl)

-- ---- as the code finds them
abbrev edge_from : Position → Position → Edge
edge_from a b = record { start = a; end = b }

pub turned_from : (e g : Edge) (a b : Position) → a ≡ e.end → b ≡ e.start → g ≡ record { start = a; end = b } → IsHeld (e ∷ []) g
turned_from e g a b p q h = subst (IsHeld (e ∷ [])) (sym (h ∙ ap₂ edge_from p q)) (turned_is_held e)

-- of a test of the order
pub unordered : (a b c d : Position) (r : Bool) → (IsTrue r ↔ (compare (point_at a) (point_at b) ≡ Less)) → r ≡ false → a ≡ c → b ≡ d → compare (point_at c) (point_at d) ≡ Less → ⊥
unordered a b c d r h f p q k = not_both r (h.1 (ap₂ (λ (x y : Position). compare (point_at x) (point_at y)) p q ∙ k)) f

pub ordered : (a b c d : Position) (r : Bool) → (IsTrue r ↔ (compare (point_at a) (point_at b) ≡ Less)) → r ≡ true → a ≡ c → b ≡ d → compare (point_at c) (point_at d) ≡ Less
ordered a b c d r h f p q = ap₂ (λ (x y : Position). compare (point_at x) (point_at y)) (sym p) (sym q) ∙ h.0 f

pub joined_from : (s e : Edge) (r : Option Edge) (a b : Position) → a ≡ s.start → b ≡ e.end → IfSome r (λ g. g ≡ record { start = a; end = b }) → Follows s e → IfSome r (IsHeld (s ∷ e ∷ []))
joined_from s e None a b p q h f = h
joined_from s e (Some g) a b p q h f = subst (IsHeld (s ∷ e ∷ [])) (sym (h ∙ ap₂ edge_from p q)) (joined_is_held s e f)

-- what holds the edges of a list holds what two of them hold
held_at_place : (es ms : List Edge) (i : ℕ) (f : Edge) → i < length ms → f ≡ get_or ms i f → AreMerged es ms → IsHeld es f
held_at_place es ms i f l e all = All-contains (IsHeld es) ms f all (i, l, sym e)

pub joined_put : (es ms : List Edge) (i j k : ℕ) (f g h : Edge) → i < length ms → f ≡ get_or ms i f → j < length ms → g ≡ get_or ms j g → IsHeld (f ∷ g ∷ []) h → AreMerged es ms → AreMerged es (set ms k h)
joined_put es ms i j k f g h li ei lj ej held all = All-set (IsHeld es) ms k h
    (held_through es (f ∷ g ∷ []) h (All-cons (IsHeld es) f (g ∷ []) (held_at_place es ms i f li ei all) (All-cons (IsHeld es) g [] (held_at_place es ms j g lj ej all) (All-nil (IsHeld es)))) held) all

pub moved_put : (es ms : List Edge) (j k : ℕ) (g : Edge) → j < length ms → g ≡ get_or ms j g → AreMerged es ms → AreMerged es (set ms k g)
moved_put es ms j k g l e all = All-set (IsHeld es) ms k g (held_at_place es ms j g l e all) all

-- an edge whose ends one of the edges holds is held
pub held_at : (es ms : List Edge) (i : ℕ) (f e : Edge) → i < length ms → f ≡ get_or ms i f → AreMerged es ms → (on f (point_at e.start) && on f (point_at e.end)) ≡ true → IsHeld es e
held_at es ms i f e l g all h = held_within es f e (λ x hx k. holds_all f e both.0 both.1 x hx k) (held_at_place es ms i f l g all)
  where
    both : (on f (point_at e.start) ≡ true) × (on f (point_at e.end) ≡ true)
    both = and_parts (on f (point_at e.start)) (on f (point_at e.end)) h

-- one edge more, which an edge of the list holds
pub pushed_held : (es old new : List Edge) (i : ℕ) (e g : Edge) → i < length es → e ≡ get_or es i e → IsHeld (e ∷ []) g → new ≡ old ++ g ∷ [] → AreMerged es old → AreMerged es new
pushed_held es old new i e g l eq h is all = subst (AreMerged es) (sym is) (All-push (IsHeld es) old g all
    (held_through es (e ∷ []) g (All-cons (IsHeld es) e [] itself (All-nil (IsHeld es))) h))
  where
    itself : IsHeld es e
    itself x hx k = any_from_some (λ f. on f x ≡ true) es (record { found = e; among = among_from_contains es e (i, l, sym eq); has = k })

-- ---- what joining loses: nothing
-- the edges that hold a point are some of more
more_hold : (es fs : List Edge) (e : Edge) → ((f : Edge) → Among f es → Among f fs) → IsHeld es e → IsHeld fs e
more_hold es fs e a h x hx k = go (some_from_any (λ f. on f x ≡ true) es (h x hx k))
  where
    go : Some_of (λ f. on f x ≡ true) es → Any (λ f. on f x ≡ true) fs
    go s = held_by fs s.found (a s.found s.among) x s.has

-- each of some edges is held by them
itself_held : (es : List Edge) (e : Edge) → Among e es → IsHeld es e
itself_held es e a x hx k = held_by es e a x k

pub all_held : (es fs : List Edge) → ((e : Edge) → Among e fs → IsHeld es e) → AreMerged es fs
all_held es fs h = all_from_each (IsHeld es) fs (each_of (IsHeld es) fs h)

pub all_themselves : (es : List Edge) → AreMerged es es
all_themselves es = all_held es es (itself_held es)

-- what those hold that are held is held
pub all_through : (es fs gs : List Edge) → AreMerged es fs → AreMerged fs gs → AreMerged es gs
all_through es fs gs h = All-weaker (IsHeld fs) (IsHeld es) (λ e k. held_through es fs e h k) gs

-- an edge turned holds it
pub turned_holds : (e : Edge) → IsHeld (turned e ∷ []) e
turned_holds e = turned_is_held (turned e)

pub turned_holds_from : (e g : Edge) (a b : Position) → a ≡ e.end → b ≡ e.start → g ≡ record { start = a; end = b } → IsHeld (g ∷ []) e
turned_holds_from e g a b p q h = subst (λ (f : Edge). IsHeld (f ∷ []) e) (sym (h ∙ ap₂ edge_from p q)) (turned_holds e)

-- a point of an edge's line that isn't before its start nor after its end is on it
on_between : (e : Edge) (a : Position) → side e.start e.end (point_at a) ≡ pos 0 → (compare (point_at a) (point_at e.start) ≡ Less → ⊥) → (compare (point_at e.end) (point_at a) ≡ Less → ⊥) → on e (point_at a) ≡ true
on_between e a l m n = first (compare (point_at e.start) (point_at a)) refl
  where
    last : compare (point_at e.start) (point_at a) ≡ Less → (o : Ordering) → compare (point_at a) (point_at e.end) ≡ o → on e (point_at a) ≡ true
    last k Less h = on_forth e (point_at a) (position_is_point a) l k h
    last k Equal h = end_is_on e (point_at a) (position_is_point a) (same_symmetric (point_at e.end) (point_at a) ∙ (equal_is_same (point_at a) (point_at e.end)).0 h)
    last k Greater h = absurd (n (turn_less (point_at a) (point_at e.end) h))

    first : (o : Ordering) → compare (point_at e.start) (point_at a) ≡ o → on e (point_at a) ≡ true
    first Less k = last k (compare (point_at a) (point_at e.end)) refl
    first Equal k = start_is_on e (point_at a) (position_is_point a) ((equal_is_same (point_at e.start) (point_at a)).0 k)
    first Greater k = absurd (m (turn_less (point_at e.start) (point_at a) k))

-- an edge that holds the ends of another holds it
by_ends : (f e : Edge) → on f (point_at e.start) ≡ true → on f (point_at e.end) ≡ true → IsHeld (f ∷ []) e
by_ends f e s t x hx h = held_by (f ∷ []) f (inl refl) x (holds_all f e s t x hx h)

-- ---- joined, the other way round: what two edges become holds both
-- an order that goes round is none
no_round : (a b : Position) → compare (point_at a) (point_at b) ≡ Less → compare (point_at b) (point_at a) ≡ Less → ⊥
no_round a b k l = not_less_self (point_at a) (point_at a) (same_reflexive (point_at a)) (less_transitive (point_at a) (point_at b) (point_at a) (position_is_point a) (position_is_point b) (position_is_point a) k l)

abbrev joint : Edge → Edge → Edge
joint s e = record { start = s.start; end = e.end }

-- what is on the line of the first is on that of the joint edge
joint_line : (s e : Edge) → Follows s e → (a : Position) → side s.start s.end (point_at a) ≡ pos 0 → side s.start e.end (point_at a) ≡ pos 0
joint_line s e f a l = side_is_area s.start e.end (point_at a) ∙ area_on_line s.start s.end (point_at s.start) (point_at e.end) (point_at a) f.wide (on_line s (point_at s.start) (start_on s)) (one_line s e f.one_line).end l

pub joint_holds_first : (s e : Edge) → Follows s e → IsHeld (joint s e ∷ []) s
joint_holds_first s e f = by_ends (joint s e) s (start_on (joint s e)) (on_between (joint s e) s.end (joint_line s e f s.end (on_line s (point_at s.end) (end_on s))) ends_after (no_round s.end e.end f.longer))
  where
    ends_after : compare (point_at s.end) (point_at s.start) ≡ Less → ⊥
    ends_after k = f.not_before (weak_before (point_at e.start) (point_at s.end) (point_at s.start) (position_is_point e.start) (position_is_point s.end) (position_is_point s.start) f.not_after k)

pub joint_holds_second : (s e : Edge) → Follows s e → IsHeld (joint s e ∷ []) e
joint_holds_second s e f = by_ends (joint s e) e (on_between (joint s e) e.start (joint_line s e f e.start (one_line s e f.one_line).start) f.not_before starts_before) (end_on (joint s e))
  where
    starts_before : compare (point_at e.end) (point_at e.start) ≡ Less → ⊥
    starts_before k = f.not_after (less_transitive (point_at s.end) (point_at e.end) (point_at e.start) (position_is_point s.end) (position_is_point e.end) (position_is_point e.start) f.longer k)

pub joint_from : (s e f : Edge) (r : Option Edge) (a b : Position) → a ≡ s.start → b ≡ e.end → IfSome r (λ g. g ≡ record { start = a; end = b }) → IsHeld (joint s e ∷ []) f → IfSome r (λ g. IsHeld (g ∷ []) f)
joint_from s e f None a b p q h k = h
joint_from s e f (Some g) a b p q h k = subst (λ (d : Edge). IsHeld (d ∷ []) f) (sym (h ∙ ap₂ edge_from p q)) k

-- an edge of the first's line with both ends between those of the first
pub within_held : (s e : Edge) → on_one_line s e ≡ true → (compare (point_at e.start) (point_at s.start) ≡ Less → ⊥) → (compare (point_at s.end) (point_at e.start) ≡ Less → ⊥)
    → (compare (point_at e.end) (point_at s.start) ≡ Less → ⊥) → (compare (point_at s.end) (point_at e.end) ≡ Less → ⊥) → IsHeld (s ∷ []) e
within_held s e l a b c d = by_ends s e (on_between s e.start (one_line s e l).start a b) (on_between s e.end (one_line s e l).end c d)

-- ---- the edges that are kept, and those that are still to be joined
-- two become one, in the place of the first
pub joined_left : (xs : List Edge) (k place : ℕ) (last next longer : Edge) → k < place → place < length xs → last ≡ get_or xs k last → next ≡ get_or xs place next → IsHeld (longer ∷ []) last → IsHeld (longer ∷ []) next
    → AreMerged (left_of (set xs k longer) (k + 1) (place + 1)) (left_of xs (k + 1) place)
joined_left xs k place last next longer lt inside el en hl hn = subst (λ (new : List Edge). AreMerged new (left_of xs (k + 1) place)) (sym new_is) (subst (AreMerged ((take k xs ++ longer ∷ []) ++ drop (place + 1) xs)) (sym old_is) all)
  where
    has : k < length xs
    has = omega (arith, lt, inside)

    new_is : left_of (set xs k longer) (k + 1) (place + 1) ≡ (take k xs ++ longer ∷ []) ++ drop (place + 1) xs
    new_is = ap₂ (λ (a b : List Edge). a ++ b) (take_more_set xs k longer has) (drop-set-lt (place + 1) xs k longer (omega (arith, lt)))

    old_is : left_of xs (k + 1) place ≡ (take k xs ++ last ∷ []) ++ (next ∷ drop (place + 1) xs)
    old_is = ap₂ (λ (a b : List Edge). a ++ b) (take_more xs k last has ∙ ap (λ (e : Edge). take k xs ++ e ∷ []) (sym el)) (drop_more xs place next inside ∙ ap (λ (e : Edge). e ∷ drop (place + 1) xs) (sym en))

    longer_is : Among longer ((take k xs ++ longer ∷ []) ++ drop (place + 1) xs)
    longer_is = among_left longer (take k xs ++ longer ∷ []) (drop (place + 1) xs) (among_right longer (take k xs) (longer ∷ []) (inl refl))

    by_longer : (e : Edge) → IsHeld (longer ∷ []) e → IsHeld ((take k xs ++ longer ∷ []) ++ drop (place + 1) xs) e
    by_longer e = more_hold (longer ∷ []) ((take k xs ++ longer ∷ []) ++ drop (place + 1) xs) e one
      where
        one : (f : Edge) → Among f (longer ∷ []) → Among f ((take k xs ++ longer ∷ []) ++ drop (place + 1) xs)
        one f (inl h) = subst (λ (g : Edge). Among g ((take k xs ++ longer ∷ []) ++ drop (place + 1) xs)) (sym h) longer_is
        one f (inr a) = absurd a

    first : (e : Edge) → Among e (take k xs ++ last ∷ []) → IsHeld ((take k xs ++ longer ∷ []) ++ drop (place + 1) xs) e
    first e a = go (among_either e (take k xs) (last ∷ []) a)
      where
        go : Among e (take k xs) ⊎ Among e (last ∷ []) → IsHeld ((take k xs ++ longer ∷ []) ++ drop (place + 1) xs) e
        go (inl b) = itself_held ((take k xs ++ longer ∷ []) ++ drop (place + 1) xs) e (among_left e (take k xs ++ longer ∷ []) (drop (place + 1) xs) (among_left e (take k xs) (longer ∷ []) b))
        go (inr (inl h)) = by_longer e (subst (IsHeld (longer ∷ [])) (sym h) hl)
        go (inr (inr b)) = absurd b

    second : (e : Edge) → Among e (next ∷ drop (place + 1) xs) → IsHeld ((take k xs ++ longer ∷ []) ++ drop (place + 1) xs) e
    second e (inl h) = by_longer e (subst (IsHeld (longer ∷ [])) (sym h) hn)
    second e (inr a) = itself_held ((take k xs ++ longer ∷ []) ++ drop (place + 1) xs) e (among_right e (take k xs ++ longer ∷ []) (drop (place + 1) xs) a)

    all : AreMerged ((take k xs ++ longer ∷ []) ++ drop (place + 1) xs) ((take k xs ++ last ∷ []) ++ (next ∷ drop (place + 1) xs))
    all = all_held ((take k xs ++ longer ∷ []) ++ drop (place + 1) xs) ((take k xs ++ last ∷ []) ++ (next ∷ drop (place + 1) xs)) (λ e a. go e (among_either e (take k xs ++ last ∷ []) (next ∷ drop (place + 1) xs) a))
      where
        go : (e : Edge) → Among e (take k xs ++ last ∷ []) ⊎ Among e (next ∷ drop (place + 1) xs) → IsHeld ((take k xs ++ longer ∷ []) ++ drop (place + 1) xs) e
        go e (inl a) = first e a
        go e (inr a) = second e a

-- the next edge is kept as well
pub moved_left : (xs : List Edge) (kept place : ℕ) (next : Edge) → kept ≤ place → place < length xs → next ≡ get_or xs place next → AreMerged (left_of (set xs kept next) (kept + 1) (place + 1)) (left_of xs kept place)
moved_left xs kept place next le inside en = subst (λ (new : List Edge). AreMerged new (left_of xs kept place)) is (all_themselves (left_of xs kept place))
  where
    is : left_of xs kept place ≡ left_of (set xs kept next) (kept + 1) (place + 1)
    is = ap (λ (b : List Edge). take kept xs ++ b) (drop_more xs place next inside ∙ ap (λ (e : Edge). e ∷ drop (place + 1) xs) (sym en))
        ∙ sym (append_assoc (take kept xs) (next ∷ []) (drop (place + 1) xs))
        ∙ sym (ap₂ (λ (a b : List Edge). a ++ b) (take_more_set xs kept next (omega (arith, le, inside))) (drop-set-lt (place + 1) xs kept next (omega (arith, le))))

-- at first, and at the end
pub all_left : (xs : List Edge) → AreMerged (left_of xs 1 1) xs
all_left xs = subst (λ (ys : List Edge). AreMerged ys xs) (sym (take-append-drop 1 xs)) (all_themselves xs)

pub none_left : (xs ys : List Edge) (kept place : ℕ) → length xs ≤ place → AreMerged (left_of xs kept place) ys → AreMerged (take kept xs) ys
none_left xs ys kept place le = subst (λ (zs : List Edge). AreMerged zs ys) (ap (λ (b : List Edge). take kept xs ++ b) (drop_all place xs le) ∙ append-nil (take kept xs))

-- in another order
pub sorted_all : (xs ys : List Edge) → IsPermutation xs ys → AreMerged ys xs
sorted_all xs ys p = all_held ys xs (λ e a. itself_held ys e (among_from_contains ys e (All-contains (Contains ys) xs e (All-permutation (Contains ys) ys xs (IsPermutation-sym xs ys p) (All-contains_itself ys)) (contains_from_among xs e a))))

-- one edge more, and what holds it
pub pushed_all : (ms new es : List Edge) (i : ℕ) (e g : Edge) → i < length es → e ≡ get_or es i e → IsHeld (g ∷ []) e → new ≡ ms ++ g ∷ [] → AreMerged ms (take i es) → AreMerged new (take (i + 1) es)
pushed_all ms new es i e g l eq h is all = subst (λ (ns : List Edge). AreMerged ns (take (i + 1) es)) (sym is) (subst (AreMerged (ms ++ g ∷ [])) (sym (take_more es i e l ∙ ap (λ (f : Edge). take i es ++ f ∷ []) (sym eq)))
    (All-push (IsHeld (ms ++ g ∷ [])) (take i es) e (All-weaker (IsHeld ms) (IsHeld (ms ++ g ∷ [])) (λ f. more_hold ms (ms ++ g ∷ []) f (λ d a. among_left d ms (g ∷ []) a)) (take i es) all)
    (more_hold (g ∷ []) (ms ++ g ∷ []) e (λ d a. among_right d ms (g ∷ []) a) h)))
