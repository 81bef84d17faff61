-- What a sort and the removal of doubles leave of a list: its elements, ascending, each once.
use Rattle.std.proofs.Common.{◌≡◌, true, ◌&&◌, refl, sym, ap₂, subst, ◌∙◌, List, [], ◌∷◌, Bool, All, Any, Contains, map}
use Rattle.std.specs.Cmp.{IsTotalOrder, IsEquivalence, both_tied}
use Rattle.std.specs.Ordering.{eq_by_cmp, ordering_then}
use Rattle.std.specs.declared.cmp.Ordering.{Ordering}
use Rattle.std.specs.declared.cmp.Ordering.TheVariants.{Less}
use Rattle.std.specs.List.{dedup, AllByRecursion}
use Rattle.std.specs.List.Sorted.{IsPermutation, IsSorted, IsStrictlySortedBy}
use Rattle.std.proofs.lemmas.Cmp.{eq_by_cmp_equiv, on_total, then_total, on_equiv, and_equiv}
use Rattle.std.proofs.lemmas.List.Sorted.{IsPermutation-sym, Contains-permutation}
use Rattle.std.proofs.lemmas.List.Kept.{Any-dedup, Contains-from_dedup, IsStrictlySortedBy-dedup}
use Rattle.std.proofs.lemmas.Bool.{and_parts, and_from}
use Rattle.geometry_model.specs.Points.{Point, IsPoint, same_point, compare}
use Rattle.geometry_model.specs.Pieces.{Piece, compare_pieces}
use Rattle.fraction.specs.Orders.{point_order}
use Rattle.fraction.specs.OrderLaws.{point_order_total}
use Rattle.fraction.proofs.OrderLemmas.{point_order_is, point_ties_are}
use Rattle.geometry_laws.proofs.Each.{Each, Among, each_at, each_of}
use Rattle.geometry_laws.proofs.PointOrder.{same_symmetric}
use Rattle.matrix_laws.proofs.MatrixLists.{Some_of, among_from_contains, contains_from_among, some_from_any, any_from_some, among_map, map_among}
use Rattle.matrix_laws.proofs.Sorted.{Sorted, pairs_from_sorted}
use Rattle.noding.specs.Nodings.{same_piece, piece_of, HasPointEnds, PutsPointsInOrder, PutsPiecesInOrder}

-- an order of values that the lawful order agrees with, and when two are the same
pub record Agrees {X : Type 0} (R : X → X → Ordering) (E : X → X → Bool) (V : X → Type 0) (order : X → X → Ordering) (same : X → X → Bool) : Type 0 where
  pub total : IsTotalOrder R
  pub equivalence : IsEquivalence E
  pub ties : (x y : X) → E x y ≡ eq_by_cmp R x y
  pub order_is : (x y : X) → V x → V y → R x y ≡ order x y
  pub same_is : (x y : X) → V x → V y → E x y ≡ true → same y x ≡ true

-- the second list has the elements of the first, one for each of those that are the same, ascending
pub record Ordered {X : Type 0} (order : X → X → Ordering) (same : X → X → Bool) (xs zs : List X) : Type 0 where
  pub from : (x : X) → Among x zs → Among x xs
  pub kept : (x : X) → Among x xs → Some_of (λ z. same z x ≡ true) zs
  pub sorted : Sorted order zs

each_after : {X : Type 0} (R order : X → X → Ordering) (V : X → Type 0) → ((x y : X) → V x → V y → R x y ≡ order x y) → (x : X) (zs : List X) → V x → Each V zs
    → AllByRecursion (λ y. R x y ≡ Less) zs → Each (λ y. order x y ≡ Less) zs
each_after R order V f x [] v vs h = tt
each_after R order V f x (z ∷ zs) v vs h = (sym (f x z v vs.0) ∙ h.0, each_after R order V f x zs v vs.1 h.1)

-- sorted by the lawful order is sorted by the order of these values
strictly_sorted : {X : Type 0} (R order : X → X → Ordering) (V : X → Type 0) → ((x y : X) → V x → V y → R x y ≡ order x y) → (zs : List X) → Each V zs → IsStrictlySortedBy R zs → Sorted order zs
unfolding IsStrictlySortedBy
strictly_sorted R order V f [] vs h = tt
strictly_sorted R order V f (z ∷ zs) vs h = (each_after R order V f z zs vs.0 vs.1 h.0, strictly_sorted R order V f zs vs.1 h.1)

-- sorting moves elements, and equal ones then lie side by side, so one of each is left, ascending
pub ordered : {X : Type 0} (R : X → X → Ordering) (E : X → X → Bool) (V : X → Type 0) (order : X → X → Ordering) (same : X → X → Bool) → Agrees R E V order same
    → (xs ys zs : List X) → Each V xs → IsPermutation xs ys → IsSorted R ys → zs ≡ dedup E ys → Ordered order same xs zs
ordered {X} R E V order same a xs ys zs vs moved up left = record { from = from; kept = kept; sorted = strictly_sorted R order V a.order_is zs values (subst (IsStrictlySortedBy R) (sym left) (IsStrictlySortedBy-dedup a.total a.ties ys up)) }
  where
    from : (x : X) → Among x zs → Among x xs
    from x h = among_from_contains xs x (Contains-permutation ys xs x (IsPermutation-sym xs ys moved) (Contains-from_dedup E ys x (subst (λ us. Contains us x) left (contains_from_among zs x h))))

    values : Each V zs
    values = each_of V zs (λ x h. each_at V xs x vs (from x h))

    said : (x : X) → V x → Some_of (λ z. E x z ≡ true) zs → Some_of (λ z. same z x ≡ true) zs
    said x v s = record { found = s.found; among = s.among; has = a.same_is x s.found v (each_at V zs s.found values s.among) s.has }

    kept : (x : X) → Among x xs → Some_of (λ z. same z x ≡ true) zs
    kept x h = said x (each_at V xs x vs h) (some_from_any (λ z. E x z ≡ true) zs (subst (Any (λ z. E x z ≡ true)) (sym left) (Any-dedup a.equivalence ys x (Contains-permutation xs ys x moved (contains_from_among xs x h)))))

-- ---- points
-- the order of points by fractions agrees with their order across, and its ties with being one point
points_agree : Agrees point_order (eq_by_cmp point_order) IsPoint compare same_point
points_agree = record {
  total = point_order_total;
  equivalence = eq_by_cmp_equiv point_order_total;
  ties = λ p q. refl;
  order_is = point_order_is;
  same_is = λ p q hp hq e. same_symmetric q p ∙ sym (point_ties_are p q hp hq) ∙ e;
}

pub each_from_all : {X : Type 0} (P : X → Type 0) (xs : List X) → All P xs → Each P xs
each_from_all P xs h = each_of P xs (λ x a. at x (contains_from_among xs x a))
  where
    at : (x : _) → Contains xs x → P x
    at x c = subst P c.2 (h c.0 x c.1)

-- a sorted list of points without doubles holds each point once
pub points_ordered : (xs ys zs : List Point) → All IsPoint xs → IsPermutation xs ys → IsSorted point_order ys → zs ≡ dedup (eq_by_cmp point_order) ys → PutsPointsInOrder xs zs
points_ordered xs ys zs vs moved up left = go (ordered point_order (eq_by_cmp point_order) IsPoint compare same_point points_agree xs ys zs (each_from_all IsPoint xs vs) moved up left)
  where
    go : Ordered compare same_point xs zs → PutsPointsInOrder xs zs
    go o = record {
      from = λ p c. contains_from_among xs p (o.from p (among_from_contains zs p c));
      kept = λ p c. any_from_some (λ q. same_point q p ≡ true) zs (o.kept p (among_from_contains xs p c));
      ascend = pairs_from_sorted compare zs o.sorted;
    }

-- ---- stretches, as pairs of points
abbrev pub pair_order : Point × Point → Point × Point → Ordering
pair_order c d = ordering_then (point_order c.0 d.0) (point_order c.1 d.1)

abbrev pub same_pair : Point × Point → Point × Point → Bool
same_pair c d = eq_by_cmp point_order c.0 d.0 && eq_by_cmp point_order c.1 d.1

abbrev pub PairOfPoints : Point × Point → Type 0
PairOfPoints c = HasPointEnds (piece_of c)

-- the same of pieces, ordered by their lesser and then by their greater ends
pairs_agree : Agrees pair_order same_pair PairOfPoints (λ c d. compare_pieces (piece_of c) (piece_of d)) (λ c d. same_piece (piece_of c) (piece_of d))
pairs_agree = record {
  total = then_total (on_total (λ c. c.0) point_order_total) (on_total (λ c. c.1) point_order_total);
  equivalence = and_equiv (on_equiv (λ c. c.0) (eq_by_cmp_equiv point_order_total)) (on_equiv (λ c. c.1) (eq_by_cmp_equiv point_order_total));
  ties = λ c d. both_tied _ _ (point_order c.0 d.0) (point_order c.1 d.1) refl refl;
  order_is = λ c d hc hd. ap₂ ordering_then (point_order_is c.0 d.0 hc.0 hd.0) (point_order_is c.1 d.1 hc.1 hd.1);
  same_is = same_is;
}
  where
    same_is : (c d : Point × Point) → PairOfPoints c → PairOfPoints d → same_pair c d ≡ true → same_piece (piece_of d) (piece_of c) ≡ true
    same_is c d hc hd e =
        let both : (eq_by_cmp point_order c.0 d.0 ≡ true) × (eq_by_cmp point_order c.1 d.1 ≡ true) = and_parts (eq_by_cmp point_order c.0 d.0) (eq_by_cmp point_order c.1 d.1) e in
        and_from (same_point d.0 c.0) (same_point d.1 c.1)
        (same_symmetric d.0 c.0 ∙ sym (point_ties_are c.0 d.0 hc.0 hd.0) ∙ both.0)
        (same_symmetric d.1 c.1 ∙ sym (point_ties_are c.1 d.1 hc.1 hd.1) ∙ both.1)

-- the same of the pieces that they stand for
each_of_map : {X Y : Type 0} (f : X → Y) (P : Y → Type 0) (xs : List X) → Each P (map f xs) → Each (λ x. P (f x)) xs
each_of_map f P [] h = tt
each_of_map f P (x ∷ xs) h = (h.0, each_of_map f P xs h.1)

map_each : {X Y : Type 0} (f : X → Y) (P : Y → Type 0) (xs : List X) → Each (λ x. P (f x)) xs → Each P (map f xs)
map_each f P [] h = tt
map_each f P (x ∷ xs) h = (h.0, map_each f P xs h.1)

map_sorted : {X Y : Type 0} (f : X → Y) (order : Y → Y → Ordering) (xs : List X) → Sorted (λ x y. order (f x) (f y)) xs → Sorted order (map f xs)
map_sorted f order [] h = tt
map_sorted f order (x ∷ xs) h = (map_each f (λ y. order (f x) y ≡ Less) xs h.0, map_sorted f order xs h.1)

-- a sorted list of pieces without doubles holds each piece once
pub pairs_ordered : (xs ys zs : List (Point × Point)) → All HasPointEnds (map piece_of xs) → IsPermutation xs ys → IsSorted pair_order ys → zs ≡ dedup same_pair ys → PutsPiecesInOrder (map piece_of xs) (map piece_of zs)
pairs_ordered xs ys zs vs moved up left = go (ordered pair_order same_pair PairOfPoints (λ c d. compare_pieces (piece_of c) (piece_of d)) (λ c d. same_piece (piece_of c) (piece_of d)) pairs_agree xs ys zs
    (each_of_map piece_of HasPointEnds xs (each_from_all HasPointEnds (map piece_of xs) vs)) moved up left)
  where
    go : Ordered (λ c d. compare_pieces (piece_of c) (piece_of d)) (λ c d. same_piece (piece_of c) (piece_of d)) xs zs → PutsPiecesInOrder (map piece_of xs) (map piece_of zs)
    go o = record {
      from = λ c h. contains_from_among (map piece_of xs) c (back c (among_map piece_of zs c (among_from_contains (map piece_of zs) c h)));
      kept = λ c h. any_from_some (λ d. same_piece d c ≡ true) (map piece_of zs) (on c (among_map piece_of xs c (among_from_contains (map piece_of xs) c h)));
      ascend = pairs_from_sorted compare_pieces (map piece_of zs) (map_sorted piece_of compare_pieces zs o.sorted);
    }
      where
        back : (c : Piece) → Some_of (λ x. c ≡ piece_of x) zs → Among c (map piece_of xs)
        back c s = subst (λ d. Among d (map piece_of xs)) (sym s.has) (map_among piece_of xs s.found (o.from s.found s.among))

        seen : (c : Piece) (x : Point × Point) → c ≡ piece_of x → Some_of (λ z. same_piece (piece_of z) (piece_of x) ≡ true) zs → Some_of (λ d. same_piece d c ≡ true) (map piece_of zs)
        seen c x e s = record { found = piece_of s.found; among = map_among piece_of zs s.found s.among; has = subst (λ d. same_piece (piece_of s.found) d ≡ true) (sym e) s.has }

        on : (c : Piece) → Some_of (λ x. c ≡ piece_of x) xs → Some_of (λ d. same_piece d c ≡ true) (map piece_of zs)
        on c s = seen c s.found s.has (o.kept s.found s.among)
