-- The positions on which an odd number of ends lie.
use Rattle.std.proofs.Common.{◌≡◌, ◌⊎◌, inl, inr, ℕ, zero, suc, ◌+◌, ◌-◌, ◌<◌, ◌≤◌, Bool, true, false, not, ◌&&◌, ◌||◌, refl, sym, ap, ap₂, ◌∙◌, subst, List, [], ◌∷◌, ◌++◌, length, get_or, take, count_by, flat_map, cond, append_assoc, Result, Ok, Err, IfOk, arith, IsPermutation}
use Rattle.std.specs.Prelude.{nat_lt}
use Rattle.std.specs.List.{AllByRecursion, list_any}
use Rattle.std.specs.List.Sorted.{IsSorted, IsStrictlySortedBy}
use Rattle.std.specs.Cmp.{IsTotalOrder}
use Rattle.std.specs.Ordering.{is_lt, ordering_reverse}
use Rattle.std.specs.declared.cmp.Ordering.{Ordering}
use Rattle.std.specs.declared.cmp.Ordering.TheVariants.{Less, Equal, Greater}
use Rattle.std.proofs.lemmas.Bool.Decides.{nat_tests}
use Rattle.std.proofs.lemmas.Cmp.{int_cmp_total, on_total, then_total}
use Rattle.std.proofs.Math.Seq.{take-length}
use Rattle.std.proofs.lemmas.Grind.{flat_map-append}
use Rattle.std.proofs.lemmas.List.{take_more, append-nil, take_all}
use Rattle.std.proofs.lemmas.List.Sorted.{sorted_far, ranks_by, sum_by-IsPermutation}
use Rattle.std.proofs.lemmas.Bool.{and_parts}
use Rattle.std.proofs.Math.Bool.{or-true}
use Rattle.basics.proofs.Numbers.{earlier_or_last}
use Rattle.geometry_model.specs.Points.{Position, Point, IsPoint, same_point, point_at, compare}
use Rattle.geometry_model.specs.Crossings.{odd, exactly_one as xor}
use Rattle.geometry_model.specs.Locations.{is_at, last_after, ends}
use Rattle.geometry_model.specs.WellKnownText.{same_position}
use Rattle.fraction.specs.Orders.{position_order}
use Rattle.fraction.proofs.OrderLemmas.{position_order_is, same_position_is}
use Rattle.geometry_laws.proofs.Each.{odd_count}
use Rattle.geometry_laws.specs.PointLaws.{reversed}
use Rattle.geometry_laws.proofs.PointOrder.{same_symmetric, same_transitive, equal_is_same, compare_reversed, less_transitive}
use Rattle.geometry_laws.proofs.Xor.{xor_false}
use Rattle.edge_boxes.proofs.RunSums.{odd_joined}
use Rattle.validity.specs.OddEnds.{AreOddEnds, ends_in, toggled, HasParityOf, IsBeforeRest}

-- ---- the order of positions
-- positions are ordered totally by x, then by y
pub position_total : IsTotalOrder position_order
position_total = then_total (on_total (λ (a : Position). a.x) int_cmp_total) (on_total (λ (a : Position). a.y) int_cmp_total)

-- positions that compare as equal are the same
equal_same : (a b : Position) → position_order a b ≡ Equal → same_position a b ≡ true
equal_same a b e = same_position_is a b ∙ (equal_is_same (point_at a) (point_at b)).0 (sym (position_order_is a b) ∙ e)

-- positions at one point of the plane compare as equal
same_equal : (a b : Position) → same_point (point_at a) (point_at b) ≡ true → position_order a b ≡ Equal
same_equal a b e = position_order_is a b ∙ (equal_is_same (point_at a) (point_at b)).1 e

-- not greater, and another: less
less_from : (a b : Position) → is_lt (position_order b a) ≡ false → same_position a b ≡ false → position_order a b ≡ Less
less_from a b h k = go (position_order a b) refl
  where
    go : (o : Ordering) → position_order a b ≡ o → position_order a b ≡ Less
    go Less e = e
    go Equal e = absurd (let n : true ≡ false = sym (equal_same a b e) ∙ k in cc)
    go Greater e = absurd (let n : true ≡ false = sym (ap is_lt (position_total.antisymm b a ∙ ap ordering_reverse e)) ∙ h in cc)

-- ---- lists that end in a position
all_added : {X : Type 0} (P : X → Type 0) (xs : List X) (x : X) → AllByRecursion P xs → P x → AllByRecursion P (xs ++ x ∷ [])
all_added P [] x h k = (k, tt)
all_added P (y ∷ ys) x h k = (h.0, all_added P ys x h.1 k)

all_left : {X : Type 0} (P : X → Type 0) (xs ys : List X) → AllByRecursion P (xs ++ ys) → AllByRecursion P xs
all_left P [] ys h = tt
all_left P (x ∷ xs) ys h = (h.0, all_left P xs ys h.1)

all_weaker : {X : Type 0} (P Q : X → Type 0) (xs : List X) → ((x : X) → P x → Q x) → AllByRecursion P xs → AllByRecursion Q xs
all_weaker P Q [] f h = tt
all_weaker P Q (x ∷ xs) f h = (f x h.0, all_weaker P Q xs f h.1)

-- a position greater than all of an ascending list may be added at its end
strict_added : (xs : List Position) (x : Position) → IsStrictlySortedBy position_order xs → AllByRecursion (λ a. position_order a x ≡ Less) xs → IsStrictlySortedBy position_order (xs ++ x ∷ [])
unfolding IsStrictlySortedBy
strict_added [] x h k = (tt, tt)
strict_added (y ∷ ys) x h k = (all_added (λ b. position_order y b ≡ Less) ys x h.0 k.0, strict_added ys x h.1 k.1)

-- the front of an ascending list ascends
strict_left : (xs ys : List Position) → IsStrictlySortedBy position_order (xs ++ ys) → IsStrictlySortedBy position_order xs
unfolding IsStrictlySortedBy
strict_left [] ys h = tt
strict_left (x ∷ xs) ys h = (all_left (λ b. position_order x b ≡ Less) xs ys h.0, strict_left xs ys h.1)

-- where a position isn't less than any of an ascending list, and isn't its last, all are less than it
all_less : (x a : Position) (others : List Position) → IsStrictlySortedBy position_order (a ∷ others) → AllByRecursion (λ b. is_lt (position_order x b) ≡ false) (a ∷ others) → same_position (last_after a others) x ≡ false
    → AllByRecursion (λ b. position_order b x ≡ Less) (a ∷ others)
unfolding IsStrictlySortedBy
all_less x a [] s l n = (less_from a x l.0 n, tt)
all_less x a (b ∷ bs) s l n = let rest = all_less x b bs s.1 l.1 n in (position_total.trans a b x s.0.0 rest.0, rest)

-- ---- the last position
-- the position at the last place is the last one
pub last_is : (a : Position) (rest : List Position) (d : Position) → get_or (a ∷ rest) (length rest) d ≡ last_after a rest
last_is a [] d = refl
last_is a (b ∷ rest) d = last_is b rest d

-- the same of a list that may be empty: where it doesn't end in the position, all of it are less
less_all : (x : Position) (xs : List Position) → IsStrictlySortedBy position_order xs → AllByRecursion (λ b. is_lt (position_order x b) ≡ false) xs → ends_in xs x ≡ false → AllByRecursion (λ b. position_order b x ≡ Less) xs
less_all x [] s l n = tt
less_all x (a ∷ others) s l n = all_less x a others s l (ap (λ b. same_position b x) (sym (here ∙ last_is a others x)) ∙ tested (length others) (get_or (a ∷ others) (length (a ∷ others) - 1) x) n)
  where
    here : get_or (a ∷ others) (length (a ∷ others) - 1) x ≡ get_or (a ∷ others) (length others) x
    here = let e : length (a ∷ others) - 1 ≡ length others = omega arith in ap (λ n. get_or (a ∷ others) n x) e

    positive : (n : ℕ) → nat_lt 0 (suc n) ≡ true
    positive n = grind (arith, nat_tests)

    tested : (n : ℕ) (b : Position) → nat_lt 0 (suc n) && same_position b x ≡ false → same_position b x ≡ false
    tested n b e = sym (ap (λ t. t && same_position b x) (positive n)) ∙ e

-- ---- one position more
-- what isn't greater than any position from a place on isn't greater than any from the next on
after_rest : (given : List Position) (i : ℕ) (a : Position) → IsBeforeRest given i a → IsBeforeRest given (i + 1) a
after_rest given i a h j d l k = h j d (omega (arith, l)) k

-- the same of all that are kept
pub all_after : (given : List Position) (i : ℕ) (xs : List Position) → AllByRecursion (IsBeforeRest given i) xs → AllByRecursion (IsBeforeRest given (i + 1)) xs
all_after given i xs h = all_weaker (IsBeforeRest given i) (IsBeforeRest given (i + 1)) xs (after_rest given i) h

-- a position of a sorted list isn't greater than any behind it
this_before : (given : List Position) (i : ℕ) (x : Position) → IsSorted position_order given → i < length given → x ≡ get_or given i x → IsBeforeRest given (i + 1) x
this_before given i x up l is j d m k =
    let at : get_or given i d ≡ x = given_at given i l x d ∙ sym is in
    subst (λ a. is_lt (position_order (get_or given j d) a) ≡ false) at (sorted_far (λ a b. is_lt (position_order a b)) (ranks_by position_total (λ a. a)) given up i j d (omega (arith, m)) k)
  where
    given_at : (xs : List Position) (n : ℕ) → n < length xs → (d e : Position) → get_or xs n e ≡ get_or xs n d
    given_at [] n h d e = absurd (omega (arith, h))
    given_at (y ∷ ys) zero h d e = refl
    given_at (y ∷ ys) (suc n) h d e = given_at ys n (omega (arith, h)) d e

-- the next position isn't less than one that is before all the rest
at_this : (given : List Position) (i : ℕ) (x : Position) → i < length given → x ≡ get_or given i x → (a : Position) → IsBeforeRest given i a → is_lt (position_order x a) ≡ false
at_this given i x l is a h = ap (λ b. is_lt (position_order b a)) is ∙ h i x (same i) l
  where
    same : (i : ℕ) → i ≤ i
    same i = omega arith

one_odd : (f : Position → Bool) (x : Position) → odd (count_by f (x ∷ [])) ≡ f x
one_odd f x = odd_count f (x ∷ []) ∙ xor_false (f x)

-- one position more turns the parity at the point where it lies, and nowhere else
added_odd : (f : Position → Bool) (xs : List Position) (x : Position) → odd (count_by f (xs ++ x ∷ [])) ≡ xor (odd (count_by f xs)) (f x)
added_odd f xs x = odd_joined f xs (x ∷ []) ∙ ap (xor (odd (count_by f xs))) (one_odd f x)

-- what is turned twice is as it was
twice : (a b : Bool) → xor (xor a b) b ≡ a
twice true true = refl
twice true false = refl
twice false true = refl
twice false false = refl

-- what is kept after so many positions
pub record IsKeptOdd (found given : List Position) (i : ℕ) : Type 0 where
  pub ascend : IsStrictlySortedBy position_order found
  pub before : AllByRecursion (IsBeforeRest given i) found
  pub parity : HasParityOf found (take i given)

-- of no ends nothing is kept
pub nothing_odd : (given : List Position) → IsKeptOdd [] given 0
unfolding IsStrictlySortedBy
nothing_odd given = record { ascend = tt; before = tt; parity = λ p. refl }

-- the next end isn't the last one kept: it is greater than all kept, so it may be added,
-- and the parity turns at its point in both lists
pub odd_added : (found given : List Position) (i : ℕ) (x : Position) → IsSorted position_order given → i < length given → x ≡ get_or given i x → ends_in found x ≡ false → IsKeptOdd found given i
    → IsKeptOdd (found ++ x ∷ []) given (i + 1)
odd_added found given i x up l is n k = record {
  ascend = strict_added found x k.ascend (less_all x found k.ascend (all_weaker (IsBeforeRest given i) (λ b. is_lt (position_order x b) ≡ false) found (at_this given i x l is) k.before) n);
  before = all_added (IsBeforeRest given (i + 1)) found x (all_after given i found k.before) (this_before given i x up l is);
  parity = λ p. added_odd (is_at p) found x ∙ ap (λ b. xor b (is_at p x)) (k.parity p) ∙ sym (added_odd (is_at p) (take i given) x) ∙ ap (λ l. odd (count_by (is_at p) l)) (sym (more p));
}
  where
    more : (p : Point) → take (i + 1) given ≡ take i given ++ x ∷ []
    more p = take_more given i x l ∙ ap (λ b. take i given ++ b ∷ []) (sym is)

-- equal positions have equal coordinates
pub same_is : (a b : Position) → same_position a b ≡ true → a ≡ b
same_is a b e = grind arith

-- the next end is the last one kept: taking that away turns the parity at its point as the end itself does
pub odd_taken : (found kept given : List Position) (i : ℕ) (last x : Position) → found ≡ kept ++ last ∷ [] → i < length given → x ≡ get_or given i x → last ≡ x → IsKeptOdd found given i → IsKeptOdd kept given (i + 1)
odd_taken found kept given i last x split l is e k = record {
  ascend = strict_left kept (last ∷ []) (subst (IsStrictlySortedBy position_order) split k.ascend);
  before = all_after given i kept (all_left (IsBeforeRest given i) kept (last ∷ []) (subst (AllByRecursion (IsBeforeRest given i)) split k.before));
  parity = λ p. sym (twice (odd (count_by (is_at p) kept)) (is_at p x)) ∙ ap (λ b. xor b (is_at p x)) (whole p) ∙ sym (added_odd (is_at p) (take i given) x) ∙ ap (λ l. odd (count_by (is_at p) l)) (sym more);
}
  where
    more : take (i + 1) given ≡ take i given ++ x ∷ []
    more = take_more given i x l ∙ ap (λ b. take i given ++ b ∷ []) (sym is)

    whole : (p : Point) → xor (odd (count_by (is_at p) kept)) (is_at p x) ≡ odd (count_by (is_at p) (take i given))
    whole p = ap (λ b. xor (odd (count_by (is_at p) kept)) (is_at p b)) (sym e) ∙ sym (added_odd (is_at p) kept last) ∙ ap (λ l. odd (count_by (is_at p) l)) (sym split) ∙ k.parity p

-- the position at the end, and those before it
split_at_end : (found : List Position) (x : Position) → 0 < length found → found ≡ take (length found - 1) found ++ get_or found (length found - 1) x ∷ []
split_at_end found x h =
    let e : length found - 1 + 1 ≡ length found = omega (arith, h) in
    let l : length found - 1 < length found = omega (arith, h) in
    sym (ap (λ n. take n found) e ∙ take-length found) ∙ take_more found (length found - 1) x l

-- one end more: it is added, or cancels the same one at the end; what is kept stays the positions of odd number
pub odd_toggled : (found new given : List Position) (i : ℕ) (x : Position) → IsSorted position_order given → i < length given → x ≡ get_or given i x → new ≡ toggled found x → IsKeptOdd found given i → IsKeptOdd new given (i + 1)
odd_toggled found new given i x up l is e k = go (ends_in found x) refl
  where
    some : (n : ℕ) (b : Bool) → nat_lt 0 n && b ≡ true → 0 < n
    some zero b f = absurd (let m : false ≡ true = f in cc)
    some (suc n) b f = omega arith

    go : (t : Bool) → ends_in found x ≡ t → IsKeptOdd new given (i + 1)
    go false f = subst (λ l. IsKeptOdd l given (i + 1)) (sym (e ∙ ap (λ t. cond t (take (length found - 1) found) (found ++ x ∷ [])) f)) (odd_added found given i x up l is f k)
    go true f = subst (λ l. IsKeptOdd l given (i + 1)) (sym (e ∙ ap (λ t. cond t (take (length found - 1) found) (found ++ x ∷ [])) f))
        (odd_taken found (take (length found - 1) found) given i (get_or found (length found - 1) x) x (split_at_end found x (some (length found) (same_position (get_or found (length found - 1) x) x) f)) l is
        (same_is (get_or found (length found - 1) x) x (and_parts (nat_lt 0 (length found)) (same_position (get_or found (length found - 1) x) x) f).1) k)

-- when all ends are seen the positions kept have the parity of all ends
pub odd_of_all : (found given : List Position) (i : ℕ) → length given ≤ i → IsKeptOdd found given i → HasParityOf found given
odd_of_all found given i h k p = k.parity p ∙ ap (λ l. odd (count_by (is_at p) l)) (take_all i given h)

-- the two ends of a line
pub two_ends : (old once twice line : List Position) (a b : Position) → 0 < length line → a ≡ get_or line 0 a → b ≡ get_or line (length line - 1) b → once ≡ old ++ a ∷ [] → twice ≡ once ++ b ∷ [] → twice ≡ old ++ ends line
two_ends old once twice [] a b h ea eb e f = absurd (omega (arith, h))
two_ends old once twice (x ∷ rest) a b h ea eb e f = f ∙ ap (λ l. l ++ b ∷ []) e ∙ append_assoc old (a ∷ []) (b ∷ []) ∙ ap₂ (λ c d. old ++ c ∷ d ∷ []) ea (eb ∙ ap (λ n. get_or (x ∷ rest) n b) less ∙ last_is x rest b)
  where
    less : length (x ∷ rest) - 1 ≡ length rest
    less = omega arith

-- ---- one more of joined lists
-- what each list made so far, put together, with what the next one makes, is what all up to it make
pub one_more_joined : {X Y : Type 0} (f : X → List Y) (xs : List X) (i : ℕ) (x : X) (items new more : List Y) → i < length xs → x ≡ get_or xs i x → items ≡ flat_map f (take i xs) → more ≡ f x → new ≡ items ++ more
    → new ≡ flat_map f (take (i + 1) xs)
one_more_joined f xs i x items new more within is before made grew =
    grew ∙ ap₂ (λ l m. l ++ m) before (made ∙ sym (append-nil (f x))) ∙ sym (flat_map-append f (take i xs) (x ∷ []))
    ∙ ap (flat_map f) (ap (λ y. take i xs ++ y ∷ []) is ∙ sym (take_more xs i x within))

-- ---- a point is at one of ascending positions at most
-- a point isn't at two positions of which one is less, since positions at one point are equal
apart : (p : Point) (a b : Position) → IsPoint p → position_order a b ≡ Less → is_at p a ≡ true → is_at p b ≡ false
apart p a b hp h e = go (is_at p b) refl
  where
    go : (t : Bool) → is_at p b ≡ t → is_at p b ≡ false
    go false f = f
    go true f = absurd (let n = same_equal a b (same_transitive (point_at a) p (point_at b) hp e (same_symmetric p (point_at b) ∙ f)) in let m : Less ≡ Equal = sym h ∙ n in cc)

-- where a point lies at a position it is at none of the greater ones behind it
none_after : (p : Point) (a : Position) (others : List Position) → IsPoint p → is_at p a ≡ true → AllByRecursion (λ b. position_order a b ≡ Less) others → odd (count_by (is_at p) others) ≡ false
none_after p a [] hp e h = refl
none_after p a (b ∷ bs) hp e h = odd_joined (is_at p) (b ∷ []) bs ∙ ap₂ xor (one_odd (is_at p) b ∙ apart p a b hp h.0 e) (none_after p a bs hp e h.1)

-- at ascending positions a point is at one at most, so it is at some exactly where it lies at an odd number
pub one_applies : (p : Point) (xs : List Position) → IsPoint p → IsStrictlySortedBy position_order xs → list_any (is_at p) xs ≡ odd (count_by (is_at p) xs)
unfolding IsStrictlySortedBy
one_applies p [] hp h = refl
one_applies p (a ∷ others) hp h = go (is_at p a) refl (one_applies p others hp h.1) ∙ sym (odd_joined (is_at p) (a ∷ []) others ∙ ap (λ b. xor b (odd (count_by (is_at p) others))) (one_odd (is_at p) a))
  where
    go : (t : Bool) → is_at p a ≡ t → list_any (is_at p) others ≡ odd (count_by (is_at p) others) → (is_at p a || list_any (is_at p) others) ≡ xor (is_at p a) (odd (count_by (is_at p) others))
    go true e r = ap (λ b. b || list_any (is_at p) others) e ∙ sym (ap not (none_after p a others hp e h.0)) ∙ ap (λ b. xor b (odd (count_by (is_at p) others))) (sym e)
    go false e r = ap (λ b. b || list_any (is_at p) others) e ∙ r ∙ ap (λ b. xor b (odd (count_by (is_at p) others))) (sym e)

-- of all ends, in ascending order, those that are left
pub are_odd_ends : (ls : List (List Position)) (all sorted found : List Position) → all ≡ flat_map ends ls → IsPermutation all sorted → IsStrictlySortedBy position_order found → HasParityOf found sorted → AreOddEnds found ls
are_odd_ends ls all sorted found e moved up alike = record {
  ascend = up;
  exact = λ p hp. one_applies p found hp up ∙ alike p ∙ ap odd (sum_by-IsPermutation _ all sorted moved) ∙ ap (λ l. odd (count_by (is_at p) l)) e;
}

-- the same of an answer that may be running out of memory instead
pub odd_ends_found : {V E : Type 0} (items : V → List Position) (r : Result V E) (ls : List (List Position)) (all sorted slice : List Position) → all ≡ flat_map ends ls → IsPermutation all sorted → slice ≡ sorted
    → IfOk r (λ v. IsStrictlySortedBy position_order (items v)) → IfOk r (λ v. HasParityOf (items v) slice) → IfOk r (λ v. AreOddEnds (items v) ls)
odd_ends_found items (Ok v) ls all sorted slice e moved f up alike = are_odd_ends ls all sorted (items v) e moved up (subst (HasParityOf (items v)) f alike)
odd_ends_found items (Err w) ls all sorted slice e moved f up alike = tt

-- ---- a search among ascending positions
all_at : {X : Type 0} (P : X → Type 0) (xs : List X) (k : ℕ) (d : X) → k < length xs → AllByRecursion P xs → P (get_or xs k d)
all_at P [] k d h a = absurd (omega (arith, h))
all_at P (x ∷ xs) zero d h a = a.0
all_at P (x ∷ xs) (suc k) d h a = all_at P xs k d (omega (arith, h)) a.1

-- in an ascending list a position at an earlier place is less than one at a later
strict_far : (xs : List Position) (i j : ℕ) (d : Position) → i < j → j < length xs → IsStrictlySortedBy position_order xs → position_order (get_or xs i d) (get_or xs j d) ≡ Less
unfolding IsStrictlySortedBy
strict_far [] i j d h k s = absurd (omega (arith, k))
strict_far (x ∷ xs) zero zero d h k s = absurd (omega (arith, h))
strict_far (x ∷ xs) zero (suc j) d h k s = all_at (λ y. position_order x y ≡ Less) xs j d (omega (arith, k)) s.0
strict_far (x ∷ xs) (suc i) zero d h k s = absurd (omega (arith, h))
strict_far (x ∷ xs) (suc i) (suc j) d h k s = strict_far xs i j d (omega (arith, h)) (omega (arith, k)) s.1

-- how a position lies to the point
abbrev pub lies : Position → Point → Ordering
lies a p = compare (point_at a) p

one_is_point : (a : Position) → IsPoint (point_at a)
one_is_point a = omega arith

-- those before one place are less than the point, those from another one on greater
pub record IsParted (xs : List Position) (p : Point) (low high : ℕ) : Type 0 where
  pub below : (k : ℕ) (d : Position) → k < low → lies (get_or xs k d) p ≡ Less
  pub above : (k : ℕ) (d : Position) → high ≤ k → k < length xs → lies (get_or xs k d) p ≡ Greater
  pub within : high ≤ length xs

-- at the start of a search nothing is excluded yet
pub parted_first : (xs : List Position) (p : Point) (n : ℕ) → n ≡ length xs → IsParted xs p 0 n
parted_first xs p n e = record { below = λ k d h. absurd (omega (arith, h)); above = λ k d h l. absurd (omega (arith, e, h, l)); within = omega (arith, e) }

same_at : (xs : List Position) (k : ℕ) (d e : Position) → k < length xs → get_or xs k d ≡ get_or xs k e
same_at [] k d e h = absurd (omega (arith, h))
same_at (x ∷ xs) zero d e h = refl
same_at (x ∷ xs) (suc k) d e h = same_at xs k d e (omega (arith, h))

-- where the middle position is less than the point, so are all before it, and the search goes on above it
pub parted_less : (xs : List Position) (p : Point) (low high middle : ℕ) (a : Position) → IsPoint p → IsStrictlySortedBy position_order xs → middle < high → a ≡ get_or xs middle a → lies a p ≡ Less → IsParted xs p low high → IsParted xs p (middle + 1) high
parted_less xs p low high middle a hp s m is e parts = record { below = below; above = parts.above; within = parts.within }
  where
    inside : middle < length xs
    inside = let w = parts.within in omega (arith, m, w)

    at : (d : Position) → lies (get_or xs middle d) p ≡ Less
    at d = ap (λ b. lies b p) (same_at xs middle d a inside ∙ sym is) ∙ e

    below : (k : ℕ) (d : Position) → k < middle + 1 → lies (get_or xs k d) p ≡ Less
    below k d h = go (earlier_or_last k middle h)
      where
        go : (k < middle) ⊎ (k ≡ middle) → lies (get_or xs k d) p ≡ Less
        go (inl l) = less_transitive (point_at (get_or xs k d)) (point_at (get_or xs middle d)) p (one_is_point (get_or xs k d)) (one_is_point (get_or xs middle d)) hp
            (sym (position_order_is (get_or xs k d) (get_or xs middle d)) ∙ strict_far xs k middle d l inside s) (at d)
        go (inr l) = ap (λ n. lies (get_or xs n d) p) l ∙ at d

turn : (p q : Point) → compare p q ≡ Greater → compare q p ≡ Less
turn p q e = compare_reversed p q ∙ ap reversed e

turn_back : (p q : Point) → compare q p ≡ Less → compare p q ≡ Greater
turn_back p q e = compare_reversed q p ∙ ap reversed e

-- where the middle position is greater than the point, so are all behind it, and the search goes on below it
pub parted_greater : (xs : List Position) (p : Point) (low high middle : ℕ) (a : Position) → IsPoint p → IsStrictlySortedBy position_order xs → middle < high → a ≡ get_or xs middle a → lies a p ≡ Greater → IsParted xs p low high → IsParted xs p low middle
parted_greater xs p low high middle a hp s m is e parts = record { below = parts.below; above = above; within = let w = parts.within in omega (arith, m, w) }
  where
    inside : middle < length xs
    inside = let w = parts.within in omega (arith, m, w)

    at : (d : Position) → lies (get_or xs middle d) p ≡ Greater
    at d = ap (λ b. lies b p) (same_at xs middle d a inside ∙ sym is) ∙ e

    above : (k : ℕ) (d : Position) → middle ≤ k → k < length xs → lies (get_or xs k d) p ≡ Greater
    above k d h l = go (earlier_or_last middle k (omega (arith, h)))
      where
        go : (middle < k) ⊎ (middle ≡ k) → lies (get_or xs k d) p ≡ Greater
        go (inl m) = turn_back (point_at (get_or xs k d)) p (less_transitive p (point_at (get_or xs middle d)) (point_at (get_or xs k d)) hp (one_is_point (get_or xs middle d)) (one_is_point (get_or xs k d))
            (turn (point_at (get_or xs middle d)) p (at d)) (sym (position_order_is (get_or xs middle d) (get_or xs k d)) ∙ strict_far xs middle k d m l s))
        go (inr m) = ap (λ n. lies (get_or xs n d) p) (sym m) ∙ at d

is_from : (p : Point) (a : Position) → lies a p ≡ Equal → is_at p a ≡ true
is_from p a e = (equal_is_same (point_at a) p).0 e

-- a position that compares as equal with the point is one at which the point lies
pub found_there : (xs : List Position) (p : Point) (middle : ℕ) (a : Position) → middle < length xs → a ≡ get_or xs middle a → lies a p ≡ Equal → list_any (is_at p) xs ≡ true
found_there [] p middle a h is e = absurd (omega (arith, h))
found_there (x ∷ xs) p zero a h is e = ap (λ b. b || list_any (is_at p) xs) (ap (is_at p) (sym is) ∙ is_from p a e)
found_there (x ∷ xs) p (suc m) a h is e = ap (λ b. is_at p x || b) (found_there xs p m a (omega (arith, h)) is e) ∙ or-true (is_at p x)

-- where no position compares as equal with the point it lies at none of them
none_applies : (xs : List Position) (p : Point) → ((k : ℕ) (d : Position) → k < length xs → lies (get_or xs k d) p ≡ Equal → ⊥) → list_any (is_at p) xs ≡ false
none_applies [] p h = refl
none_applies (x ∷ xs) p h = ap₂ (λ (a b : Bool). a || b) (off (is_at p x) refl) (none_applies xs p (λ k d l. h (suc k) d (omega (arith, l))))
  where
    first : 0 < length (x ∷ xs)
    first = omega arith

    off : (t : Bool) → is_at p x ≡ t → is_at p x ≡ false
    off false e = e
    off true e = absurd (h zero x first ((equal_is_same (point_at x) p).1 e))

-- when the places are used up each position is less or greater, so the point is at none
pub not_there : (xs : List Position) (p : Point) (low high : ℕ) → high ≤ low → IsParted xs p low high → list_any (is_at p) xs ≡ false
not_there xs p low high h parts = none_applies xs p off
  where
    off : (k : ℕ) (d : Position) → k < length xs → lies (get_or xs k d) p ≡ Equal → ⊥
    off k d l e = go (nat_lt k low) refl
      where
        go : (t : Bool) → nat_lt k low ≡ t → ⊥
        go true f = let under : k < low = grind (arith, nat_tests) in let n : Less ≡ Equal = sym (parts.below k d under) ∙ e in cc
        go false f = let past : high ≤ k = grind (arith, nat_tests) in let n : Greater ≡ Equal = sym (parts.above k d past l) ∙ e in cc
