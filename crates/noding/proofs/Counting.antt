-- How many pairs of edges have overlapping ranges of x: counted edge by edge, and in another order.
use Rattle.std.proofs.Common.{◌≡◌, ℕ, suc, ◌+◌, ◌<◌, ◌≤◌, min, true, false, cond, ◌&&◌, refl, sym, ap, ap₂, ◌∙◌, List, [], ◌∷◌, length, get_or, drop, count_by, length-drop, int_le, arith, IsPermutation, add-one}
use Rattle.std.specs.List.{sum_by}
use Rattle.std.proofs.Math.Seq.{drop-cons}
use Rattle.std.proofs.lemmas.List.{get_or-drop, drop_all}
use Rattle.std.proofs.lemmas.List.Sums.{sum_by-cons}
use Rattle.std.proofs.lemmas.List.Sorted.{sum_by-IsPermutation, length_permutation}
use Rattle.std.proofs.Math.Bool.{and_comm}
use Rattle.basics.proofs.Signs.{at_most_yes}
use Rattle.basics.proofs.Lists.{same_sums}
use Rattle.basics.proofs.Orders.{at_most_at_most}
use Rattle.geometry_model.specs.Geometries.{Edge}
use Rattle.noding.specs.NodeRanges.{lesser, greater, x_ranges_overlap, overlaps_with_first, overlaps_of_first, overlapping_pairs}
use Rattle.noding.proofs.Sweeping.{lesser_first, greater_first}

-- ---- sums
sum_of_two : {X : Type 0} (f g : X → ℕ) (xs : List X) → sum_by (λ x. f x + g x) xs ≡ sum_by f xs + sum_by g xs
sum_of_two f g [] = refl
sum_of_two f g (x ∷ xs) = sum_by-cons (λ y. f y + g y) x xs ∙ ap (λ n. f x + g x + n) (sum_of_two f g xs) ∙ exchanged (f x) (g x) (sum_by f xs) (sum_by g xs)
    ∙ sym (ap₂ (λ m n. m + n) (sum_by-cons f x xs) (sum_by-cons g x xs))
  where
    exchanged : (a b c d : ℕ) → a + b + (c + d) ≡ a + c + (b + d)
    exchanged a b c d = omega arith

-- ---- the pairs in another order
-- two ranges overlap whichever is named first
overlap_turned : (e f : Edge) → x_ranges_overlap e f ≡ x_ranges_overlap f e
overlap_turned e f = and_comm (int_le (lesser e.start.x e.end.x) (greater f.start.x f.end.x)) (int_le (lesser f.start.x f.end.x) (greater e.start.x e.end.x))

-- each range overlaps itself
overlaps_itself : (e : Edge) → x_ranges_overlap e e ≡ true
overlaps_itself e = ap (λ b. b && b) (at_most_yes (lesser e.start.x e.end.x) (greater e.start.x e.end.x) (at_most_at_most (lesser e.start.x e.end.x) e.start.x (greater e.start.x e.end.x) (lesser_first e.start.x e.end.x) (greater_first e.start.x e.end.x)))

-- with each edge of the list, itself among them
with_all : List Edge → ℕ
with_all es = sum_by (λ e. count_by (x_ranges_overlap e) es) es

-- counting for each edge all that it overlaps counts each pair twice and each edge once more
twice : (es : List Edge) → with_all es ≡ overlapping_pairs es + overlapping_pairs es + length es
unfolding with_all
twice [] = refl
twice (e ∷ es) =
    sum_by-cons (λ x. count_by (x_ranges_overlap x) (e ∷ es)) e es
    ∙ ap₂ (λ m n. m + n) of_first (of_others (twice es))
    ∙ put_together (count_by (x_ranges_overlap e) es) (overlapping_pairs es) (length es)
  where
    of_first : count_by (x_ranges_overlap e) (e ∷ es) ≡ 1 + count_by (x_ranges_overlap e) es
    of_first = sum_by-cons (λ x. cond (x_ranges_overlap e x) 1 0) e es ∙ ap (λ b. cond b 1 0 + count_by (x_ranges_overlap e) es) (overlaps_itself e)

    of_one : (x : Edge) → count_by (x_ranges_overlap x) (e ∷ es) ≡ cond (x_ranges_overlap e x) 1 0 + count_by (x_ranges_overlap x) es
    of_one x = sum_by-cons (λ y. cond (x_ranges_overlap x y) 1 0) e es ∙ ap (λ b. cond b 1 0 + count_by (x_ranges_overlap x) es) (overlap_turned x e)

    of_others : with_all es ≡ overlapping_pairs es + overlapping_pairs es + length es → sum_by (λ x. count_by (x_ranges_overlap x) (e ∷ es)) es ≡ count_by (x_ranges_overlap e) es + (overlapping_pairs es + overlapping_pairs es + length es)
    of_others h = same_sums (λ x. count_by (x_ranges_overlap x) (e ∷ es)) (λ x. cond (x_ranges_overlap e x) 1 0 + count_by (x_ranges_overlap x) es) es of_one
        ∙ sum_of_two (λ x. cond (x_ranges_overlap e x) 1 0) (λ x. count_by (x_ranges_overlap x) es) es
        ∙ ap (λ n. count_by (x_ranges_overlap e) es + n) h

    put_together : (m n l : ℕ) → 1 + m + (m + (n + n + l)) ≡ (m + n) + (m + n) + suc l
    put_together m n l = omega arith

-- so the number of pairs is the same in any order of the edges
pub pairs_in_order : (es fs : List Edge) → IsPermutation es fs → overlapping_pairs fs ≡ overlapping_pairs es
unfolding with_all
pairs_in_order es fs h = halved (overlapping_pairs fs) (overlapping_pairs es) (length fs) (length es) (length_permutation es fs h)
    (sym (twice fs) ∙ same ∙ twice es)
  where
    halved : (a b n m : ℕ) → n ≡ m → a + a + n ≡ b + b + m → a ≡ b
    halved a b n m e g = omega arith

    same : with_all fs ≡ with_all es
    same = same_sums (λ e. count_by (x_ranges_overlap e) fs) (λ e. count_by (x_ranges_overlap e) es) fs (λ e. sum_by-IsPermutation (λ x. cond (x_ranges_overlap e x) 1 0) es fs h)
        ∙ sum_by-IsPermutation (λ e. count_by (x_ranges_overlap e) es) es fs h

-- ---- edge by edge
from_place : (es : List Edge) (i : ℕ) (e : Edge) → i < length es → e ≡ get_or es i e → drop i es ≡ e ∷ drop (i + 1) es
from_place es i e l g = drop-cons es i e l ∙ ap₂ (λ (x : Edge) n. x ∷ drop n es) (sym g) (sym (add-one i))

-- when an edge's turn begins all that follow it are still to be counted
pub count_begins : (es : List Edge) (i : ℕ) (e : Edge) → i < length es → e ≡ get_or es i e → overlaps_with_first (drop i es) (drop (i + 1) es) ≡ overlaps_of_first (drop i es)
count_begins es i e l g = ap (λ xs. overlaps_with_first xs (drop (i + 1) es)) (from_place es i e l g) ∙ sym (ap overlaps_of_first (from_place es i e l g))

-- an edge that overlaps it counts one
pub count_goes_on : (es : List Edge) (i j : ℕ) (e f : Edge) → i < length es → e ≡ get_or es i e → j < length es → f ≡ get_or es j f → x_ranges_overlap e f ≡ true
    → overlaps_with_first (drop i es) (drop j es) ≡ 1 + overlaps_with_first (drop i es) (drop (j + 1) es)
count_goes_on es i j e f l g k h o =
    ap (λ xs. overlaps_with_first xs (drop j es)) (from_place es i e l g)
    ∙ ap (count_by (x_ranges_overlap e)) (from_place es j f k h)
    ∙ sum_by-cons (λ x. cond (x_ranges_overlap e x) 1 0) f (drop (j + 1) es)
    ∙ ap (λ b. cond b 1 0 + count_by (x_ranges_overlap e) (drop (j + 1) es)) o
    ∙ ap (λ xs. 1 + overlaps_with_first xs (drop (j + 1) es)) (sym (from_place es i e l g))

-- edges that all don't overlap count none
none_counted : (e : Edge) (fs : List Edge) → ((k : ℕ) (d : Edge) → k < length fs → x_ranges_overlap e (get_or fs k d) ≡ false) → count_by (x_ranges_overlap e) fs ≡ 0
none_counted e [] h = refl
none_counted e (f ∷ fs) h = sum_by-cons (λ x. cond (x_ranges_overlap e x) 1 0) f fs ∙ ap₂ (λ b n. cond b 1 0 + n) (h 0 f (omega arith)) (none_counted e fs (λ k d l. h (suc k) d (omega (arith, l))))

dropped_at : (es : List Edge) (j k : ℕ) (d : Edge) → get_or (drop j es) k d ≡ get_or es (j + k) d
dropped_at es j k d = simp get_or-drop

-- once none of those that follow overlaps, the count of this edge is done
pub count_ends : (es : List Edge) (i j : ℕ) (e : Edge) → i < length es → e ≡ get_or es i e → ((k : ℕ) (d : Edge) → j ≤ k → k < length es → x_ranges_overlap e (get_or es k d) ≡ false) → overlaps_with_first (drop i es) (drop j es) ≡ 0
count_ends es i j e l g none = ap (λ xs. overlaps_with_first xs (drop j es)) (from_place es i e l g)
    ∙ none_counted e (drop j es) (λ k d m. ap (x_ranges_overlap e) (dropped_at es j k d) ∙ none (j + k) d (omega arith) (omega (arith, m, length-drop j es)))

-- the pairs from an edge on are its own and those from the next edge on
pub pairs_go_on : (es : List Edge) (i : ℕ) (e : Edge) → i < length es → e ≡ get_or es i e → overlapping_pairs (drop i es) ≡ overlaps_of_first (drop i es) + overlapping_pairs (drop (i + 1) es)
pairs_go_on es i e l g = ap overlapping_pairs (from_place es i e l g) ∙ sym (ap (λ xs. overlaps_of_first xs + overlapping_pairs (drop (i + 1) es)) (from_place es i e l g))

-- behind the last edge there are none
pub no_pairs : (es : List Edge) (i : ℕ) → length es ≤ i → overlapping_pairs (drop i es) ≡ 0
no_pairs es i h = ap overlapping_pairs (drop_all i es h)

-- ---- a count that stays at the greatest number
-- a count that stops at the greatest number goes on by one ..
pub count_step : (m t u c d a : ℕ) → u ≡ min (t + 1) m → c ≡ 1 + d → min (t + c) m ≡ a → min (u + d) m ≡ a
count_step m t u c d a e f g = grind arith

-- .. goes over from one edge to the next ..
pub count_over : (m t u c d a : ℕ) → u ≡ min (t + c) m → a ≡ c + d → min (u + d) m ≡ min (t + a) m
count_over m t u c d a e f = grind arith

-- .. and at its end is the number, or the greatest one
pub count_done : (m t c a : ℕ) → t ≤ m → c ≡ 0 → min (t + c) m ≡ a → t ≡ a
count_done m t c a h e f = grind arith
