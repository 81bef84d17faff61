-- The list of envelopes that a tree was packed from can be read back from it, and a search finds what meets in this list.
use Rattle.std.proofs.Common.{◌≡◌, ◌∙◌, ◌<◌, ◌+◌, ◌==◌, ℕ, zero, suc, Bool, true, false, cond, List, [], ◌∷◌, map, length, get_or, Option, Some, None, ap, refl, sym, subst, arith, IsPermutation}
use borrow.Author.Tests.{eqb-true}
use Rattle.std.specs.Prelude.{IsSortedBy, filter, filter_map, slice_get, sum_by}
use Rattle.std.specs.List.{AllByRecursion, enumerate_from, range_with_len, zip}
use Rattle.std.specs.Ordering.{is_lt, nat_cmp}
use Rattle.std.proofs.lemmas.List.{length-map}
use Rattle.std.proofs.lemmas.List.Elements.{All-from_recursion, recursion_from_All}
use Rattle.std.proofs.lemmas.List.FromFn.{fill_by_all}
use Rattle.std.proofs.lemmas.List.Sorted.{All-permutation, IsPermutation-sym, length_permutation, sum_by-IsPermutation}
use Rattle.std.proofs.lemmas.List.Sums.{sum_by-cons}
use Rattle.geometry_model.specs.Envelopes.{Envelope, overlap}
use Rattle.rtree.specs.Found.{meeting_places, placed_meets}
use Rattle.rtree.specs.Packing.{Entry, around, comes_before, entry_at, in_order, present}
use Rattle.rtree.specs.Trees.{IsPacked, KeepPacking, entries_of, envelope_at, level_at, places_found, singles, unpacked}
use Rattle.rtree.proofs.PackingOrder.{Ascends, all-in_order, ascends-in_order, ascends-sorted, entry_order, number_order, numbers_apart, only-order, same_place, sum-in_order}

-- ---- the entries of a list

-- an entry is in its place
abbrev Applies : List (Option Envelope) → Entry → Type 0
Applies es e = slice_get es e.0 ≡ Some (Some e.1)

-- each entry taken from a place on is at its own place in the list
present-from : (es rest : List (Option Envelope)) (n : ℕ) → ((i : ℕ) → slice_get rest i ≡ slice_get es (n + i)) → AllByRecursion (Applies es) (filter_map entry_at (enumerate_from n rest))
present-from es [] n same = tt
present-from es (None ∷ rest) n same = present-from es rest (n + 1) (λ i. let m : n + suc i ≡ n + 1 + i = omega arith in same (suc i) ∙ ap (slice_get es) m)
present-from es (Some e ∷ rest) n same = (
  (let m : n + 0 ≡ n = omega arith in ap (slice_get es) (sym m) ∙ sym (same 0)),
  present-from es rest (n + 1) (λ i. let m : n + suc i ≡ n + 1 + i = omega arith in same (suc i) ∙ ap (slice_get es) m),
)

-- so each entry of the list does
all_apply : (es : List (Option Envelope)) → AllByRecursion (Applies es) (present es)
all_apply es = present-from es es 0 (λ i. let m : i ≡ 0 + i = omega arith in ap (slice_get es) m)

-- two entries of one list that are level have one place, so they are one
same_entry : (es : List (Option Envelope)) (a b : Entry) → Applies es a → Applies es b → comes_before a b ≡ false → comes_before b a ≡ false → a ≡ b
same_entry es a b p q h k =
    let place : a.0 ≡ b.0 = same_place a b h k in
    let both : Some (Some a.1) ≡ Some (Some b.1) = sym p ∙ ap (slice_get es) place ∙ q in
    let envelope : a.1 ≡ b.1 = cc in
    ap (λ n. (n, a.1)) place ∙ ap (λ e. (b.0, e)) envelope

-- entries that were put in order are the entries in order
pub ordered_is : (es : List (Option Envelope)) (ordered : List Entry) → IsPermutation (present es) ordered → IsSortedBy comes_before ordered → ordered ≡ in_order (present es)
ordered_is es ordered moved up =
    only-order comes_before entry_order (Applies es) (same_entry es) ordered (in_order (present es)) (ascends-sorted comes_before entry_order ordered up) (ascends-in_order (present es))
    (recursion_from_All (Applies es) ordered (All-permutation (Applies es) (present es) ordered moved (All-from_recursion (Applies es) (present es) (all_apply es))))
    (all-in_order (Applies es) (present es) (all_apply es))
    (λ f. sum_by-IsPermutation f (present es) ordered moved ∙ sym (sum-in_order f (present es)))

-- ---- what is found

-- the entries that overlap the envelope asked for have the places of the envelopes that meet it
found-present : (asked : Envelope) (ps : List (ℕ × Option Envelope)) → places_found asked (filter_map entry_at ps) ≡ map (λ p. p.0) (filter (placed_meets (Some asked)) ps)
found-present asked [] = refl
found-present asked ((n, None) ∷ ps) = found-present asked ps
found-present asked ((n, Some e) ∷ ps) = go (overlap e asked) (found-present asked ps)
  where
    go : (b : Bool) → places_found asked (filter_map entry_at ps) ≡ map (λ p. p.0) (filter (placed_meets (Some asked)) ps)
        → map (λ (p : Entry). p.0) (cond b ((n, e) ∷ filter (λ (p : Entry). overlap p.1 asked) (filter_map entry_at ps)) (filter (λ (p : Entry). overlap p.1 asked) (filter_map entry_at ps)))
        ≡ map (λ (p : ℕ × Option Envelope). p.0) (cond b ((n, Some e) ∷ filter (placed_meets (Some asked)) ps) (filter (placed_meets (Some asked)) ps))
    go true more = ap (λ l. n ∷ l) more
    go false more = more

-- counting what is found is counting the entries that overlap
sum-found : (asked : Envelope) (f : ℕ → ℕ) (es : List Entry) → sum_by f (places_found asked es) ≡ sum_by (λ e. cond (overlap e.1 asked) (f e.0) 0) es
sum-found asked f [] = refl
sum-found asked f (e ∷ es) = go (overlap e.1 asked) refl (sum-found asked f es)
  where
    part : Entry → ℕ
    part e = cond (overlap e.1 asked) (f e.0) 0

    go : (b : Bool) → overlap e.1 asked ≡ b → sum_by f (places_found asked es) ≡ sum_by part es
        → sum_by f (map (λ (p : Entry). p.0) (cond b (e ∷ filter (λ (p : Entry). overlap p.1 asked) es) (filter (λ (p : Entry). overlap p.1 asked) es))) ≡ sum_by part (e ∷ es)
    go true h more =
        let left = sum_by-cons f e.0 (places_found asked es) in
        let right = sum_by-cons part e es in
        let head : part e ≡ f e.0 = ap (λ b. cond b (f e.0) 0) h in
        omega (arith, left, right, head, more)
    go false h more =
        let right = sum_by-cons part e es in
        let head : part e ≡ 0 = ap (λ b. cond b (f e.0) 0) h in
        omega (arith, right, head, more)

-- places found from later on aren't less than an earlier one
above : (h : ℕ × Option Envelope → Bool) (n m : ℕ) (es : List (Option Envelope)) → n < m → AllByRecursion (λ k. is_lt (nat_cmp k n) ≡ false) (map (λ p. p.0) (filter h (enumerate_from m es)))
above h n m [] less = tt
above h n m (e ∷ es) less = go (h (m, e)) (above h n (m + 1) es (omega arith))
  where
    later : is_lt (nat_cmp m n) ≡ false
    later = number_order.one_way n m (grind arith)

    go : (b : Bool) → AllByRecursion (λ k. is_lt (nat_cmp k n) ≡ false) (map (λ (p : ℕ × Option Envelope). p.0) (filter h (enumerate_from (m + 1) es)))
        → AllByRecursion (λ k. is_lt (nat_cmp k n) ≡ false) (map (λ (p : ℕ × Option Envelope). p.0) (cond b ((m, e) ∷ filter h (enumerate_from (m + 1) es)) (filter h (enumerate_from (m + 1) es))))
    go true more = (later, more)
    go false more = more

-- so the places found ascend
ascends-found : (h : ℕ × Option Envelope → Bool) (n : ℕ) (es : List (Option Envelope)) → Ascends (λ (a b : ℕ). is_lt (nat_cmp a b)) (map (λ p. p.0) (filter h (enumerate_from n es)))
ascends-found h n [] = tt
ascends-found h n (e ∷ es) = go (h (n, e)) (ascends-found h (n + 1) es)
  where
    go : (b : Bool) → Ascends (λ (a b : ℕ). is_lt (nat_cmp a b)) (map (λ (p : ℕ × Option Envelope). p.0) (filter h (enumerate_from (n + 1) es)))
        → Ascends (λ (a b : ℕ). is_lt (nat_cmp a b)) (map (λ (p : ℕ × Option Envelope). p.0) (cond b ((n, e) ∷ filter h (enumerate_from (n + 1) es)) (filter h (enumerate_from (n + 1) es))))
    go true more = (above h n (n + 1) es (omega arith), more)
    go false more = more

all_numbers : (ns : List ℕ) → AllByRecursion (λ n. Unit {0}) ns
all_numbers [] = tt
all_numbers (n ∷ ns) = (tt, all_numbers ns)

-- the positions found among the entries in any order, once they ascend, are those that meet
pub found_is : (es : List (Option Envelope)) (entries : List Entry) (asked : Envelope) (found : List ℕ) → IsPermutation (present es) entries
    → IsPermutation (places_found asked entries) found → IsSortedBy (λ (a b : ℕ). is_lt (nat_cmp a b)) found → found ≡ meeting_places es (Some asked)
found_is es entries asked found same moved up =
    only-order (λ (a b : ℕ). is_lt (nat_cmp a b)) number_order (λ n. Unit {0}) (λ a b p q h k. numbers_apart a b h k) found (meeting_places es (Some asked))
    (ascends-sorted (λ (a b : ℕ). is_lt (nat_cmp a b)) number_order found up) (ascends-found (placed_meets (Some asked)) 0 es) (all_numbers found) (all_numbers (meeting_places es (Some asked)))
    (λ f. sum_by-IsPermutation f (places_found asked entries) found moved ∙ sum-found asked f entries
    ∙ sum_by-IsPermutation (λ e. cond (overlap e.1 asked) (f e.0) 0) (present es) entries same ∙ sym (sum-found asked f (present es))
    ∙ ap (sum_by f) (found-present asked (enumerate_from 0 es)))

-- ---- the list that is kept

-- an element that is there, by its position
from_get : (es : List (Option Envelope)) (i : ℕ) (x : Envelope) → slice_get es i ≡ Some (Some x) → get_or es i None ≡ Some x
from_get [] i x h = cc
from_get (e ∷ es) zero x h = cc
from_get (e ∷ es) (suc i) x h = from_get es i x h

-- where each entry is in its place, the envelope of a position is the list's
envelope_is_there : (es : List (Option Envelope)) (zs : List Entry) (place : ℕ) (x : Envelope) → AllByRecursion (Applies es) zs → envelope_at zs place ≡ Some x
    → slice_get es place ≡ Some (Some x)
envelope_is_there es [] place x all h = cc
envelope_is_there es (z ∷ zs) place x all h = go (z.0 == place) refl h (envelope_is_there es zs place x all.1)
  where
    go : (b : Bool) → z.0 == place ≡ b → ◌≡◌ {A = Option Envelope} (cond b (Some z.1) (envelope_at zs place)) (Some x)
        → (envelope_at zs place ≡ Some x → slice_get es place ≡ Some (Some x)) → slice_get es place ≡ Some (Some x)
    go true same is more =
        let at = eqb-true z.0 place same in
        let whole : z.1 ≡ x = cc in
        ap (slice_get es) (sym at) ∙ all.0 ∙ ap (λ e. Some (Some e)) whole
    go false apart is more = more is

-- where a position has no envelope, no entry has this position
none_there : (zs : List Entry) (place : ℕ) → envelope_at zs place ≡ None → AllByRecursion (λ z. z.0 == place ≡ false) zs
none_there [] place h = tt
none_there (z ∷ zs) place h = go (z.0 == place) refl h (none_there zs place)
  where
    go : (b : Bool) → z.0 == place ≡ b → ◌≡◌ {A = Option Envelope} (cond b (Some z.1) (envelope_at zs place)) None
        → (envelope_at zs place ≡ None → AllByRecursion (λ (w : Entry). w.0 == place ≡ false) zs) → AllByRecursion (λ (w : Entry). w.0 == place ≡ false) (z ∷ zs)
    go true same is more = cc
    go false apart is more = (apart, more is)

-- and the other way round
there_none : (zs : List Entry) (place : ℕ) → AllByRecursion (λ z. z.0 == place ≡ false) zs → envelope_at zs place ≡ None
there_none [] place all = refl
there_none (z ∷ zs) place all = ap (λ b. cond b (Some z.1) (envelope_at zs place)) all.0 ∙ there_none zs place all.1

-- no envelope comes before the first
none_before : (n place : ℕ) (es : List (Option Envelope)) → place < n → envelope_at (filter_map entry_at (enumerate_from n es)) place ≡ None
none_before n place [] less = refl
none_before n place (None ∷ es) less = none_before (n + 1) place es (omega arith)
none_before n place (Some e ∷ es) less = ap (λ b. cond b (Some e) (envelope_at (filter_map entry_at (enumerate_from (n + 1) es)) place)) apart ∙ none_before (n + 1) place es (omega arith)
  where
    apart : n == place ≡ false
    apart = grind (arith, less)

-- the entries of a list have at each position the list's envelope
envelope-present : (n : ℕ) (es : List (Option Envelope)) (i place : ℕ) → n + i ≡ place → i < length es → envelope_at (filter_map entry_at (enumerate_from n es)) place ≡ get_or es i None
envelope-present n [] i place at within = absurd (omega arith)
envelope-present n (None ∷ es) zero place at within = none_before (n + 1) place es (omega arith)
envelope-present n (None ∷ es) (suc i) place at within = envelope-present (n + 1) es i place (omega arith) (omega arith)
envelope-present n (Some e ∷ es) zero place at within = ap (λ b. cond b (Some e) (envelope_at (filter_map entry_at (enumerate_from (n + 1) es)) place)) here
  where
    here : n == place ≡ true
    here = let m : n ≡ place = omega arith in grind (arith, m)
envelope-present n (Some e ∷ es) (suc i) place at within =
    ap (λ b. cond b (Some e) (envelope_at (filter_map entry_at (enumerate_from (n + 1) es)) place)) apart ∙ envelope-present (n + 1) es i place (omega arith) (omega arith)
  where
    apart : n == place ≡ false
    apart = let m : n < place = omega arith in grind (arith, m)

-- so do these entries in any order
envelope_moved : (es : List (Option Envelope)) (entries : List Entry) (place : ℕ) → IsPermutation (present es) entries → place < length es
    → get_or es place None ≡ envelope_at entries place
envelope_moved es entries place moved within = go (envelope_at entries place) refl
  where
    go : (o : Option Envelope) → envelope_at entries place ≡ o → get_or es place None ≡ o
    go None h =
        let apart = All-permutation (λ z. z.0 == place ≡ false) entries (present es) (IsPermutation-sym (present es) entries moved)
        (All-from_recursion (λ z. z.0 == place ≡ false) entries (none_there entries place h)) in
        sym (envelope-present 0 es place place (omega arith) within) ∙ there_none (present es) place (recursion_from_All (λ z. z.0 == place ≡ false) (present es) apart)
    go (Some x) h =
        let all = recursion_from_All (Applies es) entries (All-permutation (Applies es) (present es) entries moved (All-from_recursion (Applies es) (present es) (all_apply es))) in
        from_get es place x (envelope_is_there es entries place x all h)

-- each position is that of an absent envelope or of one that is there
both_counted : (n : ℕ) (es : List (Option Envelope))
    → length (map (λ p. p.0) (filter (placed_meets None) (enumerate_from n es))) + length (filter_map entry_at (enumerate_from n es)) ≡ length es
both_counted n [] = refl
both_counted n (None ∷ es) = let more = both_counted (n + 1) es in omega (arith, more)
both_counted n (Some e ∷ es) = let more = both_counted (n + 1) es in omega (arith, more)

zipped : (es : List Entry) → zip (map (λ e. e.0) es) (map (λ e. e.1) es) ≡ es
zipped [] = refl
zipped (e ∷ es) = ap (λ l. e ∷ l) (zipped es)

-- the lowest level keeps the envelopes of the entries
pub lowest_is : (entries : List Entry) (levels : List (List Envelope)) → KeepPacking entries levels → level_at levels 0 ≡ map (λ e. e.1) entries
lowest_is entries [] h = cc
lowest_is entries (level ∷ levels) h = let first : map Some level ≡ map around (singles entries) = cc in each entries level first
  where
    each : (es : List Entry) (l : List Envelope) → map Some l ≡ map around (singles es) → l ≡ map (λ e. e.1) es
    each [] [] h = refl
    each [] (x ∷ l) h = cc
    each (e ∷ es) [] h = cc
    each (e ∷ es) (x ∷ l) h =
        let head : x ≡ e.1 = cc in
        let rest : map Some l ≡ map around (singles es) = cc in
        ap (λ z. z ∷ l) head ∙ ap (λ z. e.1 ∷ z) (each es l rest)

-- two lists that keep entries are them, side by side
pub entries_are : (places : List ℕ) (levels : List (List Envelope)) (entries : List Entry) → places ≡ map (λ e. e.0) entries → KeepPacking entries levels
    → entries_of places levels ≡ entries
entries_are places levels entries others packing =
    ap (λ l. zip places l) (lowest_is entries levels packing) ∙ ap (λ l. zip l (map (λ e. e.1) entries)) others ∙ zipped entries

-- the list that a tree stands for is the one that it was packed from
pub unpacked_is : (absent places : List ℕ) (levels : List (List Envelope)) (es : List (Option Envelope)) → IsPacked absent places levels es → unpacked absent places levels ≡ es
unpacked_is absent places levels es p =
    let entries = entries_of places levels in
    let count : length absent + length places ≡ length es =
    let a = ap length p.absent_places in
    let b = ap length p.paired ∙ length-map entries (λ e. e.0) in
    let c = length_permutation (present es) entries p.moved in
    let both = both_counted 0 es in
    omega (arith, a, b, c, both) in
    ap (λ n. map (envelope_at entries) (range_with_len 0 n)) count
    ∙ sym (fill_by_all (envelope_at entries) es (length es) None refl (λ k within. envelope_moved es entries k p.moved within))

-- what was packed from a list keeps it
pub is_packed : (absent places : List ℕ) (levels : List (List Envelope)) (entries : List Entry) (es : List (Option Envelope)) → absent ≡ meeting_places es None
    → IsPermutation (present es) entries → places ≡ map (λ e. e.0) entries → KeepPacking entries levels → IsPacked absent places levels es
is_packed absent places levels entries es none moved others packing =
    let are = sym (entries_are places levels entries others packing) in
    record {
      absent_places = none;
      moved = subst (IsPermutation (present es)) are moved;
      paired = others ∙ ap (map (λ e. e.0)) are;
      packing = subst (λ l. KeepPacking l levels) are packing;
    }
