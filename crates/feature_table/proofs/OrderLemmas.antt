-- The rows by ascending key are the only order of them in which the keys don't fall.
use Rattle.std.proofs.Common.{◌≡◌, ◌∙◌, ◌⊎◌, ⊎_elim, ◌+◌, ◌<◌, ◌≤◌, ℕ, ℤ, zero, suc, Bool, true, false, List, [], ◌∷◌, Option, Some, None, ap, ap₂, subst, arith, cond, get_or, inl, inr, length, map, refl, sym, Contains}
use Rattle.std.specs.Prelude.{IsPermutation, IsSortedBy, IsSortedByKey, int_lt}
use Rattle.std.proofs.lemmas.Bool.{false≢true}
use Rattle.std.proofs.lemmas.Cmp.{int_cmp_total, int_eq_equiv}
use Rattle.std.proofs.lemmas.List.{get_or-map, length-map}
use Rattle.std.proofs.lemmas.List.Elements.{All-map}
use Rattle.std.proofs.lemmas.List.Sorted.{All-permutation, Contains-permutation, IsPermutation-map, IsPermutation-sym, ranks_by, sorted_far, sum_by-IsPermutation}
use Rattle.std.proofs.lemmas.List.Sums.{sum_by-cons}
use Rattle.std.proofs.lemmas.Map.Steps.{list_any_congr}
use Rattle.std.specs.List.{All, count_by, list_any}
use Rattle.std.specs.Ordering.{int_cmp, int_eq, is_eq, is_lt}
use Rattle.std.specs.declared.cmp.Ordering.{Ordering}
use Rattle.std.specs.declared.cmp.Ordering.TheVariants as o
use Rattle.table_model.specs.Loading.{by_key, double_from, double_key, insert_by_key, key_of}
use Rattle.table_model.specs.Meanings.{Row}

-- a count of one element more
pub count-cons : {X : Type 0} (p : X → Bool) (x : X) (xs : List X) → count_by p (x ∷ xs) ≡ cond (p x) 1 0 + count_by p xs
count-cons p x xs = sum_by-cons (λ y. cond (p y) 1 0) x xs

-- the order of whole numbers, as a test
pub less-order : (a b : ℤ) → int_lt a b ≡ true → int_cmp a b ≡ o.Less
less-order a b e = rw e refl

order-less : (a b : ℤ) → int_cmp a b ≡ o.Less → int_lt a b ≡ true
order-less a b e = go (int_lt a b) (int_lt b a) e
  where
    go : (p q : Bool) → ◌≡◌ {A = Ordering} (cond p o.Less (cond q o.Greater o.Equal)) o.Less → p ≡ true
    go true q h = refl
    go false true h = cc h
    go false false h = cc h

test-less : (a b : ℤ) → is_lt (int_cmp a b) ≡ false → int_lt a b ≡ false
test-less a b e = go (int_lt a b) (int_lt b a) e
  where
    go : (p q : Bool) → is_lt (cond p o.Less (cond q o.Greater o.Equal)) ≡ false → p ≡ false
    go true q h = absurd (false≢true (sym h))
    go false q h = refl

else-greater : (a b : ℤ) → int_lt a b ≡ false → int_eq a b ≡ false → int_lt b a ≡ true
else-greater a b e h = go (int_lt a b) (int_lt b a) e h
  where
    go : (p q : Bool) → p ≡ false → is_eq (cond p o.Less (cond q o.Greater o.Equal)) ≡ false → q ≡ true
    go true q e h = absurd (false≢true (sym e))
    go false true e h = refl
    go false false e h = absurd (false≢true (sym h))

pub one-way : (a b : ℤ) → int_lt a b ≡ true → int_lt b a ≡ true → ⊥
one-way a b p q =
    let first = less-order a b p in
    let second = less-order b a q in
    let back = int_cmp_total.antisymm a b in
    cc (first, rw second at back)

-- a number below one that is below a third is below the third
chain : (a b c : ℤ) → int_lt a b ≡ true → int_lt b c ≡ true → int_lt a c ≡ true
chain a b c p q = order-less a c (int_cmp_total.trans a b c (less-order a b p) (less-order b c q))

-- an element of a list
abbrev IsIn : {X : Type 0} → List X → X → Type 0
IsIn [] r = ⊥
IsIn (x ∷ xs) r = (x ≡ r) ⊎ IsIn xs r

-- an element that is at a place is in the list
in-at : {X : Type 0} (xs : List X) (k : ℕ) (r : X) → k < length xs → get_or xs k r ≡ r → IsIn xs r
in-at [] k r within e = absurd (omega arith)
in-at (x ∷ xs) zero r within e = inl e
in-at (x ∷ xs) (suc k) r within e = inr (in-at xs k r (omega arith) e)

at-in : {X : Type 0} (xs : List X) (r : X) → IsIn xs r → Contains xs r
at-in [] r h = absurd h
at-in {X = X} (x ∷ xs) r h = go (at-in xs r) h
  where
    go : (IsIn xs r → Contains xs r) → (x ≡ r) ⊎ IsIn xs r → Contains (x ∷ xs) r
    go more h = ⊎_elim (λ (e : x ≡ r). (0, omega arith, e)) (λ (i : IsIn xs r). let c = more i in (suc c.0, omega (arith, c.1), c.2)) h

-- the rows ascend
abbrev Ascends : {G : Type 0} → ℕ → List (Row G) → Type 0
Ascends key [] = Unit {0}
Ascends {G} key (row ∷ rows) = ((r : Row G) → IsIn rows r → int_lt (key_of key row) (key_of key r) ≡ true) × Ascends key rows

-- one order alone
only_one : {G : Type 0} (key : ℕ) (xs ys : List (Row G)) → Ascends key xs → Ascends key ys → ((r : Row G) → IsIn xs r → IsIn ys r)
    → ((r : Row G) → IsIn ys r → IsIn xs r) → xs ≡ ys
only_one key [] [] a b f g = refl
only_one key [] (y ∷ ys) a b f g = absurd (g y (inl refl))
only_one key (x ∷ xs) [] a b f g = absurd (f x (inl refl))
only_one {G = G} key (x ∷ xs) (y ∷ ys) a b f g =
    let same : x ≡ y =
    ⊎_elim (λ (e : y ≡ x). sym e)
    (λ (i : IsIn ys x). ⊎_elim (λ (e : x ≡ y). e) (λ (j : IsIn xs y). absurd (one-way (key_of key y) (key_of key x) (b.0 x i) (a.0 y j))) (g y (inl refl)))
    (f x (inl refl)) in
    let left : (r : Row G) → IsIn xs r → IsIn ys r = λ r i.
    ⊎_elim (λ (e : y ≡ r). let up : int_lt (key_of key x) (key_of key x) ≡ true = ap (λ (z : Row G). int_lt (key_of key x) (key_of key z)) (same ∙ e) ∙ a.0 r i in
    absurd (one-way (key_of key x) (key_of key x) up up)) (λ (j : IsIn ys r). j) (f r (inr i)) in
    let right : (r : Row G) → IsIn ys r → IsIn xs r = λ r i.
    ⊎_elim (λ (e : x ≡ r). let up : int_lt (key_of key y) (key_of key y) ≡ true = ap (λ (z : Row G). int_lt (key_of key y) (key_of key z)) (sym same ∙ e) ∙ b.0 r i in
    absurd (one-way (key_of key y) (key_of key y) up up)) (λ (j : IsIn xs r). j) (g r (inr i)) in
    ap (λ (z : Row G). z ∷ xs) same ∙ ap (λ (zs : List (Row G)). y ∷ zs) (only_one key xs ys a.1 b.1 left right)

-- each key comes once at most
abbrev Once : {G : Type 0} → ℕ → List (Row G) → Type 0
Once key rows = (k : ℤ) → count_by (λ r. int_eq k (key_of key r)) rows ≤ 1

-- an element that passes is counted
some-counted : {X : Type 0} (p : X → Bool) (xs : List X) (r : X) → IsIn xs r → p r ≡ true → 1 ≤ count_by p xs
some-counted p [] r h is = absurd h
some-counted {X = X} p (x ∷ xs) r h is = rw (count-cons p x xs) (go (some-counted p xs r) h)
  where
    go : (IsIn xs r → p r ≡ true → 1 ≤ count_by p xs) → (x ≡ r) ⊎ IsIn xs r → 1 ≤ cond (p x) 1 0 + count_by p xs
    go more h = ⊎_elim (λ (e : x ≡ r). let yes : p x ≡ true = ap p e ∙ is in rw yes (omega arith)) (λ (i : IsIn xs r). let m = more i is in omega (arith, m)) h

-- where each key comes once at most no later row has the first one's key
once-apart : {G : Type 0} (key : ℕ) (x : Row G) (xs : List (Row G)) → Once key (x ∷ xs) → (r : Row G) → IsIn xs r → int_eq (key_of key x) (key_of key r) ≡ false
once-apart {G = G} key x xs once r i = go (int_eq (key_of key x) (key_of key r)) refl
  where
    go : (b : Bool) → int_eq (key_of key x) (key_of key r) ≡ b → b ≡ false
    go true e =
        let p = λ (z : Row G). int_eq (key_of key x) (key_of key z) in
        let more = some-counted p xs r i e in
        let first : p x ≡ true = int_eq_equiv.refl (key_of key x) in
        let whole = rw (count-cons p x xs, first) at (once (key_of key x)) in
        absurd (omega (arith, more, whole))
    go false e = refl

-- and each key comes once at most among the later rows
once-tail : {G : Type 0} (key : ℕ) (x : Row G) (xs : List (Row G)) → Once key (x ∷ xs) → Once key xs
once-tail {G = G} key x xs once k =
    let p = λ (z : Row G). int_eq k (key_of key z) in
    let whole = rw (count-cons p x xs) at (once k) in
    omega (arith, whole)

-- the insertion of a row
in-insert : {G : Type 0} (key : ℕ) (x : Row G) (zs : List (Row G)) (r : Row G) → IsIn (insert_by_key key x zs) r → (x ≡ r) ⊎ IsIn zs r
in-insert key x [] r h = h
in-insert {G = G} key x (z ∷ zs) r h = go (int_lt (key_of key x) (key_of key z)) h (in-insert key x zs r)
  where
    go : (b : Bool) → IsIn (cond b (x ∷ z ∷ zs) (z ∷ insert_by_key key x zs)) r → (IsIn (insert_by_key key x zs) r → (x ≡ r) ⊎ IsIn zs r)
        → (x ≡ r) ⊎ IsIn (z ∷ zs) r
    go true i more = i
    go false i more =
        ⊎_elim (λ (e : z ≡ r). inr (inl e)) (λ (j : IsIn (insert_by_key key x zs) r). ⊎_elim (λ (e : x ≡ r). inl e) (λ (t : IsIn zs r). inr (inr t)) (more j)) i

-- a row that is put in its place, and all others, are there
insert-in : {G : Type 0} (key : ℕ) (x : Row G) (zs : List (Row G)) (r : Row G) → (x ≡ r) ⊎ IsIn zs r → IsIn (insert_by_key key x zs) r
insert-in key x [] r h = h
insert-in {G = G} key x (z ∷ zs) r h = go (int_lt (key_of key x) (key_of key z)) h (insert-in key x zs r)
  where
    go : (b : Bool) → (x ≡ r) ⊎ IsIn (z ∷ zs) r → ((x ≡ r) ⊎ IsIn zs r → IsIn (insert_by_key key x zs) r)
        → IsIn (cond b (x ∷ z ∷ zs) (z ∷ insert_by_key key x zs)) r
    go true i more = i
    go false i more =
        ⊎_elim (λ (e : x ≡ r). inr (more (inl e))) (λ (j : IsIn (z ∷ zs) r). ⊎_elim (λ (e : z ≡ r). inl e) (λ (t : IsIn zs r). inr (more (inr t))) j) i

-- a row of another key than all, put in its place, leaves the keys ascending
ascends-insert : {G : Type 0} (key : ℕ) (x : Row G) (zs : List (Row G)) → Ascends key zs
    → ((r : Row G) → IsIn zs r → int_eq (key_of key x) (key_of key r) ≡ false) → Ascends key (insert_by_key key x zs)
ascends-insert key x [] a apart = ((λ r i. absurd i), tt)
ascends-insert {G = G} key x (z ∷ zs) a apart =
    go (int_lt (key_of key x) (key_of key z)) refl (ascends-insert key x zs a.1 (λ r i. apart r (inr i)))
  where
    go : (b : Bool) → int_lt (key_of key x) (key_of key z) ≡ b → Ascends key (insert_by_key key x zs)
        → Ascends key (cond b (x ∷ z ∷ zs) (z ∷ insert_by_key key x zs))
    go true e more = (
      (λ r i. ⊎_elim (λ (q : z ≡ r). ap (λ (w : Row G). int_lt (key_of key x) (key_of key w)) (sym q) ∙ e)
          (λ (j : IsIn zs r). chain (key_of key x) (key_of key z) (key_of key r) e (a.0 r j)) i),
      a,
    )
    go false e more = (
      (λ r i. ⊎_elim
          (λ (q : x ≡ r). ap (λ (w : Row G). int_lt (key_of key z) (key_of key w)) (sym q) ∙ else-greater (key_of key x) (key_of key z) e (apart z (inl refl)))
          (λ (j : IsIn zs r). a.0 r j) (in-insert key x zs r i)),
      more,
    )

-- the rows by key
in-by_key : {G : Type 0} (key : ℕ) (xs : List (Row G)) (r : Row G) → IsIn (by_key key xs) r → IsIn xs r
unfolding by_key
in-by_key key [] r h = h
in-by_key {G = G} key (x ∷ xs) r h =
    ⊎_elim (λ (e : x ≡ r). inl e) (λ (i : IsIn (by_key key xs) r). inr (in-by_key key xs r i)) (in-insert key x (by_key key xs) r h)

-- each row is among the rows by key
by_key-in : {G : Type 0} (key : ℕ) (xs : List (Row G)) (r : Row G) → IsIn xs r → IsIn (by_key key xs) r
unfolding by_key
by_key-in key [] r h = h
by_key-in {G = G} key (x ∷ xs) r h =
    insert-in key x (by_key key xs) r (⊎_elim (λ (e : x ≡ r). inl e) (λ (i : IsIn xs r). inr (by_key-in key xs r i)) h)

-- rows of different keys ascend when they are put in order
ascends-by_key : {G : Type 0} (key : ℕ) (xs : List (Row G)) → Once key xs → Ascends key (by_key key xs)
unfolding by_key
ascends-by_key key [] once = tt
ascends-by_key key (x ∷ xs) once =
    ascends-insert key x (by_key key xs) (ascends-by_key key xs (once-tail key x xs once)) (λ r i. once-apart key x xs once r (in-by_key key xs r i))

-- a sorted list
sorted-tail : {X : Type 0} (lt : X → X → Bool) (y : X) (ys : List X) → IsSortedBy lt (y ∷ ys) → IsSortedBy lt ys
sorted-tail lt y ys up k d low high = let n : suc k + 1 ≡ suc (k + 1) = omega arith in rw n at (up (suc k) d (omega arith) (omega arith))

-- a sorted list of rows of different keys ascends: no two neighbours have one key
ascends-sorted : {G : Type 0} (key : ℕ) (ys : List (Row G)) → IsSortedByKey (key_of key) int_cmp ys → Once key ys → Ascends key ys
ascends-sorted key [] up once = tt
ascends-sorted {G = G} key (y ∷ ys) up once =
    let lt = λ (a b : Row G). is_lt (int_cmp (key_of key a) (key_of key b)) in (
      (λ r i.
          let c = at-in ys r i in
          let far = sorted_far lt (ranks_by int_cmp_total (key_of key)) (y ∷ ys) up 0 (suc c.0) r (omega arith) (omega (arith, c.1)) in
          let here : is_lt (int_cmp (key_of key r) (key_of key y)) ≡ false = ap (λ (z : Row G). is_lt (int_cmp (key_of key z) (key_of key y))) (sym c.2) ∙ far in
          let apart : int_eq (key_of key r) (key_of key y) ≡ false = int_eq_equiv.symm (key_of key r) (key_of key y) ∙ once-apart key y ys once r i in
          else-greater (key_of key r) (key_of key y) (test-less (key_of key r) (key_of key y) here) apart),
      ascends-sorted key ys (sorted-tail lt y ys up) (once-tail key y ys once),
    )

-- no key comes twice
absent : (k : ℤ) (earlier : List ℤ) (n : ℕ) (keys : List ℤ) → double_from earlier n keys ≡ None → list_any (int_eq k) earlier ≡ true → count_by (int_eq k) keys ≡ 0
absent k earlier n [] e h = refl
absent k earlier n (q ∷ qs) e h = go (list_any (int_eq q) earlier) refl e (int_eq k q) refl (absent k (q ∷ earlier) (n + 1) qs)
  where
    go : (b : Bool) → list_any (int_eq q) earlier ≡ b → ◌≡◌ {A = Option ℕ} (cond b (Some n) (double_from (q ∷ earlier) (n + 1) qs)) None → (d : Bool) → int_eq k q ≡ d
        → (double_from (q ∷ earlier) (n + 1) qs ≡ None → list_any (int_eq k) (q ∷ earlier) ≡ true → count_by (int_eq k) qs ≡ 0)
        → count_by (int_eq k) (q ∷ qs) ≡ 0
    go true is e d same more = cc e
    go false is e true same more = absurd (false≢true (sym is ∙ sym (list_any_congr int_eq_equiv k q earlier same) ∙ h))
    go false is e false same more =
        let had : list_any (int_eq k) (q ∷ earlier) ≡ true = rw same h in
        let rest = more e had in
        rw (count-cons (int_eq k) q qs, same) (omega (arith, rest))

-- where no key is found to repeat one each comes once at most
once-keys : (k : ℤ) (earlier : List ℤ) (n : ℕ) (keys : List ℤ) → double_from earlier n keys ≡ None → count_by (int_eq k) keys ≤ 1
once-keys k earlier n [] e = omega arith
once-keys k earlier n (q ∷ qs) e = go (list_any (int_eq q) earlier) e (int_eq k q) refl (once-keys k (q ∷ earlier) (n + 1) qs)
  where
    go : (b : Bool) → ◌≡◌ {A = Option ℕ} (cond b (Some n) (double_from (q ∷ earlier) (n + 1) qs)) None → (d : Bool) → int_eq k q ≡ d
        → (double_from (q ∷ earlier) (n + 1) qs ≡ None → count_by (int_eq k) qs ≤ 1) → count_by (int_eq k) (q ∷ qs) ≤ 1
    go true e d same more = cc e
    go false e true same more =
        let had : list_any (int_eq k) (q ∷ earlier) ≡ true = rw same refl in
        let rest = absent k (q ∷ earlier) (n + 1) qs e had in
        rw (count-cons (int_eq k) q qs, same) (omega (arith, rest))
    go false e false same more =
        let rest = more e in
        rw (count-cons (int_eq k) q qs, same) (omega (arith, rest))

count-map : {X Y : Type 0} (p : Y → Bool) (f : X → Y) (xs : List X) → count_by p (map f xs) ≡ count_by (λ x. p (f x)) xs
count-map p f [] = refl
count-map {X = X} p f (x ∷ xs) =
    count-cons p (f x) (map f xs) ∙ ap (λ (n : ℕ). cond (p (f x)) 1 0 + n) (count-map p f xs) ∙ sym (count-cons (λ (z : X). p (f z)) x xs)

-- a sorted list of rows of different keys is the rows by key
pub the_order : {G : Type 0} (key : ℕ) (xs ys : List (Row G)) → double_key (map (key_of key) xs) ≡ None → IsPermutation xs ys
    → IsSortedByKey (key_of key) int_cmp ys → by_key key xs ≡ ys
unfolding double_key
the_order {G = G} key xs ys none moved up =
    let once : Once key xs = λ k. let n = once-keys k [] 1 (map (key_of key) xs) none in let same = count-map (int_eq k) (key_of key) xs in omega (arith, n, same) in
    let once-sorted : Once key ys = λ k. let same = sum_by-IsPermutation (λ (r : Row G). cond (int_eq k (key_of key r)) 1 0) xs ys moved in let n = once k in omega (arith, n, same) in
    only_one key (by_key key xs) ys (ascends-by_key key xs once) (ascends-sorted key ys up once-sorted)
    (λ r i. let c = Contains-permutation xs ys r moved (at-in xs r (in-by_key key xs r i)) in in-at ys c.0 r c.1 c.2)
    (λ r i. let c = Contains-permutation ys xs r (IsPermutation-sym xs ys moved) (at-in ys r i) in by_key-in key xs r (in-at xs c.0 r c.1 c.2))

-- where a thing is beside its key
abbrev Says : {Y K : Type 0} → (K → ℤ) → (Y → ℤ) → (K → Y) → K → Type 0
Says number key thing k = number k ≡ key (thing k)

-- things that were put beside their keys are the things again when the keys are left out
things-of-made : {Y K : Type 0} (thing : K → Y) (make : Y → K) → ((y : Y) → thing (make y) ≡ y) → (ys : List Y) → map thing (map make ys) ≡ ys
things-of-made thing make back [] = refl
things-of-made thing make back (y ∷ ys) = rw (back y, things-of-made thing make back ys) refl

-- things that are beside their keys, sorted by those, are sorted by key
sorted-things : {Y K : Type 0} (number : K → ℤ) (key : Y → ℤ) (thing : K → Y) (make : Y → K) (ks : List K) → All (Says number key thing) ks
    → IsSortedByKey number int_cmp ks → IsSortedByKey key int_cmp (map thing ks)
sorted-things {Y = Y} number key thing make ks says up k d low high =
    let size : length (map thing ks) ≡ length ks = simp length-map in
    let later : k + 1 < length ks = omega (arith, high, size) in
    let here : k < length ks = omega (arith, later) in
    let key-here = ap key (get_or-map thing ks k (make d) d here) ∙ sym (says k (make d) here) in
    let key-later = ap key (get_or-map thing ks (k + 1) (make d) d later) ∙ sym (says (k + 1) (make d) later) in
    ap₂ (λ (a b : ℤ). is_lt (int_cmp a b)) key-later key-here ∙ up k (make d) low later

-- the things of a list of things beside their keys, which is sorted by those, are the same things in another order, sorted by key
pub things_moved : {Y K : Type 0} (thing : K → Y) (make : Y → K) (ys : List Y) (ks : List K) → ((y : Y) → thing (make y) ≡ y)
    → IsPermutation (map make ys) ks → IsPermutation ys (map thing ks)
things_moved thing make ys ks back moved =
    subst (λ l. IsPermutation l (map thing ks)) (things-of-made thing make back ys) (IsPermutation-map thing (map make ys) ks moved)

pub things_sorted : {Y K : Type 0} (number : K → ℤ) (key : Y → ℤ) (thing : K → Y) (make : Y → K) (ys : List Y) (ks : List K)
    → ((y : Y) → thing (make y) ≡ y) → ((y : Y) → number (make y) ≡ key y) → IsPermutation (map make ys) ks → IsSortedByKey number int_cmp ks
    → IsSortedByKey key int_cmp (map thing ks)
things_sorted number key thing make ys ks back said moved up =
    let says : All (Says number key thing) (map make ys) =
    All-map (Says number key thing) make ys (λ j d h. said (get_or ys j d) ∙ ap key (sym (back (get_or ys j d)))) in
    sorted-things number key thing make ks (All-permutation (Says number key thing) (map make ys) ks moved says) up
