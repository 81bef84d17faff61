-- Each conjunct is once among the filters.
use Rattle.std.specs.Prelude.{◌≡◌, refl, ℕ, suc, zero, ◌+◌, ◌<◌, ◌≤◌, ◌≢◌, ◌⊎◌, Bool, true, false, cond, if◌then◌else◌, ◌==◌, List, [], ◌∷◌, length, get_or, sum_by, count_by, flat_map, filter_map, Some, None}
use Rattle.std.specs.List.{enumerate_from, range_with_len, cons_option}
use Rattle.std.proofs.Common.{arith, ap, ◌∙◌, sym, inl, inr, zero-add, eq-eqb}
use mathlib.Core.Path.{fun_ext}
use Rattle.std.proofs.lemmas.Bool.{ltb-true, ltb-false}
use Rattle.std.proofs.lemmas.List.Sums.{sum_by-cons, sum_by-append, get_or-le-sum_by}
use Rattle.std.specs.Prelude.{nat_lt}
use Rattle.table_model.specs.Plans.{places_where, filters, possible_counts, predicate_count}
use Rattle.table_model.specs.declared.conditions.Cond.{Cond}

-- the places of the elements that pass a test, of which the first has this place
abbrev places_from : {X : Type 0} → ℕ → (X → Bool) → List X → List ℕ
places_from m test xs = filter_map (λ x. if test x.1 then Some x.0 else None) (enumerate_from m xs)

-- how often a place is in a list
abbrev times : ℕ → List ℕ → ℕ
times k ks = count_by (λ j. j == k) ks

times-cons : (k j : ℕ) (ks : List ℕ) → times k (j ∷ ks) ≡ (if j == k then 1 else 0) + times k ks
times-cons k j ks = sum_by-cons (λ i. cond (i == k) 1 0) j ks

differ : (j k : ℕ) → j ≢ k → (j == k) ≡ false
differ j k h = grind arith

equal_or_less : (a c : ℕ) → a ≤ c → (c ≡ a) ⊎ (a < c)
equal_or_less a c l = grind arith

next : (m k : ℕ) → m + suc k ≡ m + 1 + k
next m k = omega arith

-- what a first place adds
counted : (k j : ℕ) (ks : List ℕ) (n : ℕ) → (j == k) ≡ true → times k ks ≡ n → times k (j ∷ ks) ≡ 1 + n
counted k j ks n e h = times-cons k j ks ∙ ap (λ b. (if b then 1 else 0) + times k ks) e ∙ ap (λ t. 1 + t) h

-- a first place that is another one adds nothing
passed : (k j : ℕ) (ks : List ℕ) (n : ℕ) → (j == k) ≡ false → times k ks ≡ n → times k (j ∷ ks) ≡ n
passed k j ks n e h = times-cons k j ks ∙ ap (λ b. (if b then 1 else 0) + times k ks) e ∙ zero-add (times k ks) ∙ h

-- a place before all of them is nowhere
none_before : {X : Type 0} (test : X → Bool) (xs : List X) (m k : ℕ) → k < m → times k (places_from m test xs) ≡ 0
none_before test [] m k l = refl
none_before test (x ∷ xs) m k l = go (test x) (none_before test xs (m + 1) k (omega (arith, l)))
  where
    go : (b : Bool) → times k (places_from (m + 1) test xs) ≡ 0 → times k (cons_option (if b then Some m else None) (places_from (m + 1) test xs)) ≡ 0
    go true rest = passed k m (places_from (m + 1) test xs) 0 (differ m k (omega (arith, l))) rest
    go false rest = rest

-- the place of an element is once where the test passes it, else nowhere
once : {X : Type 0} (test : X → Bool) (xs : List X) (m k : ℕ) (d : X) → k < length xs → times (m + k) (places_from m test xs) ≡ (if test (get_or xs k d) then 1 else 0)
once test [] m k d l = absurd (omega (arith, l))
once test (x ∷ xs) m zero d l = go (test x) (none_before test xs (m + 1) (m + 0) (omega arith))
  where
    go : (b : Bool) → times (m + 0) (places_from (m + 1) test xs) ≡ 0 → times (m + 0) (cons_option (if b then Some m else None) (places_from (m + 1) test xs)) ≡ (if b then 1 else 0)
    go true rest = counted (m + 0) m (places_from (m + 1) test xs) 0 (eq-eqb m (m + 0) (omega arith)) rest
    go false rest = rest
once test (x ∷ xs) m (suc k) d l = go (test x) (if test (get_or xs k d) then 1 else 0) (ap (λ j. times j (places_from (m + 1) test xs)) (next m k) ∙ once test xs (m + 1) k d (omega (arith, l)))
  where
    go : (b : Bool) (n : ℕ) → times (m + suc k) (places_from (m + 1) test xs) ≡ n → times (m + suc k) (cons_option (if b then Some m else None) (places_from (m + 1) test xs)) ≡ n
    go true n rest = passed (m + suc k) m (places_from (m + 1) test xs) n (differ m (m + suc k) (omega arith)) rest
    go false n rest = rest

-- how often a place is in lists put together is the sum over them
times-flat_map : {X : Type 0} (k : ℕ) (g : X → List ℕ) (ns : List X) → times k (flat_map g ns) ≡ sum_by (λ n. times k (g n)) ns
times-flat_map k g [] = refl
times-flat_map k g (n ∷ ns) = sum_by-append (λ j. cond (j == k) 1 0) (g n) (flat_map g ns) ∙ ap (λ t. times k (g n) + t) (times-flat_map k g ns) ∙ sym (sum_by-cons (λ i. times k (g i)) n ns)

-- a number below a range isn't met in it
missed : (c a n : ℕ) → c < a → sum_by (λ i. if c == i then 1 else 0) (range_with_len a n) ≡ 0
missed c a zero l = refl
missed c a (suc n) l =
    sum_by-cons (λ i. if c == i then 1 else 0) a (range_with_len (a + 1) n)
    ∙ ap (λ b. (if b then 1 else 0) + sum_by (λ i. if c == i then 1 else 0) (range_with_len (a + 1) n)) (differ c a (omega (arith, l)))
    ∙ ap (λ t. 0 + t) (missed c (a + 1) n (omega (arith, l)))

-- a number within a range is met once
met : (c a n : ℕ) → a ≤ c → c < a + n → sum_by (λ i. if c == i then 1 else 0) (range_with_len a n) ≡ 1
met c a zero l m = absurd (omega (arith, l, m))
met c a (suc n) l m = go (equal_or_less a c l) (λ h. met c (a + 1) n h (omega (arith, m)))
  where
    go : (c ≡ a) ⊎ (a < c) → (a + 1 ≤ c → sum_by (λ i. if c == i then 1 else 0) (range_with_len (a + 1) n) ≡ 1) → sum_by (λ i. if c == i then 1 else 0) (range_with_len a (suc n)) ≡ 1
    go (inl e) h =
        sum_by-cons (λ i. if c == i then 1 else 0) a (range_with_len (a + 1) n)
        ∙ ap (λ b. (if b then 1 else 0) + sum_by (λ i. if c == i then 1 else 0) (range_with_len (a + 1) n)) (eq-eqb c a e)
        ∙ ap (λ t. 1 + t) (missed c (a + 1) n (omega (arith, e)))
    go (inr less) h =
        sum_by-cons (λ i. if c == i then 1 else 0) a (range_with_len (a + 1) n)
        ∙ ap (λ b. (if b then 1 else 0) + sum_by (λ i. if c == i then 1 else 0) (range_with_len (a + 1) n)) (differ c a (omega (arith, less)))
        ∙ ap (λ t. 0 + t) (h (omega (arith, less)))

-- each conjunct is once among the filters
filters_once : {A : Type 0} (conjuncts : List (Cond A)) (k : ℕ) → k < length conjuncts → times k (filters conjuncts) ≡ 1
filters_once [] k l = absurd (omega (arith, l))
filters_once {A = A} (c ∷ cs) k l =
    times-flat_map k (λ n. places_where (λ e. predicate_count e == n) (c ∷ cs)) (possible_counts (c ∷ cs))
    ∙ ap (λ f. sum_by f (possible_counts (c ∷ cs))) (fun_ext (λ n. ap (λ j. times j (places_where (λ e. predicate_count e == n) (c ∷ cs))) (sym (zero-add k)) ∙ once (λ e. predicate_count e == n) (c ∷ cs) 0 k c l))
    ∙ met (predicate_count (get_or (c ∷ cs) k c)) 0 (sum_by predicate_count (c ∷ cs) + 1) (omega arith) (omega (arith, get_or-le-sum_by predicate_count (c ∷ cs) k c l))

-- a place behind all of them is nowhere
none_behind : {X : Type 0} (test : X → Bool) (xs : List X) (m k : ℕ) → m + length xs ≤ k → times k (places_from m test xs) ≡ 0
none_behind test [] m k l = refl
none_behind test (x ∷ xs) m k l = go (test x) (none_behind test xs (m + 1) k (omega (arith, l)))
  where
    go : (b : Bool) → times k (places_from (m + 1) test xs) ≡ 0 → times k (cons_option (if b then Some m else None) (places_from (m + 1) test xs)) ≡ 0
    go true rest = passed k m (places_from (m + 1) test xs) 0 (differ m k (omega (arith, l))) rest
    go false rest = rest

zeros : (ns : List ℕ) → sum_by (λ n. 0) ns ≡ 0
zeros [] = refl
zeros (n ∷ ns) = sum_by-cons (λ n. 0) n ns ∙ zero-add (sum_by (λ n. 0) ns) ∙ zeros ns

-- a number past all conjuncts is nowhere among the filters
filters_none : {A : Type 0} (conjuncts : List (Cond A)) (k : ℕ) → length conjuncts ≤ k → times k (filters conjuncts) ≡ 0
filters_none {A = A} conjuncts k l =
    times-flat_map k (λ n. places_where (λ e. predicate_count e == n) conjuncts) (possible_counts conjuncts)
    ∙ ap (λ f. sum_by f (possible_counts conjuncts)) (fun_ext (λ n. none_behind (λ e. predicate_count e == n) conjuncts 0 k (omega (arith, l))))
    ∙ zeros (possible_counts conjuncts)

-- the place of each conjunct is once among the filters, and no other number does
pub filters_counted : {A : Type 0} (conjuncts : List (Cond A)) (k : ℕ) → times k (filters conjuncts) ≡ (if nat_lt k (length conjuncts) then 1 else 0)
filters_counted conjuncts k = go (nat_lt k (length conjuncts)) refl
  where
    go : (b : Bool) → nat_lt k (length conjuncts) ≡ b → times k (filters conjuncts) ≡ (if b then 1 else 0)
    go true is = filters_once conjuncts k (ltb-true k (length conjuncts) is)
    go false is = filters_none conjuncts k (ltb-false k (length conjuncts) is)
