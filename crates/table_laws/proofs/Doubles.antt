-- The first double key.
use Rattle.std.specs.Prelude.{◌≡◌, ◌≢◌, ◌+◌, ◌<◌, ◌||◌, ◌++◌, ℕ, ℤ, zero, suc, Bool, true, false, cond, List, [], ◌∷◌, Option, Some, None, length, refl, slice_index_or}
use Rattle.std.proofs.Common.{◌∙◌, ◌⊎◌, ap, arith, inl, inr, sym}
use Rattle.std.proofs.lemmas.Bool.{false≢true, or_parts}
use Rattle.std.specs.List.{Contains, list_any}
use Rattle.std.specs.Ordering.{int_eq}
use Rattle.basics.proofs.Tests.{equal_from, equal_no, equal_yes}
use Rattle.table_model.specs.Loading.{double_from, double_key}
use Rattle.table_laws.specs.KeyLaws.{DoubleIsFirst, IsFirstDouble, NoneIsDouble}
use Rattle.table_laws.proofs.TableLists.{Each, Pairs, all-pairs, each-weaker, pairs-all}
use Rattle.table_laws.proofs.Keys.{apart, differ}

-- a key is among some
abbrev Among : ℤ → List ℤ → Type 0
Among k [] = ⊥
Among k (x ∷ xs) = (k ≡ x) ⊎ Among k xs

-- the test finds each key that is among some
among-test : (k : ℤ) (xs : List ℤ) → Among k xs → list_any (int_eq k) xs ≡ true
among-test k [] h = absurd h
among-test k (x ∷ xs) (inl e) = rw (equal_yes k x e) refl
among-test k (x ∷ xs) (inr h) = go (int_eq k x) (among-test k xs h)
  where
    go : (b : Bool) → list_any (int_eq k) xs ≡ true → (b || list_any (int_eq k) xs) ≡ true
    go true p = refl
    go false p = p

-- and it finds no other
test-among : (k : ℤ) (xs : List ℤ) → list_any (int_eq k) xs ≡ true → Among k xs
test-among k [] h = absurd (false≢true h)
test-among k (x ∷ xs) h = go (int_eq k x) refl h (test-among k xs)
  where
    go : (b : Bool) → int_eq k x ≡ b → (b || list_any (int_eq k) xs) ≡ true → (list_any (int_eq k) xs ≡ true → Among k xs) → (k ≡ x) ⊎ Among k xs
    go true is p more = inl (equal_from k x is)
    go false is p more = inr (more p)

-- a key that is among some is at a place of theirs
contained : (k : ℤ) (xs : List ℤ) → Among k xs → Contains xs k
contained k [] h = absurd h
contained k (x ∷ xs) (inl e) = (0, omega arith, sym e)
contained k (x ∷ xs) (inr h) = let c = contained k xs h in (suc c.0, omega (arith, c.1), c.2)

-- and a key that is at a place of theirs is among them
among : (k : ℤ) (xs : List ℤ) → Contains xs k → Among k xs
among k xs c = go xs c.0 c.1 c.2
  where
    go : (xs : List ℤ) (i : ℕ) → i < length xs → slice_index_or xs i k ≡ k → Among k xs
    go [] i within is = absurd (omega (arith, within))
    go (x ∷ xs) zero within is = inl (sym is)
    go (x ∷ xs) (suc i) within is = inr (go xs i (omega (arith, within)) is)

-- the first of some keys that is double, where others come before them
record First (earlier : List ℤ) (start : ℕ) (keys : List ℤ) (number : ℕ) : Type 0 where
  pub before : List ℤ
  pub key : ℤ
  pub after : List ℤ
  pub parted : keys ≡ before ++ key ∷ after
  pub number_is : number ≡ length before + start
  pub is_double : Among key before ⊎ Among key earlier
  pub are_new : Each (λ k. list_any (int_eq k) earlier ≡ false) before
  pub differ : Pairs (λ a b. a ≢ b) before

-- the number that the search answers is that of a key that equals an earlier one, and no key before it does:
-- either the key is found among the earlier ones, or it joins them and the search goes on
first : (earlier : List ℤ) (start : ℕ) (keys : List ℤ) (number : ℕ) → double_from earlier start keys ≡ Some number → First earlier start keys number
first earlier start [] number e = cc e
first earlier start (key ∷ keys) number e = go (list_any (int_eq key) earlier) refl e (first (key ∷ earlier) (start + 1) keys number)
  where
    longer : (b : List ℤ) → number ≡ length b + (start + 1) → number ≡ length (key ∷ b) + start
    longer b n = omega (arith, n)

    moved : (k : ℤ) (b : List ℤ) → Among k b ⊎ Among k (key ∷ earlier) → Among k (key ∷ b) ⊎ Among k earlier
    moved k b (inl h) = inl (inr h)
    moved k b (inr (inl h)) = inl (inl h)
    moved k b (inr (inr h)) = inr h

    go : (b : Bool) → list_any (int_eq key) earlier ≡ b → ◌≡◌ {A = Option ℕ} (cond b (Some start) (double_from (key ∷ earlier) (start + 1) keys)) (Some number)
        → (double_from (key ∷ earlier) (start + 1) keys ≡ Some number → First (key ∷ earlier) (start + 1) keys number) → First earlier start (key ∷ keys) number
    go true is e more =
        let same : start ≡ number = cc e in
        record {
          before = [];
          key = key;
          after = keys;
          parted = refl;
          number_is = omega (arith, same);
          is_double = inr (test-among key earlier is);
          are_new = tt;
          differ = tt;
        }
    go false is e more =
        let f = more e in
        record {
          before = key ∷ f.before;
          key = f.key;
          after = f.after;
          parted = ap (λ (ks : List ℤ). key ∷ ks) f.parted;
          number_is = longer f.before f.number_is;
          is_double = moved f.key f.before f.is_double;
          are_new = (
            is,
            each-weaker (λ k. list_any (int_eq k) (key ∷ earlier) ≡ false) (λ k. list_any (int_eq k) earlier ≡ false)
                (λ k h. (or_parts (int_eq k key) (list_any (int_eq k) earlier) h).1) f.before f.are_new,
          );
          differ = (
            each-weaker (λ k. list_any (int_eq k) (key ∷ earlier) ≡ false) (λ k. key ≢ k)
                (λ k h. differ key k ((or_parts (int_eq k key) (list_any (int_eq k) earlier) h).0)) f.before f.are_new,
            f.differ,
          );
        }

-- what comes after some keys that are new and differ
unequal : (key : ℤ) (earlier xs : List ℤ) → Each (λ k. key ≢ k) xs → Each (λ k. list_any (int_eq k) earlier ≡ false) xs → Each (λ k. list_any (int_eq k) (key ∷ earlier) ≡ false) xs
unequal key earlier [] h n = tt
unequal key earlier (x ∷ xs) h n = (rw (equal_no x key (λ p. h.0 (sym p)), n.0) refl, unequal key earlier xs h.1 n.1)

-- the search passes keys that are new and differ, and stops at the first that equals an earlier one
passed : (earlier : List ℤ) (start : ℕ) (before rest : List ℤ) (key : ℤ) → Each (λ k. list_any (int_eq k) earlier ≡ false) before → Pairs (λ a b. a ≢ b) before
    → Among key before ⊎ Among key earlier → double_from earlier start (before ++ key ∷ rest) ≡ Some (length before + start)
passed earlier start [] rest key n d (inl h) = absurd h
passed earlier start [] rest key n d (inr h) =
    let had : list_any (int_eq key) earlier ≡ true = among-test key earlier h in
    let same : start ≡ 0 + start = omega arith in
    rw had (ap (λ (k : ℕ). Some k) same)
passed earlier start (x ∷ before) rest key n d h =
    let new : list_any (int_eq x) earlier ≡ false = n.0 in
    let same : length before + (start + 1) ≡ length (x ∷ before) + start = omega arith in
    rw new (passed (x ∷ earlier) (start + 1) before rest key (unequal x earlier before d.0 n.1) d.1 (moved h) ∙ ap (λ (k : ℕ). Some k) same)
  where
    moved : Among key (x ∷ before) ⊎ Among key earlier → Among key before ⊎ Among key (x ∷ earlier)
    moved (inl (inl e)) = inr (inl e)
    moved (inl (inr m)) = inl m
    moved (inr m) = inr (inr m)

-- where all are new and differ, none is double
none : (earlier : List ℤ) (start : ℕ) (keys : List ℤ) → Each (λ k. list_any (int_eq k) earlier ≡ false) keys → Pairs (λ a b. a ≢ b) keys → double_from earlier start keys ≡ None
none earlier start [] n d = refl
none earlier start (x ∷ keys) n d =
    let new : list_any (int_eq x) earlier ≡ false = n.0 in
    rw new (none (x ∷ earlier) (start + 1) keys (unequal x earlier keys d.0 n.1) d.1)

-- before the first key there is none to repeat
all-new : (keys : List ℤ) → Each (λ k. list_any (int_eq k) [] ≡ false) keys
all-new [] = tt
all-new (k ∷ keys) = (refl, all-new keys)

-- the search goes over the keys in the order of records and remembers those before, so it stops at the first that repeats one
pub double_is_first : DoubleIsFirst
unfolding double_key
double_is_first keys number = (to, from)
  where
    to : double_from [] 1 keys ≡ Some number → IsFirstDouble keys number
    to e =
        let f = first [] 1 keys number e in
        record {
          before = f.before;
          key = f.key;
          after = f.after;
          parted = f.parted;
          number_is = f.number_is;
          is_double = contained f.key f.before (within f.key f.before f.is_double);
          none_is_before = pairs-all (λ a b. a ≢ b) f.before f.differ;
        }
      where
        within : (k : ℤ) (xs : List ℤ) → Among k xs ⊎ Among k [] → Among k xs
        within k xs (inl h) = h
        within k xs (inr h) = absurd h

    from : IsFirstDouble keys number → double_from [] 1 keys ≡ Some number
    from f =
        ap (double_from [] 1) f.parted
        ∙ passed [] 1 f.before f.after f.key (all-new f.before) (all-pairs (λ a b. a ≢ b) f.before f.none_is_before) (inl (among f.key f.before f.is_double))
        ∙ ap (λ (k : ℕ). Some k) (sym f.number_is)

-- the search ends without a number exactly where it finds no key among those before it
pub none_is_double : NoneIsDouble
unfolding double_key
none_is_double keys = (
  (λ e. pairs-all (λ a b. a ≢ b) keys ((apart [] 1 keys e).1)),
  (λ h. none [] 1 keys (all-new keys) (all-pairs (λ a b. a ≢ b) keys h)),
)
