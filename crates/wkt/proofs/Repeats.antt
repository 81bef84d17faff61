-- Positions of a line or ring, read one after another: one that repeats the last is left out.
use Rattle.std.proofs.Common.{◌≡◌, refl, sym, ap, ap₂, ◌∙◌, subst, ℕ, suc, ◌-◌, ◌≤◌, ℤ, Bool, true, false, cond, if◌then◌else◌, List, [], ◌∷◌, ◌++◌, length, Option, Some, None, Result, Ok, Err, append_assoc, append-nil, arith}
use Rattle.std.specs.List.{dedup_from}
use Rattle.std.proofs.lemmas.Bool.{and_parts}
use Rattle.std.proofs.lemmas.Bool.Decides.{Decides-int_eq}
use Rattle.std.specs.Ordering.{int_eq}
use Rattle.geometry_model.specs.Points.{Position}
use Rattle.geometry_model.specs.Locations.{last_after}
use Rattle.geometry_model.specs.TextReading.{Input, ◌>>=◌, and_then, pure, eat, padded, position, separated}
use Rattle.geometry_model.specs.WellKnownText.{same_position, without_repeats}
use Rattle.geometry_model.specs.declared.text_faults.TextFault.{TextFault}
use Rattle.text_laws.proofs.TextPrinted.{rest_from, from_rest}
use Rattle.wkt.specs.ReadingSteps.{repeats, last_of}

-- ---- what is left out
-- positions that the test finds to be one are equal
same_is : (a b : Position) → same_position a b ≡ true → a ≡ b
same_is a b same = let parts = and_parts (int_eq a.x b.x) (int_eq a.y b.y) same in
    ap₂ (λ (u v : ℤ). record { x = u; y = v }) ((Decides-int_eq a.x b.x).0 parts.0) ((Decides-int_eq a.y b.y).0 parts.1)

-- a position behind others stays unless it is the last of them
kept_behind : (k p : Position) (xs : List Position)
    → dedup_from same_position k (xs ++ p ∷ []) ≡ dedup_from same_position k xs ++ cond (same_position p (last_after k xs)) [] (p ∷ [])
kept_behind k p [] = go (same_position p k)
  where
    go : (same : Bool) → cond same (k ∷ []) (k ∷ p ∷ []) ≡ (k ∷ []) ++ cond same [] (p ∷ [])
    go true = refl
    go false = refl
kept_behind k p (x ∷ xs) = go (same_position x k) refl (kept_behind k p xs) (kept_behind x p xs)
  where
    go : (same : Bool) → same_position x k ≡ same
        → dedup_from same_position k (xs ++ p ∷ []) ≡ dedup_from same_position k xs ++ cond (same_position p (last_after k xs)) [] (p ∷ [])
        → dedup_from same_position x (xs ++ p ∷ []) ≡ dedup_from same_position x xs ++ cond (same_position p (last_after x xs)) [] (p ∷ [])
        → cond same (dedup_from same_position k (xs ++ p ∷ [])) (k ∷ dedup_from same_position x (xs ++ p ∷ []))
        ≡ cond same (dedup_from same_position k xs) (k ∷ dedup_from same_position x xs) ++ cond (same_position p (last_after x xs)) [] (p ∷ [])
    go true is here behind =
        subst (λ z. dedup_from same_position k (xs ++ p ∷ []) ≡ dedup_from same_position k xs ++ cond (same_position p (last_after z xs)) [] (p ∷ [])) (sym (same_is x k is)) here
    go false is here behind = ap (λ l. k ∷ l) behind

-- a position behind any others stays unless it is the last of them
kept_with : (last : Option Position) (xs : List Position) (p : Position) → last ≡ last_of xs
    → without_repeats (xs ++ p ∷ []) ≡ without_repeats xs ++ cond (repeats last p) [] (p ∷ [])
kept_with last [] p is = rw is refl
kept_with last (k ∷ xs) p is = rw is (kept_behind k p xs)

-- the same in a list without repeats
pub one_more : (last : Option Position) (xs : List Position) (p : Position) → last ≡ last_of xs → without_repeats xs ≡ xs
    → without_repeats (xs ++ p ∷ []) ≡ xs ++ cond (repeats last p) [] (p ∷ [])
one_more last xs p is steady = kept_with last xs p is ∙ ap (λ l. l ++ cond (repeats last p) [] (p ∷ [])) steady

-- repeats behind a first position may be left out before more comes
ahead_from : (k : Position) (xs ys : List Position) → dedup_from same_position k (xs ++ ys) ≡ dedup_from same_position k (rest_from k xs ++ ys)
ahead_from k [] ys = refl
ahead_from k (x ∷ xs) ys = go (same_position x k) refl (ahead_from k xs ys) (ahead_from x xs ys)
  where
    go : (same : Bool) → same_position x k ≡ same → dedup_from same_position k (xs ++ ys) ≡ dedup_from same_position k (rest_from k xs ++ ys)
        → dedup_from same_position x (xs ++ ys) ≡ dedup_from same_position x (rest_from x xs ++ ys)
        → cond same (dedup_from same_position k (xs ++ ys)) (k ∷ dedup_from same_position x (xs ++ ys))
        ≡ dedup_from same_position k (cond same (rest_from k xs) (x ∷ rest_from x xs) ++ ys)
    go true is here behind = here
    go false is here behind = rw is (ap (λ l. k ∷ l) behind)

-- repeats may be left out before more comes
repeats_ahead : (xs ys : List Position) → without_repeats (xs ++ ys) ≡ without_repeats (without_repeats xs ++ ys)
repeats_ahead [] ys = refl
repeats_ahead (x ∷ xs) ys = ahead_from x xs ys ∙ ap (λ l. without_repeats (l ++ ys)) (sym (from_rest x xs))

-- the last of some positions with one behind them is that one
last_behind : (xs : List Position) (p : Position) → last_of (xs ++ p ∷ []) ≡ Some p
last_behind [] p = refl
last_behind (x ∷ xs) p = ap Some (go x xs)
  where
    go : (k : Position) (ys : List Position) → last_after k (ys ++ p ∷ []) ≡ p
    go k [] = refl
    go k (y ∷ ys) = go y ys

-- a position, also a repeated one, is the last then
pub last_now : (last : Option Position) (xs : List Position) (p : Position) → last ≡ last_of xs → last_of (xs ++ cond (repeats last p) [] (p ∷ [])) ≡ Some p
last_now None xs p is = last_behind xs p
last_now (Some q) xs p is = go (same_position p q) refl
  where
    go : (same : Bool) → same_position p q ≡ same → last_of (xs ++ cond same [] (p ∷ [])) ≡ Some p
    go true e = ap last_of (append-nil xs) ∙ (sym is ∙ ap Some (sym (same_is p q e)))
    go false e = last_behind xs p

-- what is kept, with one position more unless that is a repeat, has no repeats
pub still_steady : (last : Option Position) (xs : List Position) (p : Position) → last ≡ last_of xs → without_repeats xs ≡ xs
    → without_repeats (xs ++ cond (repeats last p) [] (p ∷ [])) ≡ xs ++ cond (repeats last p) [] (p ∷ [])
still_steady last xs p is steady = go (repeats last p) (one_more last xs p is steady)
  where
    go : (same : Bool) → without_repeats (xs ++ p ∷ []) ≡ xs ++ cond same [] (p ∷ []) → without_repeats (xs ++ cond same [] (p ∷ [])) ≡ xs ++ cond same [] (p ∷ [])
    go true e = rw (append-nil xs) steady
    go false e = e

-- ---- the loop
-- what was kept, and what is read behind it, with the room that is left
abbrev pub behind_kept : List Position → ℕ → Result (List Position × Input) TextFault → Result ((List Position × ℕ) × Input) TextFault
behind_kept kept room r = and_then r (λ more. pure (without_repeats (kept ++ more), room - length more))

-- one item, and what comes after it
first_of_list : (room left : ℕ) (i j : Input) (p : Position) → room ≡ suc left → padded (position room) i ≡ Ok (p, j)
    → separated position room i ≡ and_then (eat 44 j) (λ met. if met then (separated position left >>= λ more. pure (p ∷ more)) else pure (p ∷ []))
unfolding separated
first_of_list room left i j p is read = ap (λ n. separated position n i) is
    ∙ ap (λ r. and_then r (λ x. (eat 44 >>= λ met. (if met then (separated position left >>= λ more. pure (x ∷ more)) else pure (x ∷ []))))) (subst (λ n. padded (position n) i ≡ Ok (p, j)) is read)

-- the kept positions with one more
with_more : (last : Option Position) (kept : List Position) (p : Position) (more : List Position) → last ≡ last_of kept → without_repeats kept ≡ kept
    → without_repeats (kept ++ p ∷ more) ≡ without_repeats ((kept ++ cond (repeats last p) [] (p ∷ [])) ++ more)
with_more last kept p more is steady =
    ap without_repeats (sym (append_assoc kept (p ∷ []) more)) ∙ (repeats_ahead (kept ++ p ∷ []) more ∙ ap (λ l. without_repeats (l ++ more)) (one_more last kept p is steady))

-- a position ahead of those still read goes to what is kept, unless it is a repeat, and takes one of the room in either case
put_ahead : (last : Option Position) (kept : List Position) (p : Position) (room left : ℕ) → last ≡ last_of kept → without_repeats kept ≡ kept → room ≡ suc left → (r : Result (List Position × Input) TextFault)
    → behind_kept kept room (and_then r (λ more. pure (p ∷ more))) ≡ behind_kept (kept ++ cond (repeats last p) [] (p ∷ [])) left r
put_ahead last kept p room left is steady some (Ok found) = ap₂ (λ l n. Ok ((l, n), found.1)) (with_more last kept p found.0 is steady) (omega (arith, some))
put_ahead last kept p room left is steady some (Err fault) = refl

-- a comma goes on with the position kept, where it is no repeat
pub kept_and_more : (last : Option Position) (kept : List Position) (room left : ℕ) (i j k : Input) (p : Position) → last ≡ last_of kept → without_repeats kept ≡ kept → room ≡ suc left
    → padded (position room) i ≡ Ok (p, j) → eat 44 j ≡ Ok (true, k)
    → behind_kept kept room (separated position room i) ≡ behind_kept (kept ++ cond (repeats last p) [] (p ∷ [])) left (separated position left k)
kept_and_more last kept room left i j k p is steady some read comma =
    ap (behind_kept kept room) (first_of_list room left i j p some read ∙ ap (λ r. and_then r (λ met. if met then (separated position left >>= λ more. pure (p ∷ more)) else pure (p ∷ []))) comma)
    ∙ put_ahead last kept p room left is steady some (separated position left k)

-- no comma: these are all
pub kept_last : (last : Option Position) (kept : List Position) (room left : ℕ) (i j k : Input) (p : Position) → last ≡ last_of kept → without_repeats kept ≡ kept → room ≡ suc left
    → padded (position room) i ≡ Ok (p, j) → eat 44 j ≡ Ok (false, k)
    → behind_kept kept room (separated position room i) ≡ Ok ((kept ++ cond (repeats last p) [] (p ∷ []), left), k)
kept_last last kept room left i j k p is steady some read comma =
    ap (behind_kept kept room) (first_of_list room left i j p some read ∙ ap (λ r. and_then r (λ met. if met then (separated position left >>= λ more. pure (p ∷ more)) else pure (p ∷ []))) comma)
    ∙ ap₂ (λ l n. Ok ((l, n), k)) (one_more last kept p is steady) (omega (arith, some))
