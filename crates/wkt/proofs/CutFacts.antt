-- A list cut into parts.
use Rattle.std.proofs.Common.{◌≡◌, refl, sym, ap, ap₂, ◌∙◌, ℕ, zero, suc, ◌+◌, ◌-◌, ◌<◌, ◌≤◌, List, [], ◌∷◌, ◌++◌, length, take, drop, get_or, Some, arith}
use Rattle.std.specs.List.{slice_get, flat_map}
use Rattle.std.proofs.lemmas.List.{take-append-le, drop-append-le, take-append-drop, length-drop, take_all}
use Rattle.std.proofs.Math.Seq.{drop-append_seam, drop-length, drop-nil}
use Rattle.wkt.specs.Cuts.{cut_at, AreEnds, start_of}

-- as many parts as ends
pub cut_count : {A : Type 0} (start : ℕ) (ends : List ℕ) (items : List A) → length (cut_at start ends items) ≡ length ends
cut_count start [] items = refl
cut_count start (end ∷ ends) items = ap suc (cut_count end ends items)

-- a part lies between two ends
pub cut_part : {A : Type 0} (start : ℕ) (ends : List ℕ) (items : List A) (index end : ℕ) → slice_get ends index ≡ Some end
    → slice_get (cut_at start ends items) index ≡ Some (take (end - start_of start ends index) (drop (start_of start ends index) items))
cut_part start [] items index end is = cc
cut_part start (e ∷ ends) items zero end is = let same : e ≡ end = cc in ap (λ n. Some (take (n - start) (drop start items))) same
cut_part start (e ∷ ends) items (suc index) end is = cut_part e ends items index end is

-- the places go on from the start, so the end of all isn't before it
pub last_within : (start : ℕ) (ends : List ℕ) (count : ℕ) → AreEnds start ends count → start ≤ count
last_within start [] count are = omega (arith, are)
last_within start (end ∷ ends) count are = omega (arith, are.0, last_within end ends count are.1)

-- what comes after a later place is what comes after an earlier one, less what is between
dropped_twice : {A : Type 0} (start end : ℕ) (items : List A) → start ≤ end → drop end items ≡ drop (end - start) (drop start items)
dropped_twice zero end items on = ap (λ n. drop n items) (no_less end)
  where
    no_less : (n : ℕ) → n ≡ n - 0
    no_less n = omega arith
dropped_twice (suc start) zero items on = absurd (omega (arith, on))
dropped_twice (suc start) (suc end) [] on = sym (drop-nil (suc end - suc start))
dropped_twice (suc start) (suc end) (item ∷ items) on = dropped_twice start end items (omega (arith, on)) ∙ ap (λ n. drop n (drop start items)) (both_less end start)
  where
    both_less : (m n : ℕ) → m - n ≡ suc m - suc n
    both_less m n = omega arith

-- the parts put together are the items
pub cut_joined : {A : Type 0} (start : ℕ) (ends : List ℕ) (items : List A) → AreEnds start ends (length items) → flat_map (λ part. part) (cut_at start ends items) ≡ drop start items
cut_joined start [] items are = rw are (sym (drop-length items))
cut_joined start (end ∷ ends) items are =
    ap (λ l. take (end - start) (drop start items) ++ l) (cut_joined end ends items are.1 ∙ dropped_twice start end items are.0)
    ∙ take-append-drop (end - start) (drop start items)

-- one part more
pub cut_more : {A : Type 0} (start : ℕ) (ends : List ℕ) (items more : List A) → AreEnds start ends (length items)
    → cut_at start (ends ++ (length items + length more) ∷ []) (items ++ more) ≡ cut_at start ends items ++ more ∷ []
cut_more start [] items more are = ap (λ part. part ∷ [])
    (rw are (ap (λ l. take (length items + length more - length items) l) (drop-append_seam items more)
    ∙ take_all (length items + length more - length items) more (omega arith)))
cut_more start (end ∷ ends) items more are =
    let last = last_within end ends (length items) are.1 in
    ap₂ (λ part parts. part ∷ parts)
    (ap (take (end - start)) (drop-append-le start items more (omega (arith, are.0, last)))
    ∙ take-append-le (end - start) (drop start items) more (omega (arith, length-drop start items, are.0, last)))
    (cut_more end ends items more are.1)

-- the places of the parts with one more behind them are places of the longer list
pub ends_more : (start : ℕ) (ends : List ℕ) (count more : ℕ) → AreEnds start ends count → AreEnds start (ends ++ (count + more) ∷ []) (count + more)
ends_more start [] count more are = (omega (arith, are), refl)
ends_more start (end ∷ ends) count more are = (are.0, ends_more end ends count more are.1)

-- a part begins where the one before it ends
pub start_is : (start : ℕ) (ends : List ℕ) (index before : ℕ) → index ≡ suc before → index < length ends → get_or ends before 0 ≡ start_of start ends index
start_is start ends zero before is within = absurd (omega (arith, is))
start_is start [] (suc index) before is within = absurd (omega (arith, within))
start_is start (end ∷ ends) (suc zero) zero is within = refl
start_is start (end ∷ ends) (suc zero) (suc before) is within = absurd (omega (arith, is))
start_is start (end ∷ ends) (suc (suc index)) zero is within = absurd (omega (arith, is))
start_is start (end ∷ ends) (suc (suc index)) (suc before) is within = start_is end ends (suc index) before (omega (arith, is)) (omega (arith, within))

-- a part lies within the items
pub part_within : (start : ℕ) (ends : List ℕ) (count index end : ℕ) → AreEnds start ends count → slice_get ends index ≡ Some end → (start_of start ends index ≤ end) × (end ≤ count)
part_within start [] count index end are is = cc
part_within start (e ∷ ends) count zero end are is = let same : e ≡ end = cc in rw (sym same) (are.0, last_within e ends count are.1)
part_within start (e ∷ ends) count (suc index) end are is = part_within e ends count index end are.1 is
