-- What is kept of a list where of each `n` the first is: with one more, and where each second one is left out.
use Rattle.std.proofs.Common.{◌≡◌, ℕ, ◌+◌, ◌*◌, ◌<◌, ◌≤◌, List, [], ◌∷◌, ◌++◌, length, get_or, arith, ◌∙◌, ap, sym, subst, ◌⊎◌, inl, inr, length-append}
use Rattle.std.proofs.lemmas.Grind.{common_steps}
use Rattle.std.proofs.lemmas.List.{get_or_append_left}
use Rattle.std.proofs.Math.Seq.{get_or-append_seam}
use Rattle.basics.proofs.Numbers.{earlier_or_last}
use Rattle.tiles.specs.Samples.{IsFirstOfEach}

within : {A : Type 0} (n : ℕ) (all kept : List A) (i : ℕ) → IsFirstOfEach n all kept → i < length kept
    → i * n < length all
within n all kept i each h =
    let s = step_below i (length kept) h in
    let e = each.none_more in
    omega arith
  where
    step_below : (i m : ℕ) → i < m → i * n + n ≤ m * n
    step_below i m h = grind arith

-- one more that isn't kept
pub left_out : {A : Type 0} (n : ℕ) (all kept : List A) (since : ℕ) (c : A) → IsFirstOfEach n all kept
    → length all + since ≡ length kept * n → 0 < since → IsFirstOfEach n (all ++ c ∷ []) kept
left_out n all kept since c each e some = record {
  same = λ i d h. (let w = within n all kept i each h in let s = each.same i d h in grind (arith, common_steps));
  reach = (let r = each.reach in grind (arith, common_steps));
  none_more = (let r = each.none_more in grind (arith, common_steps));
}

-- one more that is kept
pub kept_too : {A : Type 0} (n : ℕ) (all kept : List A) (c : A) → IsFirstOfEach n all kept
    → length all ≡ length kept * n → 0 < n → IsFirstOfEach n (all ++ c ∷ []) (kept ++ c ∷ [])
kept_too {A} n all kept c each e some =
    let a = length-append all (c ∷ []) in
    let k = length-append kept (c ∷ []) in
    let m = more (length kept) (length all) e in
    record {
      same = λ i d h. same i d (earlier_or_last i (length kept) (subst (λ z. i < z) k h));
      reach = rw (a, k, m) (omega arith);
      none_more = rw (a, k, m) (omega arith);
    }
  where
    more : (k a : ℕ) → a ≡ k * n → (k + 1) * n ≡ a + n
    more k a e = grind arith

    same : (i : ℕ) (d : A) → (i < length kept) ⊎ (i ≡ length kept)
        → get_or (kept ++ c ∷ []) i d ≡ get_or (all ++ c ∷ []) (i * n) d
    same i d (inl h) = get_or_append_left kept (c ∷ []) d i h ∙ each.same i d h
        ∙ sym (get_or_append_left all (c ∷ []) d (i * n) (within n all kept i each h))
    same i d (inr h) = ap (λ z. get_or (kept ++ c ∷ []) z d) h ∙ get_or-append_seam kept c [] d
        ∙ sym (ap (λ z. get_or (all ++ c ∷ []) z d) (ap (λ z. z * n) h ∙ sym e) ∙ get_or-append_seam all c [] d)

-- each second one is left out
pub halved : {A : Type 0} (n : ℕ) (all kept half : List A) → IsFirstOfEach n all kept → IsFirstOfEach 2 kept half
    → IsFirstOfEach (2 * n) all half
halved n all kept half each two = record {
  same = λ i d h. two.same i d h ∙ each.same (i * 2) d (within 2 kept half i two h) ∙ ap (λ z. get_or all z d) (twice i);
  reach = times (length half) (length kept) (length all) each.reach two.reach;
  none_more = times_more (length half) (length kept) (length all) each.none_more two.none_more;
}
  where
    twice : (i : ℕ) → (i * 2) * n ≡ i * (2 * n)
    twice i = grind arith

    at_most : (k m : ℕ) → k ≤ m → k * n ≤ m * n
    at_most k m h = grind arith

    times : (h k a : ℕ) → a ≤ k * n → k ≤ h * 2 → a ≤ h * (2 * n)
    times h k a first second =
        let s = at_most k (h * 2) second in
        let t = twice h in
        omega (arith, s, t)

    step_below : (i m : ℕ) → i < m → i * n + n ≤ m * n
    step_below i m h = grind arith

    times_more : (h k a : ℕ) → k * n < a + n → h * 2 < k + 2 → h * (2 * n) < a + 2 * n
    times_more h k a first second =
        let s = step_below (h * 2) (k + 2) second in
        grind arith
