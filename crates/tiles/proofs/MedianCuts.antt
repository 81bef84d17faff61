-- Boxes cut at the medians of a sample.
use Rattle.std.proofs.Common.{◌≡◌, ◌⊎◌, inl, inr, ◌∙◌, ◌+◌, ◌-◌, ◌^◌, ◌<◌, ◌≤◌, ℕ, zero, suc, true, List, [], ◌∷◌, ◌++◌, length, take, drop, append_assoc, length-append, Option, Some, None, MatchOption, Result, Ok, Err, OnOk, refl, sym, ap, subst, arith}
use Rattle.std.specs.List.Sorted.{IsPermutation}
use Rattle.std.proofs.lemmas.Nat.{pow_pos}
use Rattle.std.proofs.lemmas.Result.{on_ok_weaker}
use Rattle.std.proofs.lemmas.List.{take-append-drop, drop_at, take_rest, length-take-le}
use Rattle.std.proofs.lemmas.List.Sorted.{All-permutation, IsPermutation-append_left, IsPermutation-put_mid, IsPermutation-trans}
use borrow.Rule.Slice.PartMut.{put_mid}
use Rattle.std.proofs.lemmas.List.Elements.{All-take, All-drop}
use Rattle.basics.proofs.Numbers.{one_less}
use Rattle.geometry_model.specs.Points.{Position}
use Rattle.geometry_model.specs.Envelopes.{Envelope}
use Rattle.fraction.specs.Ranges.{IsOnGrid}
use Rattle.table_laws.specs.Cells.{is_within}
use Rattle.tiles.specs.Cuts.{HasBothSides, HasOneCoordinate, LiesWithin, IsMedian, StaysWhole, IsHalved, IsCutAtMedians, longer}
use Rattle.tiles.specs.Lines.{IsInGrid, PassesThrough, Parts, low_part, high_part}
use Rattle.tiles.specs.declared.lines.Line.{Line}
use Rattle.tiles.proofs.Insides.{corner_below, corner_above, passes_through, within_low, within_high}

-- a box behind all the lines, or one that stays whole, is cut into itself
whole_cut : (lines most : ℕ) (sample : List Position) (box : Envelope) → (lines ≡ 0) ⊎ StaysWhole most sample → IsCutAtMedians lines most sample box (box ∷ [])
unfolding IsCutAtMedians
whole_cut zero most sample box h = refl
whole_cut (suc lines) most sample box (inl h) = absurd (omega arith)
whole_cut (suc lines) most sample box (inr h) = inl (h, refl)

-- one that is halved is cut into what its halves are cut into, along one line fewer
halved_cut : (lines most : ℕ) (sample : List Position) (box : Envelope) (boxes : List Envelope) → 0 < lines
    → IsHalved (IsCutAtMedians (lines - 1) most) most sample box boxes → IsCutAtMedians lines most sample box boxes
unfolding IsCutAtMedians
halved_cut zero most sample box boxes some h = absurd (omega arith)
halved_cut (suc lines) most sample box boxes some h =
    inr (subst (λ n. IsHalved (IsCutAtMedians n most) most sample box boxes) (one_less lines) h)

-- boxes are added: those that a box is cut into
abbrev pub Added : ℕ → ℕ → List Position → Envelope → List Envelope → List Envelope → Type 0
Added lines most sample box old new = (added : List Envelope) × (new ≡ old ++ added) × IsCutAtMedians lines most sample box added

pub whole_added : {T E : Type 0} (r : Result T E) (lines most : ℕ) (sample : List Position) (box : Envelope) (old new : List Envelope)
    → (lines ≡ 0) ⊎ StaysWhole most sample → OnOk r (new ≡ old ++ box ∷ []) → OnOk r (Added lines most sample box old new)
whole_added r lines most sample box old new h pushed =
    on_ok_weaker r (λ (is : new ≡ old ++ box ∷ []). (box ∷ [], is, whole_cut lines most sample box h)) pushed

pub few_added : {T E : Type 0} (r : Result T E) (lines : ℕ) (box : Envelope) (old new : List Envelope)
    → OnOk r (new ≡ old ++ box ∷ []) → OnOk r (length new ≤ length old + 2 ^ lines)
few_added r lines box old new pushed = on_ok_weaker r (few lines box old new) pushed
  where
    few : (lines : ℕ) (box : Envelope) (old new : List Envelope) → new ≡ old ++ box ∷ [] → length new ≤ length old + 2 ^ lines
    few lines box old new is =
        let size : length new ≡ length (old ++ box ∷ []) = ap length is in
        let parts : length (old ++ box ∷ []) ≡ length old + length (box ∷ []) = length-append old (box ∷ []) in
        omega (arith, size, parts, pow_pos lines)

pub halves_added : (lines most : ℕ) (sample sorted : List Position) (n : ℕ) (rest : List Position) (line : Line) (box low high : Envelope) (old mid new : List Envelope)
    → 0 < lines → most < length sample → IsPermutation sample sorted → rest ≡ drop n sorted → Parts line box low high
    → IsMedian line (take n sorted) (drop n sorted) → (line.axis ≡ longer box) ⊎ HasOneCoordinate (longer box) sample
    → Added (lines - 1) most (take n sorted) low old mid → Added (lines - 1) most rest high mid new → Added lines most sample box old new
halves_added lines most sample sorted n rest line box low high old mid new some many moved is parts median along first second = (
  first.0 ++ second.0,
  second.1 ∙ ap (λ l. l ++ second.0) first.1 ∙ append_assoc old first.0 second.0,
  halved_cut lines most sample box (first.0 ++ second.0) some (record {
    line = line;
    before = take n sorted;
    behind = drop n sorted;
    low = first.0;
    high = second.0;
    many = many;
    parts = subst (λ l. IsPermutation sample l) (sym (take-append-drop n sorted)) moved;
    median = median;
    along = along;
    joined = refl;
    cut_low = subst (λ b. IsCutAtMedians (lines - 1) most (take n sorted) b first.0) parts.low_is first.2;
    cut_high = subst (λ b. IsCutAtMedians (lines - 1) most (drop n sorted) b second.0) parts.high_is (subst (λ l. IsCutAtMedians (lines - 1) most l high second.0) is second.2);
  }),
)

-- ---- what the halves begin with

-- a sample in another order lies within the same box
pub moved_within : (sample sorted : List Position) (box : Envelope) → IsPermutation sample sorted → LiesWithin sample box → LiesWithin sorted box
moved_within sample sorted box moved all = All-permutation (λ p. IsOnGrid p → is_within box p ≡ true) sample sorted moved all

-- a line at the median of a box's sample passes through the box
pub median_passes : (line : Line) (box : Envelope) (sample sorted : List Position) → LiesWithin sample box → IsPermutation sample sorted
    → HasBothSides line sorted → PassesThrough line.axis line.at box
median_passes line box sample sorted all moved sides = passes_through line box sorted (moved_within sample sorted box moved all) sides

pub low_begins : (line : Line) (box low high : Envelope) (sample sorted : List Position) (n : ℕ) → IsInGrid box → LiesWithin sample box → IsPermutation sample sorted
    → Parts line box low high → IsMedian line (take n sorted) (drop n sorted) → IsInGrid low × LiesWithin (take n sorted) low
low_begins line box low high sample sorted n grid all moved parts median =
    let within : LiesWithin (take n sorted) (low_part line.axis line.at box) = within_low line box (take n sorted) (drop n sorted)
    (All-take (λ p. IsOnGrid p → is_within box p ≡ true) n sorted (moved_within sample sorted box moved all)) median in (
      subst IsInGrid (sym parts.low_is) (corner_below line.axis line.at box grid parts.passes),
      subst (LiesWithin (take n sorted)) (sym parts.low_is) within,
    )

pub high_begins : (line : Line) (box low high : Envelope) (sample sorted : List Position) (n : ℕ) (rest : List Position) → IsInGrid box → LiesWithin sample box
    → IsPermutation sample sorted → rest ≡ drop n sorted → Parts line box low high → IsMedian line (take n sorted) (drop n sorted)
    → IsInGrid high × LiesWithin rest high
high_begins line box low high sample sorted n rest grid all moved is parts median =
    let within : LiesWithin (drop n sorted) (high_part line.axis line.at box) = within_high line box (take n sorted) (drop n sorted)
    (All-drop (λ p. IsOnGrid p → is_within box p ≡ true) n sorted (moved_within sample sorted box moved all)) median in (
      subst IsInGrid (sym parts.high_is) (corner_above line.axis line.at box grid parts.passes),
      subst (λ l. LiesWithin l high) (sym is) (subst (LiesWithin (drop n sorted)) (sym parts.high_is) within),
    )

-- what is behind the line once those before it were put into another order
pub rest_is : (new sorted : List Position) (n : ℕ) → n ≤ length sorted → length new ≡ length (take n sorted)
    → take (length (new ++ drop n sorted) - n) (drop n (new ++ drop n sorted)) ≡ drop n sorted
rest_is new sorted n within size =
    take_rest (new ++ drop n sorted) n ∙ drop_at new (drop n sorted) n (size ∙ length-take-le n sorted within)

-- where the second try finds no line, neither does the first
pub none_then : {A : Type 0} (o : Option A) (P Q : Type 0) (R : A → Type 0) → (P → Q) → MatchOption o P R → MatchOption o Q R
none_then None P Q R f h = f h
none_then (Some x) P Q R f h = h

-- what holds holds at each answer
pub any_ok : {T E : Type 0} (r : Result T E) (P : Type 0) → P → OnOk r P
any_ok (Ok x) P h = h
any_ok (Err e) P h = tt

-- the whole sample is only put into another order
pub all_moved : (sample sorted : List Position) (n : ℕ) (low high : List Position) → IsPermutation sample sorted → IsPermutation (take n sorted) low
    → IsPermutation (take (length (low ++ drop n sorted) - n) (drop n (low ++ drop n sorted))) high
    → IsPermutation sample (put_mid n (length (low ++ drop n sorted) - n) (low ++ drop n sorted) high)
all_moved sample sorted n low high moved first second =
    let mid = low ++ drop n sorted in
    let there : IsPermutation sorted mid = subst (λ l. IsPermutation l mid) (take-append-drop n sorted) (IsPermutation-append_left (drop n sorted) (take n sorted) low first) in
    IsPermutation-trans sample mid (put_mid n (length mid - n) mid high) (IsPermutation-trans sample sorted mid moved there)
    (IsPermutation-put_mid n (length mid - n) mid high second)
