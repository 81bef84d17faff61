-- Where edges break, and the chains between.
use Rattle.std.proofs.Common.{max, min, ◌≡◌, ◌⊎◌, inl, inr, ℕ, suc, ◌+◌, ◌-◌, ◌<◌, ◌≤◌, true, false, List, [], ◌∷◌, ◌++◌, length, get_or, ◌∙◌, sym, ap, subst, arith}
use Rattle.std.specs.List.{Contains}
use Rattle.std.specs.List.Sorted.{IsPartitionPoint}
use Rattle.std.proofs.Math.Dec.{leb}
use Rattle.std.proofs.lemmas.Bool.{leb-false, leb-true}
use Rattle.std.proofs.lemmas.List.{get_or_default}
use Rattle.std.proofs.lemmas.List.Elements.{All-push, All-weaker, AllWithin-from_all, Contains-push, Contains-append_left}
use Rattle.std.proofs.lemmas.List.Sorted.{IsNonDecreasingBy-push}
use Rattle.geometry_model.specs.Geometries.{Edge}
use Rattle.edge_boxes.specs.Chains.{IsLinked, IsChain, IsBreak, AreBreaks, AreBreaksTo}

-- ---- as they are found

-- the links before a place and the one that leads to it are those before the next place
linked_before_next : (edges : List Edge) (place i : ℕ) → suc i < place + 1 → (suc i < place → IsLinked edges i)
    → (suc i ≡ place → IsLinked edges i) → IsLinked edges i
linked_before_next edges place i h earlier last = go side
  where
    side : (suc i < place) ⊎ (suc i ≡ place)
    side = grind (arith, h)

    go : (suc i < place) ⊎ (suc i ≡ place) → IsLinked edges i
    go (inl l) = earlier l
    go (inr e) = last e

pub one_break : (breaks : List ℕ) (edges : List Edge) (place : ℕ) → IsBreak edges place → AreBreaksTo breaks edges place
    → AreBreaksTo (breaks ++ place ∷ []) edges (place + 1)
one_break breaks edges place is s = record {
  ascend = IsNonDecreasingBy-push (λ x. x) breaks place s.ascend last;
  parted = All-push (IsBreak edges) breaks place s.parted is;
  below = All-push (λ b. b < place + 1) breaks place
      (All-weaker (λ b. b < place) (λ b. b < place + 1) (λ b l. omega (arith, l)) breaks s.below) (omega arith);
  linked = linked;
}
  where
    last : (d : ℕ) → 0 < length breaks → get_or breaks (length breaks - 1) d ≤ place
    last d h =
        let l : get_or breaks (length breaks - 1) d < place =
        AllWithin-from_all (λ b. b < place) breaks s.below (length breaks - 1) d (omega arith) (omega (arith, h)) in
        omega (arith, l)

    linked : (i : ℕ) → suc i < place + 1 → (Contains (breaks ++ place ∷ []) (suc i) → ⊥) → IsLinked edges i
    linked i h free = linked_before_next edges place i h
        (λ l. s.linked i l (λ c. free (Contains-append_left breaks (place ∷ []) (suc i) c)))
        (λ e. absurd (free (subst (Contains (breaks ++ place ∷ [])) (sym e) (Contains-push breaks place))))

-- the edges that are read at a place and before it
read_alike : (edges : List Edge) (i : ℕ) (d e : Edge) → i < length edges → d ≡ get_or edges i d → e ≡ get_or edges i e
    → d ≡ e
read_alike edges i d e within is also = is ∙ get_or_default edges i d e within ∙ sym also

linked_at : (edges : List Edge) (i place : ℕ) (d e g f : Edge) → suc i ≡ place → place < length edges → suc i < length edges
    → d ≡ get_or edges i d → e ≡ get_or edges (place - 1) e → g ≡ get_or edges (suc i) g → f ≡ get_or edges place f
    → e.end ≡ f.start → d.end ≡ g.start
linked_at edges i place d e g f k within inside d_is e_is g_is f_is same =
    let less : place - 1 ≡ i = omega (arith, k) in
    let first : d ≡ e = read_alike edges i d e (omega (arith, inside)) d_is (e_is ∙ ap (λ n. get_or edges n e) less) in
    let second : g ≡ f = read_alike edges (suc i) g f inside g_is (f_is ∙ ap (λ n. get_or edges n f) (sym k)) in
    ap (λ (s : Edge). s.end) first ∙ same ∙ ap (λ (s : Edge). s.start) (sym second)

-- an edge that doesn't start where the one before it ends
pub break_at : (edges : List Edge) (place : ℕ) (e f : Edge) → 0 < place → place < length edges
    → e ≡ get_or edges (place - 1) e → f ≡ get_or edges place f → (e.end ≡ f.start → ⊥) → IsBreak edges place
break_at edges place e f some inside is next differ = record {
  later = some;
  within = inside;
  parted = λ d g d_is g_is same.
      let first : d ≡ e = read_alike edges (place - 1) d e (omega (arith, inside)) d_is is in
      let second : g ≡ f = read_alike edges place g f inside g_is next in
      differ (sym (ap (λ (s : Edge). s.end) first) ∙ same ∙ ap (λ (s : Edge). s.start) second);
}

-- an edge that starts where the one before it ends
pub one_link : (breaks : List ℕ) (edges : List Edge) (place : ℕ) (e f : Edge) → 0 < place → place < length edges
    → e ≡ get_or edges (place - 1) e → f ≡ get_or edges place f → e.end ≡ f.start → AreBreaksTo breaks edges place
    → AreBreaksTo breaks edges (place + 1)
one_link breaks edges place e f some within is next same s = record {
  ascend = s.ascend;
  parted = s.parted;
  below = All-weaker (λ b. b < place) (λ b. b < place + 1) (λ b l. omega (arith, l)) breaks s.below;
  linked = λ i h free. linked_before_next edges place i h (λ l. s.linked i l free) (at i);
}
  where
    at : (i : ℕ) → suc i ≡ place → IsLinked edges i
    at i k inside d g d_is g_is = linked_at edges i place d e g f k within inside d_is is g_is next same

-- ---- as they are asked
-- between the last break before a place and the place the edges are a chain
pub chain_from : (breaks : List ℕ) (edges : List Edge) (place n first : ℕ)
    → IsPartitionPoint (λ b. leb b place ≡ true) (λ b. leb b place ≡ false) breaks n → n ≤ length breaks
    → ((d : ℕ) → 0 < n → get_or breaks (n - 1) d ≤ first) → AreBreaks breaks edges → IsChain edges first place
chain_from breaks edges place n first parts within least are i from before = are.linked i none
  where
    side : (k : ℕ) → (k < n) ⊎ (n ≤ k)
    side k = grind arith

    none : Contains breaks (suc i) → ⊥
    none c = go (side c.0)
      where
        go : (c.0 < n) ⊎ (n ≤ c.0) → ⊥
        go (inl l) =
            let a : get_or breaks c.0 (suc i) ≤ get_or breaks (n - 1) (suc i) =
            are.ascend c.0 (n - 1) (suc i) (omega (arith, l)) (omega (arith, l, within)) in
            let b : get_or breaks (n - 1) (suc i) ≤ first = least (suc i) (omega (arith, l)) in
            let is : get_or breaks c.0 (suc i) ≡ suc i = c.2 in
            omega (arith, a, b, is, from)
        go (inr g) =
            let a : place < get_or breaks c.0 (suc i) = leb-false (get_or breaks c.0 (suc i)) place (parts.1 c.0 (suc i) g c.1) in
            let is : get_or breaks c.0 (suc i) ≡ suc i = c.2 in
            omega (arith, a, is, before)

-- the last break up to a place is found, and the place asked from or that break, whichever is later, is the result
pub record FindsBreak (breaks : List ℕ) (edges : List Edge) (place n from result : ℕ) : Type 0 where
  pub are : AreBreaks breaks edges
  pub parts : IsPartitionPoint (λ b. leb b place ≡ true) (λ b. leb b place ≡ false) breaks n
  pub within : n ≤ length breaks
  pub some : 0 < n
  pub is : result ≡ max from (min (get_or breaks (n - 1) 0) place)

last_at_most : (breaks : List ℕ) (edges : List Edge) (place n from result : ℕ) → FindsBreak breaks edges place n from result
    → get_or breaks (n - 1) 0 ≤ place
last_at_most breaks edges place n from result s =
    leb-true (get_or breaks (n - 1) 0) place (s.parts.0 (n - 1) 0 (omega arith) (omega (arith, s.some)))

-- from the result on the edges are a chain
pub chain_from_break : (breaks : List ℕ) (edges : List Edge) (place n from result : ℕ)
    → FindsBreak breaks edges place n from result → IsChain edges result place
chain_from_break breaks edges place n from result s = chain_from breaks edges place n result s.parts s.within least s.are
  where
    least : (d : ℕ) → 0 < n → get_or breaks (n - 1) d ≤ result
    least d some =
        let a = last_at_most breaks edges place n from result s in
        let same : get_or breaks (n - 1) d ≡ get_or breaks (n - 1) 0 =
        get_or_default breaks (n - 1) d 0 (omega (arith, some, s.within)) in
        omega (arith, a, same, s.is)

-- a result that is later than the place asked from is a break
pub is_break : (breaks : List ℕ) (edges : List Edge) (place n from result : ℕ) → FindsBreak breaks edges place n from result
    → from < result → IsBreak edges result
is_break breaks edges place n from result s after =
    let a = last_at_most breaks edges place n from result s in
    let at : get_or breaks (n - 1) 0 ≡ result = omega (arith, a, s.is, after) in
    subst (IsBreak edges) at
    (AllWithin-from_all (IsBreak edges) breaks s.are.parted (n - 1) 0 (omega arith) (omega (arith, s.some, s.within)))
