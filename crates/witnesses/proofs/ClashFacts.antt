-- Clashes by what two edges share, and edges of a line by their numbers.
use Rattle.std.proofs.Common.{ℕ, zero, suc, ◌+◌, ◌-◌, ◌<◌, ◌≤◌, [], ◌∷◌, All, get_or, add-one, ◌≡◌, ◌≢◌, ◌⊎◌, inl, inr, Bool, true, false, ◌==◌, ◌&&◌, refl, sym, ap, subst, ◌∙◌, List, length, Some, eq-eqb, arith, ne_eqb, eqb-true}
use Rattle.std.specs.List.{slice_get}
use Rattle.std.proofs.lemmas.Option.{slice_get_within, same_Some, get_or_from_slice_get}
use Rattle.std.proofs.lemmas.List.{get_or_default}
use Rattle.std.proofs.lemmas.Bool.{eqb-false, and_parts, and_from}
use Rattle.basics.proofs.Numbers.{earlier_or_last}
use Rattle.geometry_model.specs.Points.{Position}
use Rattle.geometry_model.specs.Geometries.{Edge, edges_of_line}
use Rattle.geometry_model.specs.Validity.{SharePoint, ShareOther, Clash, IsNotSimple, RingsShare}
use Rattle.witnesses.specs.Places.{clash_by, ClashesWith, MeetsWith}

-- ---- the test as cases
by_cases : (a b x y z : Bool) → clash_by a b x y z ≡ true → ((a ≡ true) × (x ≡ true)) ⊎ (((b ≡ true) × (y ≡ true)) ⊎ ((a ≡ false) × (b ≡ false) × (z ≡ true)))
by_cases true b true y z e = inl (refl, refl)
by_cases true true false true z e = inr (inl (refl, refl))
by_cases true true false false z e = absurd (let h : false ≡ true = e in cc)
by_cases true false false y z e = absurd (let h : false ≡ true = e in cc)
by_cases false true x true z e = inr (inl (refl, refl))
by_cases false true x false z e = absurd (let h : false ≡ true = e in cc)
by_cases false false x y true e = inr (inr (refl, refl, refl))
by_cases false false x y false e = absurd (let h : false ≡ true = e in cc)

none_follows : (a b x y z : Bool) → clash_by a b x y z ≡ false → a ≡ true → x ≡ false
none_follows true b true y z e f = absurd (let h : true ≡ false = e in cc)
none_follows true b false y z e f = refl
none_follows false b x y z e f = absurd (let h : false ≡ true = f in cc)

none_closes : (a b x y z : Bool) → clash_by a b x y z ≡ false → b ≡ true → y ≡ false
none_closes true true true y z e f = absurd (let h : true ≡ false = e in cc)
none_closes true true false true z e f = absurd (let h : true ≡ false = e in cc)
none_closes true true false false z e f = refl
none_closes false true x true z e f = absurd (let h : true ≡ false = e in cc)
none_closes false true x false z e f = refl
none_closes a false x y z e f = absurd (let h : false ≡ true = f in cc)

none_other : (a b x y z : Bool) → clash_by a b x y z ≡ false → a ≡ false → b ≡ false → z ≡ false
none_other true b x y z e f g = absurd (let h : true ≡ false = f in cc)
none_other false true x y z e f g = absurd (let h : true ≡ false = g in cc)
none_other false false x y true e f g = absurd (let h : true ≡ false = e in cc)
none_other false false x y false e f g = refl

-- ---- numbers and their tests
closes_from : (i j n : ℕ) → (i == 0) && (j + 1 == n) ≡ true → (i ≡ 0) × (j + 1 ≡ n)
closes_from i j n e = let b : ((i == 0) ≡ true) × ((j + 1 == n) ≡ true) = and_parts (i == 0) (j + 1 == n) e in (eqb-true i 0 b.0, eqb-true (j + 1) n b.1)

closes_yes : (i j n : ℕ) → i ≡ 0 → j + 1 ≡ n → (i == 0) && (j + 1 == n) ≡ true
closes_yes i j n e f = and_from (i == 0) (j + 1 == n) (eq-eqb i 0 e) (eq-eqb (j + 1) n f)

closes_no : (i j n : ℕ) → (((i ≡ 0) × (j + 1 ≡ n)) → ⊥) → (i == 0) && (j + 1 == n) ≡ false
closes_no i j n h = go ((i == 0) && (j + 1 == n)) refl
  where
    go : (t : Bool) → (i == 0) && (j + 1 == n) ≡ t → (i == 0) && (j + 1 == n) ≡ false
    go true e = absurd (h (closes_from i j n e))
    go false e = e

-- ---- the test says exactly whether two edges clash
pub clash_yes : (n i j : ℕ) (e f : Edge) (r x y z : Bool) → r ≡ clash_by (j == i + 1) ((i == 0) && (j + 1 == n)) x y z → (x ≡ true → ShareOther e.end e f) → (y ≡ true → ShareOther e.start e f) → (z ≡ true → SharePoint e f) → r ≡ true → Clash n i j e f
clash_yes n i j e f r x y z q hx hy hz t = go (by_cases (j == i + 1) ((i == 0) && (j + 1 == n)) x y z (sym q ∙ t))
  where
    both_no : (i == 0) && (j + 1 == n) ≡ false → (i ≡ 0) × (j + 1 ≡ n) → ⊥
    both_no g h = let w : true ≡ false = sym (closes_yes i j n h.0 h.1) ∙ g in absurd cc

    go : (((j == i + 1) ≡ true) × (x ≡ true)) ⊎ ((((i == 0) && (j + 1 == n) ≡ true) × (y ≡ true)) ⊎ (((j == i + 1) ≡ false) × ((i == 0) && (j + 1 == n) ≡ false) × (z ≡ true))) → Clash n i j e f
    go (inl h) = inl (eqb-true j (i + 1) h.0, hx h.1)
    go (inr (inl h)) = let c : (i ≡ 0) × (j + 1 ≡ n) = closes_from i j n h.0 in inr (inl (c.0, c.1, hy h.1))
    go (inr (inr h)) = inr (inr (eqb-false j (i + 1) h.0, both_no h.1, hz h.2))

pub clash_no : (n i j : ℕ) (e f : Edge) (r x y z : Bool) → r ≡ clash_by (j == i + 1) ((i == 0) && (j + 1 == n)) x y z → (x ≡ false → ShareOther e.end e f → ⊥) → (y ≡ false → ShareOther e.start e f → ⊥) → (z ≡ false → SharePoint e f → ⊥) → r ≡ false → Clash n i j e f → ⊥
clash_no n i j e f r x y z q hx hy hz t (inl c) = hx (none_follows (j == i + 1) ((i == 0) && (j + 1 == n)) x y z (sym q ∙ t) (eq-eqb j (i + 1) c.0)) c.1
clash_no n i j e f r x y z q hx hy hz t (inr (inl c)) = hy (none_closes (j == i + 1) ((i == 0) && (j + 1 == n)) x y z (sym q ∙ t) (closes_yes i j n c.0 c.1)) c.2
clash_no n i j e f r x y z q hx hy hz t (inr (inr c)) = hz (none_other (j == i + 1) ((i == 0) && (j + 1 == n)) x y z (sym q ∙ t) (ne_eqb j (i + 1) c.0) (closes_no i j n c.1)) c.2

-- ---- so far
same_edge : (es : List Edge) (i k : ℕ) (e f : Edge) → i ≡ k → slice_get es i ≡ Some e → slice_get es k ≡ Some f → e ≡ f
same_edge es i k e f q h g = same_Some e f (sym h ∙ ap (λ (n : ℕ). slice_get es n) q ∙ g)

-- ---- the edges of a line by number: from each position to the next
count_from : (p : Position) (ps : List Position) → length (edges_of_line (p ∷ ps)) ≡ length ps
count_from p [] = refl
count_from p (q ∷ rest) = ap suc (count_from q rest)

pub edge_count : (ps : List Position) → length (edges_of_line ps) ≡ length ps - 1
edge_count [] = refl
edge_count (p ∷ ps) = count_from p ps ∙ one_less (length ps)
  where
    one_less : (n : ℕ) → n ≡ suc n - 1
    one_less n = omega arith

edge_from : (p : Position) (ps : List Position) (k : ℕ) (d : Position) → k < length ps → slice_get (edges_of_line (p ∷ ps)) k ≡ Some (record { start = get_or (p ∷ ps) k d; end = get_or ps k d })
edge_from p [] k d h = absurd (omega (arith, h))
edge_from p (q ∷ rest) zero d h = refl
edge_from p (q ∷ rest) (suc k) d h = edge_from q rest k d (omega (arith, h))

pub next_within : (ps : List Position) (k : ℕ) → k < length (edges_of_line ps) → k + 1 < length ps
next_within ps k h = omega (arith, h, edge_count ps)

pub edge_is : (ps : List Position) (k : ℕ) (s t : Position) → k < length (edges_of_line ps) → s ≡ get_or ps k s → t ≡ get_or ps (k + 1) t → slice_get (edges_of_line ps) k ≡ Some (record { start = s; end = t })
edge_is [] k s t h e f = absurd (omega (arith, h))
edge_is (p ∷ ps) k s t h e f = edge_from p ps k s within ∙ ap Some (λ i. record { start = (sym e) i; end = (end_is) i })
  where
    within : k < length ps
    within = omega (arith, h, count_from p ps)

    end_is : get_or ps k s ≡ t
    end_is = get_or_default ps k s t within ∙ sym (f ∙ ap (λ (n : ℕ). get_or (p ∷ ps) n t) (add-one k))

pub ends_differ : (ps : List Position) (k : ℕ) (s t : Position) → All (λ e. e.start ≢ e.end) (edges_of_line ps) → k < length (edges_of_line ps) → s ≡ get_or ps k s → t ≡ get_or ps (k + 1) t → s ≡ t → ⊥
ends_differ ps k s t all h e f = subst (λ (g : Edge). g.start ≢ g.end) (get_or_from_slice_get (edges_of_line ps) k (record { start = s; end = t }) (record { start = s; end = t }) (edge_is ps k s t h e f)) (all k (record { start = s; end = t }) h)

-- ---- none of the edges so far
pub later_clash : (ring : List Position) (i j : ℕ) (e f : Edge) → slice_get (edges_of_line ring) i ≡ Some e → slice_get (edges_of_line ring) j ≡ Some f → (Clash (length (edges_of_line ring)) i j e f → ⊥)
    → ((w : ClashesWith ring i) → w.j < j → ⊥) → (w : ClashesWith ring i) → w.j < j + 1 → ⊥
later_clash ring i j e f he hf none before w l = go (earlier_or_last w.j j l)
  where
    go : (w.j < j) ⊎ (w.j ≡ j) → ⊥
    go (inl h) = before w h
    go (inr h) = none (subst (λ (k : ℕ). Clash (length (edges_of_line ring)) i k e f) h (subst (λ (g : Edge). Clash (length (edges_of_line ring)) i w.j e g) (same_edge (edges_of_line ring) w.j j w.f f h w.second hf)
        (subst (λ (g : Edge). Clash (length (edges_of_line ring)) i w.j g w.f) (same_edge (edges_of_line ring) i i w.e e refl w.first he) w.clash)))

pub later_meeting : (r s : List Position) (i j : ℕ) (e f : Edge) → slice_get (edges_of_line r) i ≡ Some e → slice_get (edges_of_line s) j ≡ Some f → (SharePoint e f → ⊥) → ((w : MeetsWith r s i) → w.j < j → ⊥) → (w : MeetsWith r s i) → w.j < j + 1 → ⊥
later_meeting r s i j e f he hf none before w l = go (earlier_or_last w.j j l)
  where
    go : (w.j < j) ⊎ (w.j ≡ j) → ⊥
    go (inl h) = before w h
    go (inr h) = none (subst (λ (g : Edge). SharePoint e g) (same_edge (edges_of_line s) w.j j w.f f h w.second hf) (subst (λ (g : Edge). SharePoint g w.f) (same_edge (edges_of_line r) i i w.e e refl w.first he) w.share))

pub next_clash : (ring : List Position) (i : ℕ) → (ClashesWith ring i → ⊥) → ((w : IsNotSimple ring) → w.i < i → ⊥) → (w : IsNotSimple ring) → w.i < i + 1 → ⊥
next_clash ring i none before w l = go (earlier_or_last w.i i l)
  where
    with_i : (k : ℕ) → w.i ≡ k → ClashesWith ring k
    with_i k h = subst (ClashesWith ring) h (record { j = w.j; e = w.e; f = w.f; later = w.later; first = w.first; second = w.second; clash = w.clash })

    go : (w.i < i) ⊎ (w.i ≡ i) → ⊥
    go (inl h) = before w h
    go (inr h) = none (with_i i h)

pub next_meeting : (r s : List Position) (i : ℕ) → (MeetsWith r s i → ⊥) → ((w : RingsShare r s) → w.i < i → ⊥) → (w : RingsShare r s) → w.i < i + 1 → ⊥
next_meeting r s i none before w l = go (earlier_or_last w.i i l)
  where
    with_i : (k : ℕ) → w.i ≡ k → MeetsWith r s k
    with_i k h = subst (MeetsWith r s) h (record { j = w.j; e = w.e; f = w.f; first = w.first; second = w.second; share = w.share })

    go : (w.i < i) ⊎ (w.i ≡ i) → ⊥
    go (inl h) = before w h
    go (inr h) = none (with_i i h)

-- the same of each of them by itself
pub none_earlier : (ring : List Position) (i : ℕ) → ((w : IsNotSimple ring) → w.i < i → ⊥) → (k : ℕ) → k < i → ClashesWith ring k → ⊥
none_earlier ring i before k h w = before (record { i = k; j = w.j; e = w.e; f = w.f; later = w.later; first = w.first; second = w.second; clash = w.clash }) h

pub none_met_earlier : (r s : List Position) (i : ℕ) → ((w : RingsShare r s) → w.i < i → ⊥) → (k : ℕ) → k < i → MeetsWith r s k → ⊥
none_met_earlier r s i before k h w = before (record { i = k; j = w.j; e = w.e; f = w.f; first = w.first; second = w.second; share = w.share }) h

-- all edges of a ring are before its number of edges
pub all_clashes : (ring : List Position) (i j : ℕ) → length (edges_of_line ring) ≤ j → ((w : ClashesWith ring i) → w.j < j → ⊥) → ClashesWith ring i → ⊥
all_clashes ring i j h before w = before w (omega (arith, h, slice_get_within (edges_of_line ring) w.j w.f w.second))

pub all_meetings : (r s : List Position) (i j : ℕ) → length (edges_of_line s) ≤ j → ((w : MeetsWith r s i) → w.j < j → ⊥) → MeetsWith r s i → ⊥
all_meetings r s i j h before w = before w (omega (arith, h, slice_get_within (edges_of_line s) w.j w.f w.second))

pub all_not_simple : (ring : List Position) (i : ℕ) → length (edges_of_line ring) ≤ i → ((w : IsNotSimple ring) → w.i < i → ⊥) → IsNotSimple ring → ⊥
all_not_simple ring i h before w = before w (omega (arith, h, slice_get_within (edges_of_line ring) w.i w.e w.first))

pub all_share : (r s : List Position) (i : ℕ) → length (edges_of_line r) ≤ i → ((w : RingsShare r s) → w.i < i → ⊥) → RingsShare r s → ⊥
all_share r s i h before w = before w (omega (arith, h, slice_get_within (edges_of_line r) w.i w.e w.first))
