-- Edges near an edge: those that aren't found pass no test that edges pass only where they share a point with it.
use Rattle.std.proofs.Common.{◌≡◌, refl, sym, ap, ◌∙◌, subst, ℕ, zero, suc, ◌+◌, ◌-◌, ◌<◌, ◌≤◌, Bool, true, false, not, ◌&&◌, ◌||◌, ◌==◌, if◌then◌else◌, cond, nat_le, List, [], ◌∷◌, map, drop, length, get_or, Option, Some, slice_get, arith, le-leb, leb-true}
use Rattle.std.specs.List.{list_any, enumerate_from}
use Rattle.std.proofs.lemmas.List.{length-map, drop_all}
use Rattle.std.proofs.lemmas.Option.{same_Some}
use Rattle.std.proofs.lemmas.Bool.{and_parts, lt-leb}
use Rattle.basics.proofs.Lists.{drop_here}
use Rattle.geometry_model.specs.Points.{Position, point_at}
use Rattle.geometry_model.specs.WellKnownText.{same_position}
use Rattle.geometry_model.specs.Geometries.{Edge}
use Rattle.geometry_model.specs.Sides.{on, side}
use Rattle.geometry_model.specs.FirstFaults.{share_point, share_other, clash, cross, opposite}
use Rattle.edge_boxes.specs.RunLaws.{box_of}
use Rattle.edge_boxes.specs.RingEdges.{edges_share}
use Rattle.edge_boxes.proofs.Runs.{any_either, any_none}
use Rattle.edge_boxes.specs.Sharings.{places_asked, places_sharing}
use Rattle.edge_boxes.specs.NearRings.{is_near, numbered_from, numbered_sharing}

-- ---- the places, and the edges there
-- the places of the edges that are numbered as near are those that a search of the boxes gives
pub places_of : (asked : Edge) (from : ℕ) (n : ℕ) (es : List Edge) → map (λ (p : ℕ × Edge). p.0) (numbered_from asked from n es) ≡ places_asked (record { edge = asked; bounds = box_of asked; from = from }) n es
places_of asked from n [] = refl
places_of asked from n (e ∷ es) = go (is_near asked from n e) (numbered_from asked from (suc n) es) (places_asked (record { edge = asked; bounds = box_of asked; from = from }) (suc n) es) (places_of asked from (suc n) es)
  where
    go : (b : Bool) (pairs : List (ℕ × Edge)) (places : List ℕ) → map (λ (p : ℕ × Edge). p.0) pairs ≡ places → map (λ (p : ℕ × Edge). p.0) (cond b ((n, e) ∷ pairs) pairs) ≡ cond b (n ∷ places) places
    go true pairs places h = ap (λ l. n ∷ l) h
    go false pairs places h = h

-- an edge that is asked for is at its place
pub record IsAskedAt (asked : Edge) (from : ℕ) (n : ℕ) (es : List Edge) (j : ℕ) (f : Edge) : Type 0 where
  pub not_before : n ≤ j
  pub applies : slice_get es (j - n) ≡ Some f
  pub asked_for : is_near asked from j f ≡ true

-- what is in the rest is one place later in the whole
one_later : (asked : Edge) (from : ℕ) (n : ℕ) (e : Edge) (es : List Edge) (j : ℕ) (f : Edge) → IsAskedAt asked from (suc n) es j f → IsAskedAt asked from n (e ∷ es) j f
one_later asked from n e es j f h = let later = h.not_before in record {
  not_before = omega (arith, later);
  applies = let less : j - n ≡ suc (j - suc n) = omega (arith, later) in ap (slice_get (e ∷ es)) less ∙ h.applies;
  asked_for = h.asked_for;
}

same_pair : (a b : ℕ) (x y : Edge) (p q : ℕ × Edge) → p ≡ (a, x) → q ≡ (b, y) → Some p ≡ Some q → (a ≡ b) × (x ≡ y)
same_pair a b x y p q e f h = let s = sym e ∙ (same_Some p q h ∙ f) in (ap (λ (r : ℕ × Edge). r.0) s, ap (λ (r : ℕ × Edge). r.1) s)

-- each edge that is numbered as near lies at its number, isn't too early, and shares a point with the one asked about
pub asked_at : (asked : Edge) (from : ℕ) (n : ℕ) (es : List Edge) (k j : ℕ) (f : Edge) → slice_get (numbered_from asked from n es) k ≡ Some (j, f) → IsAskedAt asked from n es j f
asked_at asked from n [] k j f h = absurd cc
asked_at asked from n (e ∷ es) k j f h = go (is_near asked from n e) refl k h (λ l. asked_at asked from (suc n) es l j f)
  where
    go : (b : Bool) → is_near asked from n e ≡ b → (k : ℕ) → slice_get (cond b ((n, e) ∷ numbered_from asked from (suc n) es) (numbered_from asked from (suc n) es)) k ≡ Some (j, f)
        → ((l : ℕ) → slice_get (numbered_from asked from (suc n) es) l ≡ Some (j, f) → IsAskedAt asked from (suc n) es j f) → IsAskedAt asked from n (e ∷ es) j f
    go true is zero h rest = let s = same_pair n j e f (n, e) (j, f) refl refl h in
        record {
          not_before = omega (arith, s.0);
          applies = let none : j - n ≡ 0 = omega (arith, s.0) in ap (slice_get (e ∷ es)) none ∙ ap Some s.1;
          asked_for = subst (λ m. is_near asked from m f ≡ true) s.0 (subst (λ d. is_near asked from n d ≡ true) s.1 is);
        }
    go true is (suc k) h rest = one_later asked from n e es j f (rest k h)
    go false is k h rest = one_later asked from n e es j f (rest k h)

-- ---- the tests
-- an edge that comes late enough and still isn't near shares no point with the one asked about
near_asked : (asked : Edge) (from : ℕ) (n : ℕ) (e : Edge) → from ≤ n → is_near asked from n e ≡ false → share_point asked e ≡ false
near_asked asked from n e h far = go (nat_le from n) (share_point asked e) (le-leb from n h) far
  where
    go : (a b : Bool) → a ≡ true → a && b ≡ false → b ≡ false
    go true b e f = f
    go false b e f = absurd cc

-- a test that passes only edges that share a point with one needs to be tried on the near edges alone
any_asked : (test : (ℕ × Edge) → Bool) (asked : Edge) (from : ℕ) (n : ℕ) (es : List Edge) → from ≤ n → ((j : ℕ) (e : Edge) → test (j, e) ≡ true → share_point asked e ≡ true)
    → list_any test (enumerate_from n es) ≡ list_any test (numbered_from asked from n es)
any_asked test asked from n [] h near = refl
any_asked test asked from n (e ∷ es) h near =
    let one : n + 1 ≡ suc n = omega arith in
    ap (λ m. test (n, e) || list_any test (enumerate_from m es)) one
    ∙ go (is_near asked from n e) refl (test (n, e)) refl (any_asked test asked from (suc n) es (omega (arith, h)) near)
  where
    go : (b : Bool) → is_near asked from n e ≡ b → (t : Bool) → test (n, e) ≡ t → list_any test (enumerate_from (suc n) es) ≡ list_any test (numbered_from asked from (suc n) es)
        → test (n, e) || list_any test (enumerate_from (suc n) es) ≡ list_any test (cond b ((n, e) ∷ numbered_from asked from (suc n) es) (numbered_from asked from (suc n) es))
    go true is t passes rest = ap (λ (b : Bool). test (n, e) || b) rest
    go false is true passes rest = absurd (let no : false ≡ true = sym (near_asked asked from n e h is) ∙ near n e passes in cc)
    go false is false passes rest = ap (λ (b : Bool). b || list_any test (enumerate_from (suc n) es)) passes ∙ rest

-- what comes before the first place asked for isn't asked for
passed : (asked : Edge) (from : ℕ) (n m : ℕ) (es : List Edge) → n + m ≤ from → numbered_from asked from n es ≡ numbered_from asked from (n + m) (drop m es)
passed asked from n zero es h = let e : n ≡ n + 0 = omega arith in ap (λ k. numbered_from asked from k es) e
passed asked from n (suc m) [] h = refl
passed asked from n (suc m) (e ∷ es) h =
    let next : suc n + m ≡ n + suc m = omega arith in
    ap (λ (b : Bool). cond (b && share_point asked e) ((n, e) ∷ numbered_from asked from (suc n) es) (numbered_from asked from (suc n) es)) (lt-leb from n (omega (arith, h)))
    ∙ passed asked from (suc n) m es (omega (arith, h)) ∙ ap (λ k. numbered_from asked from k (drop m es)) next

-- the same from a place on: what comes before it isn't asked for and isn't tried either
pub any_after : (test : (ℕ × Edge) → Bool) (asked : Edge) (from : ℕ) (edges : List Edge) → ((j : ℕ) (e : Edge) → test (j, e) ≡ true → share_point asked e ≡ true)
    → list_any test (enumerate_from from (drop from edges)) ≡ list_any test (numbered_sharing asked from edges)
any_after test asked from edges near =
    let none : 0 + from ≡ from = omega arith in
    any_asked test asked from from (drop from edges) (omega arith) near
    ∙ ap (list_any test) (sym (passed asked from 0 from edges (omega arith) ∙ ap (λ k. numbered_from asked from k (drop from edges)) none))

-- one more of the others
pub share_more : (edges : List Edge) (f : Edge) (others : List Edge) → edges_share edges (f ∷ others) ≡ (list_any (λ e. share_point e f) edges || edges_share edges others)
share_more edges f others = any_either (λ e. share_point e f) (λ e. list_any (share_point e) others) edges

-- no edge shares a point with an edge of an empty list
pub share_none : (edges : List Edge) → edges_share edges [] ≡ false
share_none edges = any_none edges

-- ---- one of the places after another
-- a place that was found comes with the edge that lies there
mapped_place : (pairs : List (ℕ × Edge)) (k d : ℕ) → k < length (map (λ (p : ℕ × Edge). p.0) pairs) → (f : Edge) × (slice_get pairs k ≡ Some (get_or (map (λ (p : ℕ × Edge). p.0) pairs) k d, f))
mapped_place [] k d h = absurd (omega (arith, h))
mapped_place (p ∷ pairs) zero d h = (p.1, refl)
mapped_place (p ∷ pairs) (suc k) d h = mapped_place pairs k d (omega (arith, h))

is_there : (es : List Edge) (j : ℕ) (f : Edge) → slice_get es j ≡ Some f → j < length es
is_there [] j f h = absurd cc
is_there (e ∷ es) zero f h = omega arith
is_there (e ∷ es) (suc j) f h = let k = is_there es j f h in omega (arith, k)

-- the edge at the next place found, and what is left
pub record IsNext (asked : Edge) (from : ℕ) (edges : List Edge) (k j : ℕ) : Type 0 where
  pub edge : Edge
  pub rest : drop k (numbered_sharing asked from edges) ≡ (j, edge) ∷ drop (k + 1) (numbered_sharing asked from edges)
  pub applies : slice_get edges j ≡ Some edge
  pub within : j < length edges
  pub later : from ≤ j

-- each place that the search of the boxes gives is that of an edge: it is near, and the rest follows it
pub next_found : (asked : Edge) (from : ℕ) (edges : List Edge) (near : List ℕ) (k n : ℕ) → near ≡ places_sharing asked from edges → k < length near
    → IsNext asked from edges k (get_or near k n)
next_found asked from edges near k n is within =
    let pairs = numbered_sharing asked from edges in
    let same : near ≡ map (λ (p : ℕ × Edge). p.0) pairs = is ∙ sym (places_of asked from 0 edges) in
    let m = mapped_place pairs k n (subst (λ (l : List ℕ). k < length l) same within) in
    let j = get_or (map (λ (p : ℕ × Edge). p.0) pairs) k n in
    let at = asked_at asked from 0 edges k j m.0 m.1 in
    let none : j - 0 ≡ j = omega arith in
    let applies : slice_get edges j ≡ Some m.0 = ap (slice_get edges) (sym none) ∙ at.applies in
    subst (λ (l : List ℕ). IsNext asked from edges k (get_or l k n)) (sym same) record {
      edge = m.0;
      rest = drop_here pairs k (j, m.0) m.1;
      applies = applies;
      within = is_there edges j m.0 applies;
      later = leb-true from j ((and_parts (nat_le from j) (share_point asked m.0) at.asked_for).0);
    }

same_edge : (o : Option Edge) (e f : Edge) → o ≡ Some e → o ≡ Some f → e ≡ f
same_edge o e f g h = let s : Some e ≡ Some f = sym g ∙ h in cc

-- what the next one says
pub found_next : (test : (ℕ × Edge) → Bool) (asked : Edge) (from : ℕ) (edges : List Edge) (k j : ℕ) (f : Edge) → IsNext asked from edges k j → slice_get edges j ≡ Some f
    → test (j, f) ≡ true → list_any test (drop k (numbered_sharing asked from edges)) ≡ true
found_next test asked from edges k j f next applies passes = ap (list_any test) next.rest
    ∙ ap (λ (b : Bool). b || list_any test (drop (k + 1) (numbered_sharing asked from edges))) (ap (λ (e : Edge). test (j, e)) (same_edge (slice_get edges j) next.edge f next.applies applies) ∙ passes)

-- .. and where it doesn't, the near edges behind it are left to be tried
pub passed_next : (test : (ℕ × Edge) → Bool) (asked : Edge) (from : ℕ) (edges : List Edge) (k j : ℕ) (f : Edge) → IsNext asked from edges k j → slice_get edges j ≡ Some f
    → test (j, f) ≡ false → list_any test (drop k (numbered_sharing asked from edges)) ≡ list_any test (drop (k + 1) (numbered_sharing asked from edges))
passed_next test asked from edges k j f next applies fails = ap (list_any test) next.rest
    ∙ ap (λ (b : Bool). b || list_any test (drop (k + 1) (numbered_sharing asked from edges))) (ap (λ (e : Edge). test (j, e)) (same_edge (slice_get edges j) next.edge f next.applies applies) ∙ fails)

-- no place is left
pub none_left : (test : (ℕ × Edge) → Bool) (asked : Edge) (from : ℕ) (edges : List Edge) (near : List ℕ) (k : ℕ) → near ≡ places_sharing asked from edges → length near ≤ k
    → list_any test (drop k (numbered_sharing asked from edges)) ≡ false
none_left test asked from edges near k is past =
    let same : near ≡ map (λ (p : ℕ × Edge). p.0) (numbered_sharing asked from edges) = is ∙ sym (places_of asked from 0 edges) in
    ap (list_any test) (drop_all k (numbered_sharing asked from edges) (omega (arith, ap (length {A = ℕ}) same, length-map (numbered_sharing asked from edges) (λ (p : ℕ × Edge). p.0), past)))

-- ---- edges that clash share a point
-- two edges share a point whichever comes first
share_turned : (e f : Edge) → share_point e f ≡ share_point f e
share_turned e f = go (on e (point_at f.start)) (on e (point_at f.end)) (on f (point_at e.start)) (on f (point_at e.end))
    (opposite (side e.start e.end (point_at f.start)) (side e.start e.end (point_at f.end))) (opposite (side f.start f.end (point_at e.start)) (side f.start f.end (point_at e.end)))
  where
    go : (a b c d p q : Bool) → (a || b || c || d || (p && q)) ≡ (c || d || a || b || (q && p))
    go a b c d p q = grind arith

-- another shared end is a shared point
other_shared : (common : Position) (e f : Edge) → share_other common e f ≡ true → share_point e f ≡ true
other_shared common e f h = go (on e (point_at f.start)) (on e (point_at f.end)) (on f (point_at e.start)) (on f (point_at e.end)) (cross e f)
    (not (same_position f.start common)) (not (same_position f.end common)) (not (same_position e.start common)) (not (same_position e.end common)) h
  where
    go : (a b c d x p q r s : Bool) → ((a && p) || (b && q) || (c && r) || (d && s)) ≡ true → (a || b || c || d || x) ≡ true
    go a b c d x p q r s h = grind (arith, h)

-- edges of a ring that clash share a point, neighbours too
pub clashing_share : (n i j : ℕ) (e f : Edge) → clash n (i, e) (j, f) ≡ true → share_point e f ≡ true
clashing_share n i j e f h = go (j == i + 1) (i == 0 && j + 1 == n) h
  where
    go : (a b : Bool) → (if a then share_other e.end e f else if b then share_other e.start e f else share_point e f) ≡ true → share_point e f ≡ true
    go true b h = other_shared e.end e f h
    go false true h = other_shared e.start e f h
    go false false h = h

-- ---- one edge
-- an edge shares a point with one of those behind a place where its search finds a place there
found_some : (f : Edge) (n : ℕ) (es : List Edge) → list_any (λ e. share_point e f) es ≡ not (length (places_asked (record { edge = f; bounds = box_of f; from = 0 }) n es) == 0)
found_some f n [] = refl
found_some f n (e ∷ es) =
    ap (λ (b : Bool). b || list_any (λ d. share_point d f) es) (share_turned e f)
    ∙ go (nat_le 0 n) (share_point f e) (places_asked (record { edge = f; bounds = box_of f; from = 0 }) (suc n) es) (least n) (found_some f (suc n) es)
  where
    least : (m : ℕ) → nat_le 0 m ≡ true
    least m = grind arith

    some : (k : ℕ) → not (suc k == 0) ≡ true
    some k = grind arith

    go : (a b : Bool) (places : List ℕ) → a ≡ true → list_any (λ d. share_point d f) es ≡ not (length places == 0) → (b || list_any (λ d. share_point d f) es) ≡ not (length (cond (a && b) (n ∷ places) places) == 0)
    go true true places h rest = sym (some (length places))
    go true false places h rest = rest
    go false b places h rest = absurd cc

-- it shares a point with one of the edges exactly where its search finds a place
pub shares_where_found : (f : Edge) (edges : List Edge) (found : List ℕ) → found ≡ places_sharing f 0 edges → list_any (λ e. share_point e f) edges ≡ not (length found == 0)
shares_where_found f edges found is = found_some f 0 edges ∙ ap (λ (l : List ℕ). not (length l == 0)) (sym is)
