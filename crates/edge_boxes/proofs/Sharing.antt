-- The places of edges asked for, found from the last one to the first.
use Rattle.std.proofs.Common.{ℕ, zero, suc, ◌+◌, ◌-◌, ◌<◌, ◌≤◌, ◌≡◌, Bool, true, false, ◌&&◌, cond, List, [], ◌∷◌, ◌++◌, length, drop, take, get_or, drop-cons, append_assoc, append-nil, reverse, refl, sym, ap, ap₂, ◌∙◌, subst, arith, add-zero}
use Rattle.std.specs.Prelude.{slice_range, nat_le}
use Rattle.std.specs.List.{list_any}
use Rattle.std.proofs.lemmas.List.{take-append-drop, reverse-append}
use Rattle.std.proofs.lemmas.Bool.{lt-leb, and_right, or_parts}
use Rattle.std.proofs.lemmas.List.Folds.{drop_split}
use Rattle.geometry_model.specs.Geometries.{Edge}
use Rattle.geometry_model.specs.Envelopes.{overlap}
use Rattle.geometry_model.specs.FirstFaults.{share_point}
use Rattle.edge_boxes.specs.RunLaws.{box_of}
use Rattle.edge_boxes.proofs.OverlappingBoxes.{sharing_boxes_overlap}
use Rattle.edge_boxes.specs.BoxLists.{covered, AreBoxes}
use Rattle.edge_boxes.specs.OneLine.{SharesNone}
use Rattle.edge_boxes.specs.Sharings.{is_asked, places_asked, IsAskedStep}
use Rattle.edge_boxes.specs.declared.boxes.EdgeBox.{EdgeBox}
use Rattle.edge_boxes.proofs.BoxFacts.{rest_is, run_counted, found_before, covered_before}
use Rattle.edge_boxes.proofs.Steps.{box_before, leaf_ordered, inner_covered}
use Rattle.edge_boxes.specs.declared.sharing_edges.Asked.{Asked}

-- ---- two lists, one behind the other
-- the places asked for in two lists are those in the first, and those in the second counted on from its length
places_joined : (asked : Asked) (n : ℕ) (xs ys : List Edge) → places_asked asked n (xs ++ ys) ≡ places_asked asked n xs ++ places_asked asked (n + length xs) ys
places_joined asked n [] ys = let e : n ≡ n + 0 = omega arith in ap (λ m. places_asked asked m ys) e
places_joined asked n (x ∷ xs) ys =
    let e : suc n + length xs ≡ n + suc (length xs) = omega arith in
    go (is_asked asked n x) (places_asked asked (suc n) (xs ++ ys)) (places_asked asked (suc n) xs) (places_asked asked (n + suc (length xs)) ys) (places_joined asked (suc n) xs ys ∙ ap (λ m. places_asked asked (suc n) xs ++ places_asked asked m ys) e)
  where
    go : (b : Bool) (whole own rest : List ℕ) → whole ≡ own ++ rest → cond b (n ∷ whole) whole ≡ cond b (n ∷ own) own ++ rest
    go true whole own rest e = ap (λ l. n ∷ l) e
    go false whole own rest e = e

-- ---- none asked for
-- edges whose rectangles don't overlap share no point
pub apart : (e f : Edge) → overlap (box_of e) (box_of f) ≡ false → share_point e f ≡ false
apart e f far = go (share_point e f) refl
  where
    go : (b : Bool) → share_point e f ≡ b → share_point e f ≡ false
    go true h = absurd (let y : true ≡ false = sym (sharing_boxes_overlap e f h) ∙ far in cc)
    go false h = h

-- among edges none of which shares a point with the one asked about no edge is asked for
pub none_asked : (asked : Asked) (n : ℕ) (es : List Edge) → list_any (share_point asked.edge) es ≡ false → places_asked asked n es ≡ []
none_asked asked n [] far = refl
none_asked asked n (e ∷ es) far =
    let parts = or_parts (share_point asked.edge e) (list_any (share_point asked.edge) es) far in
    ap (λ (t : Bool). cond t (n ∷ places_asked asked (suc n) es) (places_asked asked (suc n) es)) (and_right (nat_le asked.from n) (share_point asked.edge e) parts.0)
    ∙ none_asked asked (suc n) es parts.1

-- before the first place asked for no edge is asked for
none_before : (asked : Asked) (n : ℕ) (es : List Edge) → n + length es ≤ asked.from → places_asked asked n es ≡ []
none_before asked n [] h = refl
none_before asked n (e ∷ es) h =
    ap (λ (t : Bool). cond (t && share_point asked.edge e) (n ∷ places_asked asked (suc n) es) (places_asked asked (suc n) es)) (lt-leb asked.from n (omega (arith, h)))
    ∙ none_before asked (suc n) es (omega (arith, h))

-- ---- one edge before
reversed : (b : Bool) (n : ℕ) (l : List ℕ) → reverse (cond b (n ∷ l) l) ≡ reverse l ++ cond b (n ∷ []) []
reversed true n l = reverse-append (n ∷ []) l
reversed false n l = sym (append-nil (reverse l))

-- the edges from a place up to an end are the edge there and those after it
pub edge_before : (edges : List Edge) (at end : ℕ) (e : Edge) → at < end → end ≤ length edges → e ≡ get_or edges at e → slice_range edges at end ≡ e ∷ slice_range edges (suc at) end
edge_before edges at end e h k is =
    let less : end - at ≡ suc (end - suc at) = omega (arith, h) in
    ap (λ n. take n (drop at edges)) less ∙ ap (take (suc (end - suc at))) (drop-cons edges at e (omega (arith, h, k)) ∙ ap (λ x. x ∷ drop (suc at) edges) (sym is))

-- edges are looked at from the last one back: the place of the next one comes behind those found, where it is asked for
pub found_before_end : (asked : Asked) (edges : List Edge) (at end : ℕ) (e : Edge) (passes : Bool) (start old new : List ℕ) → 0 < at → at ≤ end → end ≤ length edges → e ≡ get_or edges (at - 1) e
    → passes ≡ is_asked asked (at - 1) e → new ≡ old ++ cond passes ((at - 1) ∷ []) [] → old ≡ start ++ reverse (places_asked asked at (slice_range edges at end))
    → new ≡ start ++ reverse (places_asked asked (at - 1) (slice_range edges (at - 1) end))
found_before_end asked edges zero end e passes start old new p h k is test grew before = absurd (omega (arith, p))
found_before_end asked edges (suc i) end e passes start old new p h k is test grew before =
    let less : suc i - 1 ≡ i = omega arith in
    subst (λ n. e ≡ get_or edges n e → passes ≡ is_asked asked n e → new ≡ old ++ cond passes (n ∷ []) [] → new ≡ start ++ reverse (places_asked asked n (slice_range edges n end))) (sym less)
    (λ is' test' grew'. grew' ∙ ap₂ (λ l (t : Bool). l ++ cond t (i ∷ []) []) before test'
    ∙ append_assoc start (reverse (places_asked asked (suc i) (slice_range edges (suc i) end))) (cond (is_asked asked i e) (i ∷ []) [])
    ∙ ap (λ l. start ++ l) (sym (reversed (is_asked asked i e) i (places_asked asked (suc i) (slice_range edges (suc i) end)))
    ∙ ap (λ l. reverse (places_asked asked i l)) (sym (edge_before edges i end e (omega (arith, h)) k is')))) is test grew

-- ---- a whole walk
-- the places in edges that come before those done so far go behind what was found, so all are descending
pub found_joined : (asked : Asked) (n m : ℕ) (own rest : List Edge) (start old new : List ℕ) → n + length own ≡ m → old ≡ start ++ reverse (places_asked asked m rest) → new ≡ old ++ reverse (places_asked asked n own)
    → new ≡ start ++ reverse (places_asked asked n (own ++ rest))
found_joined asked n m own rest start old new count before grew =
    grew ∙ ap (λ l. l ++ reverse (places_asked asked n own)) before ∙ append_assoc start (reverse (places_asked asked m rest)) (reverse (places_asked asked n own))
    ∙ ap (λ l. start ++ l) (sym (ap reverse (places_joined asked n own rest ∙ ap (λ k. places_asked asked n own ++ places_asked asked k rest) count) ∙ reverse-append (places_asked asked n own) (places_asked asked m rest)))

-- what comes before the first one asked for adds nothing
pub rest_found : (asked : Asked) (edges : List Edge) (n : ℕ) → n ≤ asked.from → n ≤ length edges → places_asked asked n (drop n edges) ≡ places_asked asked 0 edges
rest_found asked edges n h k =
    let taken : length (take n edges) ≡ n = short edges n k in
    let counted : 0 + length (take n edges) ≡ n = omega (arith, taken) in
    sym (ap (places_asked asked 0) (sym (take-append-drop n edges)) ∙ places_joined asked 0 (take n edges) (drop n edges)
    ∙ ap₂ (λ l m. l ++ places_asked asked m (drop n edges)) (none_before asked 0 (take n edges) (omega (arith, counted, h))) counted)
  where
    short : (es : List Edge) (n : ℕ) → n ≤ length es → length (take n es) ≡ n
    short es zero h = refl
    short [] (suc n) h = absurd (omega (arith, h))
    short (e ∷ es) (suc n) h = ap suc (short es n (omega (arith, h)))

-- ---- steps
-- a box none of whose edges shares a point with the one asked about is passed over with its subtree, and adds no place
pub skip_step : (boxes : List EdgeBox) (edges : List Edge) (asked : Asked) (place : ℕ) (b : EdgeBox) (old : List ℕ) → AreBoxes boxes edges → 0 < place → place ≤ length boxes → b ≡ get_or boxes (place - 1) b
    → SharesNone b.run asked.edge → IsAskedStep boxes edges asked place (place - 1 - b.size) old old
skip_step boxes edges asked place b old are h k is far =
    let box = box_before boxes edges place b are h k is in
    let e = covered_before boxes place b h (found_before boxes place b h k is) in
    record {
      earlier = omega (arith, h);
      own = box.run.own;
      split = box.run.split ∙ ap (λ n. box.run.own ++ drop n edges) (sym e);
      count = run_counted edges box.run.own (covered boxes (place - 1 - b.size)) b.end box.run.split box.run.ordered box.run.within ∙ sym e;
      found = sym (ap (λ l. old ++ reverse l) (none_asked asked (covered boxes (place - 1 - b.size)) box.run.own (far box.run.own box.run.sums)) ∙ append-nil old);
    }

-- a leaf adds the places asked for among its own edges
pub leaf_asked : (boxes : List EdgeBox) (edges : List Edge) (asked : Asked) (place : ℕ) (b : EdgeBox) (old new : List ℕ) → AreBoxes boxes edges → 0 < place → place ≤ length boxes → b ≡ get_or boxes (place - 1) b → b.size ≡ 0
    → new ≡ old ++ reverse (places_asked asked (covered boxes (place - 1)) (slice_range edges (covered boxes (place - 1)) b.end)) → IsAskedStep boxes edges asked place (place - 1) old new
leaf_asked boxes edges asked place b old new are h k is leaf grew =
    let box = box_before boxes edges place b are h k is in
    let e = covered_before boxes place b h (found_before boxes place b h k is) in
    let split = drop_split edges (covered boxes (place - 1)) b.end (leaf_ordered boxes edges place b are h k is leaf) in
    record {
      earlier = omega (arith, h);
      own = slice_range edges (covered boxes (place - 1)) b.end;
      split = split ∙ ap (λ n. slice_range edges (covered boxes (place - 1)) b.end ++ drop n edges) (sym e);
      count = run_counted edges (slice_range edges (covered boxes (place - 1)) b.end) (covered boxes (place - 1)) b.end split (leaf_ordered boxes edges place b are h k is leaf) box.run.within ∙ sym e;
      found = grew;
    }

-- a box that is entered adds nothing itself, since the boxes before it go over the same edges
pub inner_asked : (boxes : List EdgeBox) (edges : List Edge) (asked : Asked) (place : ℕ) (b : EdgeBox) (old : List ℕ) → AreBoxes boxes edges → 0 < place → place ≤ length boxes → b ≡ get_or boxes (place - 1) b → (b.size ≡ 0 → ⊥)
    → IsAskedStep boxes edges asked place (place - 1) old old
inner_asked boxes edges asked place b old are h k is inner =
    let same = inner_covered boxes edges place b are h k is inner in
    record {
      earlier = omega (arith, h);
      own = [];
      split = ap (λ n. drop n edges) same;
      count = add-zero (covered boxes (place - 1)) ∙ same;
      found = sym (append-nil old);
    }

-- after a step, what was found are the places asked for among all edges from there on
pub asked_joined : (boxes : List EdgeBox) (edges : List Edge) (asked : Asked) (place next : ℕ) (start old new : List ℕ) → IsAskedStep boxes edges asked place next old new
    → old ≡ start ++ reverse (places_asked asked (covered boxes place) (drop (covered boxes place) edges)) → new ≡ start ++ reverse (places_asked asked (covered boxes next) (drop (covered boxes next) edges))
asked_joined boxes edges asked place next start old new s before =
    found_joined asked (covered boxes next) (covered boxes place) s.own (drop (covered boxes place) edges) start old new s.count before s.found
    ∙ ap (λ l. start ++ reverse (places_asked asked (covered boxes next) l)) (sym s.split)

-- the edges behind all boxes give the places asked for among them
pub asked_uncovered : (asked : Asked) (edges : List Edge) (n m : ℕ) (start new : List ℕ) → n ≡ m → m ≤ length edges → new ≡ start ++ reverse (places_asked asked n (slice_range edges n (length edges)))
    → new ≡ start ++ reverse (places_asked asked m (drop m edges))
asked_uncovered asked edges n m start new e h grew =
    grew ∙ ap (λ k. start ++ reverse (places_asked asked k (slice_range edges k (length edges)))) e ∙ ap (λ l. start ++ reverse (places_asked asked m l)) (rest_is edges m h)
