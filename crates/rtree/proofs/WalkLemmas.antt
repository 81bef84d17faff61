-- What a search finds below the nodes of a level.
use Rattle.std.proofs.Common.{◌≡◌, ◌∙◌, ◌<◌, ◌≤◌, ◌+◌, ◌-◌, ◌*◌, min, ℕ, zero, suc, ℤ, ◌≤ℤ◌, int_le, Bool, true, false, cond, List, [], ◌∷◌, ◌++◌, map, length, take, drop, get_or, Option, Some, None, ap, refl, sym, subst, arith, append_assoc, append-nil}
use Rattle.std.specs.Prelude.{filter, flat_map}
use Rattle.std.specs.Int.{div_ceil, int_min, int_max}
use Rattle.std.specs.List.{zip}
use Rattle.std.proofs.lemmas.Grind.{flat_map-append}
use Rattle.std.proofs.lemmas.Int.{ints, clamps}
use Rattle.std.proofs.lemmas.List.{get_or-drop, get_or-take, get_or_default, length-drop, length-map, length-take-le, map-append, take_more}
use Rattle.std.proofs.lemmas.List.Elements.{filter-append}
use Rattle.std.proofs.lemmas.List.FromFn.{get_or-map-range_with_len}
use Rattle.std.proofs.lemmas.Slice.Zip.{get_or-zip, length-zip}
use Rattle.std.proofs.lemmas.Bool.{false_from_ne_true}
use Rattle.basics.proofs.Signs.{at_most_from, at_most_yes}
use Rattle.basics.proofs.Orders.{max_first, min_first, still_at_most}
use Rattle.basics.proofs.Bools.{four_from, four_parts}
use Rattle.geometry_model.specs.Envelopes.{Envelope, joined, overlap}
use Rattle.rtree.specs.Joins.{with_envelope}
use Rattle.rtree.specs.Packing.{Entry, around, eights, nodes_over}
use Rattle.rtree.specs.Trees.{AreLevels, entries_of, found_below, groups_at, level_at, places_found, singles}
use Rattle.rtree.proofs.GroupLemmas.{group_is, length-eights, same_length}

-- ---- an envelope that meets what one below it meets

-- an upper bound that moves up stays above all that it was above
higher : (m x g : ℤ) → x ≤ℤ m → int_le g x ≡ true → int_le g m ≡ true
higher m x g h k = let r = at_most_from g x k in at_most_yes g m (omega (arith, ints, h, r))

-- an envelope round another meets all that this one meets
wider : (e f a : Envelope) → f.least_x ≤ℤ e.least_x → e.greatest_x ≤ℤ f.greatest_x → f.least_y ≤ℤ e.least_y → e.greatest_y ≤ℤ f.greatest_y
    → overlap e a ≡ true → overlap f a ≡ true
wider e f a left right low high h =
    let parts = four_parts (int_le e.least_x a.greatest_x) (int_le a.least_x e.greatest_x) (int_le e.least_y a.greatest_y) (int_le a.least_y e.greatest_y) h in
    four_from _ _ _ _ (still_at_most f.least_x e.least_x a.greatest_x left parts.0) (higher f.greatest_x e.greatest_x a.least_x right parts.1)
    (still_at_most f.least_y e.least_y a.greatest_y low parts.2) (higher f.greatest_y e.greatest_y a.least_y high parts.3)

min_second : (a b : ℤ) → int_min a b ≤ℤ b
min_second a b = omega (arith, ints, clamps)

max_second : (a b : ℤ) → b ≤ℤ int_max a b
max_second a b = omega (arith, ints, clamps)

-- what is apart from both joined is apart from each
first_apart : (e f a : Envelope) → overlap (joined e f) a ≡ false → overlap e a ≡ false
first_apart e f a far =
    false_from_ne_true (overlap e a) (λ h. let y : true ≡ false = sym (wider e (joined e f) a (min_first e.least_x f.least_x) (max_first e.greatest_x f.greatest_x) (min_first e.least_y f.least_y) (max_first e.greatest_y f.greatest_y) h) ∙ far in cc)

second_apart : (e f a : Envelope) → overlap (joined e f) a ≡ false → overlap f a ≡ false
second_apart e f a far =
    false_from_ne_true (overlap f a) (λ h. let y : true ≡ false = sym (wider f (joined e f) a (min_second e.least_x f.least_x) (max_second e.greatest_x f.greatest_x) (min_second e.least_y f.least_y) (max_second e.greatest_y f.greatest_y) h) ∙ far in cc)

-- entries without an envelope round them are none
empty : (es : List Entry) → around es ≡ None → es ≡ []
empty [] n = refl
empty (y ∷ es) n = cc

-- nothing is found below a node whose envelope is apart
pub none_found : (asked e : Envelope) (node : List Entry) → Some e ≡ around node → overlap e asked ≡ false → places_found asked node ≡ []
none_found asked e [] h far = refl
none_found asked e (x ∷ rest) h far = go (around rest) refl (λ f is apart. none_found asked f rest is apart)
  where
    found_rest : Bool → List ℕ
    found_rest b = map (λ (n : Entry). n.0) (cond b (x ∷ filter (λ (n : Entry). overlap n.1 asked) rest) (filter (λ (n : Entry). overlap n.1 asked) rest))

    go : (r : Option Envelope) → around rest ≡ r → ((f : Envelope) → Some f ≡ around rest → overlap f asked ≡ false → places_found asked rest ≡ [])
        → places_found asked (x ∷ rest) ≡ []
    go None is more =
        let whole : Some e ≡ Some x.1 = h ∙ ap (λ (r : Option Envelope). Some (with_envelope x.1 r)) is in
        let same : e ≡ x.1 = cc in
        ap found_rest (ap (λ (z : Envelope). overlap z asked) (sym same) ∙ far) ∙ ap (places_found asked) (empty rest is)
    go (Some f) is more =
        let whole : Some e ≡ Some (joined x.1 f) = h ∙ ap (λ (r : Option Envelope). Some (with_envelope x.1 r)) is in
        let same : e ≡ joined x.1 f = cc in
        let apart : overlap (joined x.1 f) asked ≡ false = ap (λ (z : Envelope). overlap z asked) (sym same) ∙ far in
        ap found_rest (first_apart x.1 f asked apart) ∙ more f (sym is) (second_apart x.1 f asked apart)

-- ---- node by node

-- what is found among two groups together is found in the one, then in the other
pub found-append : (asked : Envelope) (es fs : List Entry) → places_found asked (es ++ fs) ≡ places_found asked es ++ places_found asked fs
found-append asked es fs =
    ap (map (λ e. e.0)) (filter-append (λ e. overlap e.1 asked) es fs) ∙ map-append (λ e. e.0) (filter (λ e. overlap e.1 asked) es) (filter (λ e. overlap e.1 asked) fs)

-- one node more
pub walk_more : (asked : Envelope) (groups : List (List Entry)) (first node : ℕ) (start old new : List ℕ) → first ≤ node → node < length groups
    → new ≡ old ++ places_found asked (get_or groups node [])
    → old ≡ start ++ places_found asked (flat_map (λ n. n) (take (node - first) (drop first groups)))
    → new ≡ start ++ places_found asked (flat_map (λ n. n) (take (node + 1 - first) (drop first groups)))
walk_more asked groups first node start old new after within grew before =
    let rest = length-drop first groups in
    let count : node + 1 - first ≡ node - first + 1 = omega arith in
    let back : first + (node - first) ≡ node = omega arith in
    let more : take (node - first + 1) (drop first groups) ≡ take (node - first) (drop first groups) ++ get_or groups node [] ∷ [] =
    take_more (drop first groups) (node - first) [] (omega (arith, rest))
    ∙ ap (λ g. take (node - first) (drop first groups) ++ g ∷ []) (get_or-drop first groups (node - first) [] ∙ ap (λ n. get_or groups n []) back) in
    let flat : flat_map (λ n. n) (take (node + 1 - first) (drop first groups)) ≡ flat_map (λ n. n) (take (node - first) (drop first groups)) ++ get_or groups node [] =
    ap (λ n. flat_map (λ g. g) (take n (drop first groups))) count ∙ ap (flat_map (λ g. g)) more
    ∙ flat_map-append (λ g. g) (take (node - first) (drop first groups)) (get_or groups node [] ∷ [])
    ∙ ap (λ l. flat_map (λ g. g) (take (node - first) (drop first groups)) ++ l) (append-nil (get_or groups node [])) in
    grew ∙ ap (λ l. l ++ places_found asked (get_or groups node [])) before
    ∙ append_assoc start (places_found asked (flat_map (λ n. n) (take (node - first) (drop first groups)))) (places_found asked (get_or groups node []))
    ∙ ap (λ l. start ++ l) (sym (found-append asked (flat_map (λ n. n) (take (node - first) (drop first groups))) (get_or groups node [])) ∙ ap (places_found asked) (sym flat))

-- ---- the levels of a tree

-- a level has as many envelopes as groups
pub level_length : (places : List ℕ) (levels : List (List Envelope)) → AreLevels places levels → (l : ℕ) → l < length levels
    → length (level_at levels l) ≡ length (groups_at (entries_of places levels) l)
level_length places levels r l within = same_length (level_at levels l) (groups_at (entries_of places levels) l) (r.keep l within)

-- the envelope of a node is that round the entries below it
pub node_is : (places : List ℕ) (levels : List (List Envelope)) → AreLevels places levels → (l : ℕ) → l < length levels → (node : ℕ) (e : Envelope)
    → node < length (level_at levels l) → e ≡ get_or (level_at levels l) node e → Some e ≡ around (get_or (groups_at (entries_of places levels) l) node [])
node_is places levels r l within node e inside is =
    ap Some is ∙ mapped (level_at levels l) (groups_at (entries_of places levels) l) (r.keep l within) node e inside
  where
    mapped : (es : List Envelope) (nodes : List (List Entry)) → map Some es ≡ map around nodes → (k : ℕ) (d : Envelope) → k < length es
        → Some (get_or es k d) ≡ around (get_or nodes k [])
    mapped [] nodes h k d m = absurd (omega arith)
    mapped (x ∷ es) [] h k d m = cc
    mapped (x ∷ es) (n ∷ nodes) h zero d m = cc
    mapped (x ∷ es) (n ∷ nodes) h (suc k) d m = let rest : map Some es ≡ map around nodes = cc in mapped es nodes rest k d (omega arith)

-- the group of a node over a level
pub over_group : (nodes : List (List Entry)) (k : ℕ) → k < length (nodes_over nodes) → get_or (nodes_over nodes) k [] ≡ flat_map (λ n. n) (take 8 (drop (8 * k) nodes))
over_group nodes k within =
    let size : length (nodes_over nodes) ≡ div_ceil (length nodes) 8 = length-map (eights nodes) (flat_map (λ n. n)) ∙ length-eights nodes in
    let inside : k < length (eights nodes) = omega (arith, size, length-eights nodes) in
    get_or-map (flat_map (λ n. n)) (eights nodes) k inside
    ∙ ap (flat_map (λ n. n)) (get_or-map-range_with_len (λ i. take 8 (drop (8 * i) nodes)) 0 (div_ceil (length nodes) 8) k k [] (omega (arith, size)) (omega arith))
  where
    get_or-map : (f : List (List Entry) → List Entry) (xs : List (List (List Entry))) (i : ℕ) → i < length xs → get_or (map f xs) i [] ≡ f (get_or xs i [])
    get_or-map f [] i m = absurd (omega arith)
    get_or-map f (x ∷ xs) zero m = refl
    get_or-map f (x ∷ xs) (suc i) m = get_or-map f xs i (omega arith)

-- a level as it is read
pub level_read : {V : Type 0} (f : V → List Envelope) (vs : List V) (k : ℕ) (v : V) → k < length vs → v ≡ get_or vs k v → f v ≡ level_at (map f vs) k
level_read f [] k v within is = absurd (omega arith)
level_read f (x ∷ vs) zero v within is = ap f is
level_read f (x ∷ vs) (suc k) v within is = level_read f vs k v (omega arith) is

-- the levels below one
level_kept : (levels : List (List Envelope)) (top l : ℕ) → l < top → level_at (take top levels) l ≡ level_at levels l
level_kept levels top l h = get_or-take top levels l [] h

-- the lower levels have the same entries
entries_kept : (places : List ℕ) (levels : List (List Envelope)) (top : ℕ) → 0 < top → entries_of places (take top levels) ≡ entries_of places levels
entries_kept places levels top h = ap (zip places) (level_kept levels top 0 h)

-- the levels below one are levels too
pub levels_below : (places : List ℕ) (levels : List (List Envelope)) (top : ℕ) → AreLevels places levels → 0 < top → top ≤ length levels → AreLevels places (take top levels)
levels_below places levels top r h within =
    let size : length (take top levels) ≡ top = length-take-le top levels within in
    record {
      some = omega (arith, size);
      paired = ap length (level_kept levels top 0 h) ∙ r.paired;
      keep = λ l inside.
          let low : l < top = omega (arith, size) in
          ap (map Some) (level_kept levels top l low) ∙ r.keep l (omega (arith, size)) ∙ ap (λ es. map around (groups_at es l)) (sym (entries_kept places levels top h));
    }

-- there are as many nodes over a level as eighths of it, rounded up
over_length : (nodes : List (List Entry)) → length (nodes_over nodes) ≡ div_ceil (length nodes) 8
over_length nodes = length-map (eights nodes) (flat_map (λ n. n)) ∙ length-eights nodes

before : (top : ℕ) → 0 < top → suc (top - 1) ≡ top
before top h = omega arith

-- the first node below one is within the level below
pub inner_first : (places : List ℕ) (levels : List (List Envelope)) (top node : ℕ) → AreLevels places levels → 0 < top → top < length levels → node < length (level_at levels top)
    → 8 * node ≤ length (level_at (take top levels) (length (take top levels) - 1))
inner_first places levels top node r h within inside =
    let size : length (take top levels) ≡ top = length-take-le top levels (omega arith) in
    let low : top - 1 < top = omega arith in
    let below = level_length places levels r (top - 1) (omega arith) in
    let here = level_length places levels r top within in
    let over = ap (λ n. length (groups_at (entries_of places levels) n)) (sym (before top h)) ∙ over_length (groups_at (entries_of places levels) (top - 1)) in
    let first : 8 * node ≤ length (level_at levels (top - 1)) = omega (arith, below, here, over, inside) in
    let same : level_at (take top levels) (length (take top levels) - 1) ≡ level_at levels (top - 1) =
    ap (λ n. level_at (take top levels) (n - 1)) size ∙ level_kept levels top (top - 1) low in
    subst (λ es. 8 * node ≤ length es) (sym same) first

-- what is found below eight neighbours of the level below is what is found below the node over them
pub found_inside : (places : List ℕ) (levels : List (List Envelope)) (top node : ℕ) (asked : Envelope) → AreLevels places levels → 0 < top → top < length levels
    → node < length (level_at levels top)
    → found_below places (take top levels) (8 * node) asked ≡ places_found asked (get_or (groups_at (entries_of places levels) top) node [])
found_inside places levels top node asked r h within inside =
    let size : length (take top levels) ≡ top = length-take-le top levels (omega arith) in
    let es = entries_of places levels in
    let here = level_length places levels r top within in
    let up : groups_at es top ≡ nodes_over (groups_at es (top - 1)) = ap (groups_at es) (sym (before top h)) in
    let inside_up : node < length (nodes_over (groups_at es (top - 1))) = let same = ap length up in omega (arith, here, same) in
    ap (λ n. places_found asked (flat_map (λ g. g) (take 8 (drop (8 * node) (groups_at (entries_of places (take top levels)) (n - 1)))))) size
    ∙ ap (λ e. places_found asked (flat_map (λ g. g) (take 8 (drop (8 * node) (groups_at e (top - 1)))))) (entries_kept places levels top h)
    ∙ ap (places_found asked) (sym (over_group (groups_at es (top - 1)) node inside_up) ∙ ap (λ gs. get_or gs node []) (sym up))

-- an entry by itself
pub found_single : (places : List ℕ) (levels : List (List Envelope)) (top node : ℕ) (e asked : Envelope) → AreLevels places levels → top ≡ 0
    → node < length (level_at levels top) → e ≡ get_or (level_at levels top) node e → overlap e asked ≡ true
    → get_or places node 0 ∷ [] ≡ places_found asked (get_or (groups_at (entries_of places levels) top) node [])
found_single places levels top node e asked r lowest inside is meets =
    let place = get_or places node 0 in
    let low : node < length (level_at levels 0) = let same = ap (λ n. length (level_at levels n)) lowest in omega (arith, same, inside) in
    let among : node < length places = omega (arith, low, r.paired) in
    let envelope : e ≡ get_or (level_at levels 0) node e = is ∙ ap (λ n. get_or (level_at levels n) node e) lowest in
    let pair : get_or (entries_of places levels) node (place, e) ≡ (place, e) =
    get_or-zip places (level_at levels 0) node (place, e) among low
    ∙ ap (λ n. (n, get_or (level_at levels 0) node e)) (sym (get_or_default places node 0 place among)) ∙ ap (λ z. (place, z)) (sym envelope) in
    let single : get_or (singles (entries_of places levels)) node [] ≡ (place, e) ∷ [] =
    at_single (entries_of places levels) node (place, e) (let size = length-zip places (level_at levels 0) in omega (arith, size, low, among)) pair in
    sym
    (ap (λ n. places_found asked (get_or (groups_at (entries_of places levels) n) node [])) lowest ∙ ap (places_found asked) single
    ∙ ap (λ b. map (λ (n : Entry). n.0) (cond b ((place, e) ∷ []) [])) meets)
  where
    at_single : (es : List Entry) (k : ℕ) (x : Entry) → k < length es → get_or es k x ≡ x → get_or (singles es) k [] ≡ x ∷ []
    at_single [] k x m is = absurd (omega arith)
    at_single (y ∷ es) zero x m is = ap (λ z. z ∷ []) is
    at_single (y ∷ es) (suc k) x m is = at_single es k x (omega arith) is

-- at the end of eight neighbours, or of their level, all below them is found
pub all_walked : (groups : List (List Entry)) (first end size : ℕ) → size ≡ length groups → end ≡ min size (first + 8)
    → flat_map (λ n. n) (take (end - first) (drop first groups)) ≡ flat_map (λ n. n) (take 8 (drop first groups))
all_walked groups first end size same is = ap (flat_map (λ n. n)) (group_is groups first end (is ∙ ap (λ n. min n (first + 8)) same))
