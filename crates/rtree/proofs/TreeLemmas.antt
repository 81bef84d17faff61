-- What the levels of a tree keep, up to its root.
use Rattle.std.proofs.Common.{◌≡◌, ◌∙◌, ◌<◌, ◌≤◌, ◌+◌, ◌-◌, ◌*◌, ℕ, zero, suc, Bool, true, false, cond, List, [], ◌∷◌, ◌++◌, map, length, take, drop, get_or, leb, Option, Some, ap, refl, sym, subst, ⊎_elim, arith, append-nil}
use Rattle.std.specs.Prelude.{count_by, flat_map, sum_by}
use Rattle.std.specs.Int.{div_ceil}
use Rattle.std.specs.List.{range_with_len}
use Rattle.std.proofs.Math.Seq.{take-add}
use Rattle.std.proofs.lemmas.Bool.Decides.{leb_tells}
use Rattle.std.proofs.lemmas.Grind.{flat_map-append}
use Rattle.std.proofs.lemmas.List.{drop-map, get_or-drop, length-append, length-drop, length-map, take-map, take_all, take_more}
use Rattle.std.proofs.lemmas.List.FromFn.{map-range_with_len_more}
use Rattle.std.proofs.lemmas.List.Sums.{count_by-le-length, sum_by-append, sum_by-cons, sum_by-take-le}
use Rattle.std.proofs.lemmas.Simd.{map-map}
use mathlib.Core.Path.{fun_ext}
use Rattle.geometry_model.specs.Envelopes.{Envelope, meets}
use Rattle.rtree.specs.Packing.{Entry, around, eights, in_order, levels_of, levels_up, nodes_over, opened, present}
use Rattle.rtree.specs.Trees.{AreLevels, IsPacked, KeepPacking, entries_of, found_below, groups_at, level_at, places_found, singles}
use Rattle.rtree.proofs.GroupLemmas.{length-eights}
use Rattle.rtree.proofs.UnpackLemmas.{lowest_is}

-- ---- all groups of a level together are the entries

-- groups of one, put together, are the list
flat_singles : {X : Type 0} (xs : List X) → flat_map (λ g. g) (map (λ x. x ∷ []) xs) ≡ xs
flat_singles [] = refl
flat_singles (x ∷ xs) = ap (λ l. x ∷ l) (flat_singles xs)

-- the first groups of eight, put together, are the front of the list
flat_groups_of : {X : Type 0} (xs : List X) (n : ℕ) → flat_map (λ g. g) (map (λ k. take 8 (drop (8 * k) xs)) (range_with_len 0 n)) ≡ take (8 * n) xs
flat_groups_of xs zero = refl
flat_groups_of xs (suc n) =
    let group = λ (k : ℕ). take 8 (drop (8 * k) xs) in
    let more : suc n ≡ n + 1 = omega arith in
    let size : 8 * n + 8 ≡ 8 * suc n = omega arith in
    ap (λ m. flat_map (λ g. g) (map group (range_with_len 0 m))) more ∙ ap (flat_map (λ g. g)) (map-range_with_len_more group 0 n n (omega arith))
    ∙ flat_map-append (λ g. g) (map group (range_with_len 0 n)) (group n ∷ [])
    ∙ ap (λ l. l ++ (group n ++ [])) (flat_groups_of xs n) ∙ ap (λ l. take (8 * n) xs ++ l) (append-nil (group n)) ∙ sym (take-add (8 * n) 8 xs)
    ∙ ap (λ m. take m xs) size

-- all of them are the whole list, since there are as many as eighths, rounded up
flat_eights : {X : Type 0} (xs : List X) → flat_map (λ g. g) (eights xs) ≡ xs
flat_eights xs = flat_groups_of xs (div_ceil (length xs) 8) ∙ take_all (8 * div_ceil (length xs) 8) xs (omega arith)

-- groups of groups may be put together from either side
flat_flat : {X : Type 0} (xsss : List (List (List X))) → flat_map (λ g. g) (map (flat_map (λ g. g)) xsss) ≡ flat_map (λ g. g) (flat_map (λ g. g) xsss)
flat_flat [] = refl
flat_flat (xss ∷ xsss) = ap (λ l. flat_map (λ g. g) xss ++ l) (flat_flat xsss) ∙ sym (flat_map-append (λ g. g) xss (flat_map (λ g. g) xsss))

-- on each level the groups of its nodes, put together, are all entries
pub flat_level : (entries : List Entry) (l : ℕ) → flat_map (λ g. g) (groups_at entries l) ≡ entries
flat_level entries zero = flat_singles entries
flat_level entries (suc l) = flat_flat (eights (groups_at entries l)) ∙ ap (flat_map (λ g. g)) (flat_eights (groups_at entries l)) ∙ flat_level entries l

-- ---- the levels by their heights

-- leaves are the nodes over the entries
leaves_over : (entries : List Entry) → nodes_over (singles entries) ≡ eights entries
leaves_over entries =
    let single : Entry → List Entry = λ e. e ∷ [] in
    let each : ◌≡◌ {A = ℕ → List Entry} (λ k. flat_map (λ g. g) (take 8 (drop (8 * k) (map single entries)))) (λ k. take 8 (drop (8 * k) entries)) =
    fun_ext (λ k. ap (flat_map (λ g. g)) (ap (take 8) (drop-map single (8 * k) entries) ∙ take-map single 8 (drop (8 * k) entries)) ∙ flat_singles (take 8 (drop (8 * k) entries))) in
    map-map (flat_map (λ g. g)) (λ k. take 8 (drop (8 * k) (map single entries))) (range_with_len 0 (div_ceil (length (map single entries)) 8))
    ∙ ap (λ n. map (λ k. flat_map (λ g. g) (take 8 (drop (8 * k) (map single entries)))) (range_with_len 0 (div_ceil n 8))) (length-map entries single)
    ∙ ap (λ f. map f (range_with_len 0 (div_ceil (length entries) 8))) each

-- the levels over a level are those of the greater heights
up_listed : (entries : List Entry) (more l i : ℕ) → i < length (levels_up more (groups_at entries l)) → get_or (levels_up more (groups_at entries l)) i [] ≡ groups_at entries (l + i)
up_listed entries zero l zero within = let m : l ≡ l + 0 = omega arith in ap (groups_at entries) m
up_listed entries zero l (suc i) within = absurd (omega arith)
up_listed entries (suc n) l zero within = let m : l ≡ l + 0 = omega arith in ap (groups_at entries) m
up_listed entries (suc n) l (suc i) within = go (leb (length (groups_at entries l)) 1) within (up_listed entries n (suc l) i)
  where
    go : (b : Bool) → suc i < length (groups_at entries l ∷ cond b [] (levels_up n (groups_at entries (suc l))))
        → (i < length (levels_up n (groups_at entries (suc l))) → get_or (levels_up n (groups_at entries (suc l))) i [] ≡ groups_at entries (suc l + i))
        → get_or (groups_at entries l ∷ cond b [] (levels_up n (groups_at entries (suc l)))) (suc i) [] ≡ groups_at entries (l + suc i)
    go true inside more = absurd (omega arith)
    go false inside more = let m : suc l + i ≡ l + suc i = omega arith in more (omega arith) ∙ ap (groups_at entries) m

-- the level of a height is the list of groups of that height
listed : (entries : List Entry) (l : ℕ) → l < length (singles entries ∷ levels_of entries) → get_or (singles entries ∷ levels_of entries) l [] ≡ groups_at entries l
listed entries zero within = refl
listed entries (suc l) within =
    let leaves : levels_of entries ≡ levels_up (length entries) (groups_at entries 1) = ap (levels_up (length entries)) (sym (leaves_over entries)) in
    let inside : l < length (levels_up (length entries) (groups_at entries 1)) = let same = ap length leaves in omega (arith, same) in
    ap (λ ls. get_or ls l []) leaves ∙ up_listed entries (length entries) 1 l inside ∙ (let m : 1 + l ≡ suc l = omega arith in ap (groups_at entries) m)

-- the highest level has one node at most
up_top : {X : Type 0} (more : ℕ) (nodes : List (List X)) → length nodes ≤ more + 1
    → (0 < length (levels_up more nodes)) × (length (get_or (levels_up more nodes) (length (levels_up more nodes) - 1) []) ≤ 1)
up_top zero nodes room = (omega arith, omega arith)
up_top {X = X} (suc n) nodes room = go (leb (length nodes) 1) refl (λ less. up_top n (nodes_over nodes) less)
  where
    go : (b : Bool) → leb (length nodes) 1 ≡ b
        → (length (nodes_over nodes) ≤ n + 1 → (0 < length (levels_up n (nodes_over nodes))) × (length (get_or (levels_up n (nodes_over nodes)) (length (levels_up n (nodes_over nodes)) - 1) []) ≤ 1))
        → (0 < length (nodes ∷ cond b [] (levels_up n (nodes_over nodes))))
        × (length (get_or (nodes ∷ cond b [] (levels_up n (nodes_over nodes))) (length (nodes ∷ cond b [] (levels_up n (nodes_over nodes))) - 1) []) ≤ 1)
    go true h more = (omega arith, ⊎_elim (λ t. t.1) (λ t. let y : true ≡ false = sym h ∙ t.0 in cc) (leb_tells (length nodes) 1))
    go false h more =
        let several : 1 < length nodes = ⊎_elim (λ t. let y : true ≡ false = sym t.0 ∙ h in cc) (λ t. t.1) (leb_tells (length nodes) 1) in
        let size = length-map (eights nodes) (flat_map (λ g. g)) ∙ length-eights nodes in
        let up = more (omega (arith, size)) in
        let rest = levels_up n (nodes_over nodes) in
        let last : length (nodes ∷ rest) - 1 ≡ suc (length rest - 1) = omega (arith, up.0) in
        (omega arith, subst (λ k. length (get_or (nodes ∷ rest) k []) ≤ 1) (sym last) up.1)

-- a level that is kept
kept : (levels : List (List Envelope)) (nodes : List (List (List Entry))) → map (map Some) levels ≡ map (map around) nodes → (l : ℕ) → l < length levels
    → map Some (level_at levels l) ≡ map around (get_or nodes l [])
kept [] nodes h l within = absurd (omega arith)
kept (level ∷ levels) [] h l within = cc
kept (level ∷ levels) (n ∷ nodes) h zero within = cc
kept (level ∷ levels) (n ∷ nodes) h (suc l) within = let rest : map (map Some) levels ≡ map (map around) nodes = cc in kept levels nodes rest l (omega arith)

-- as many levels are kept as the packing has, the lowest one counted
level_count : (entries : List Entry) (levels : List (List Envelope)) → KeepPacking entries levels → length levels ≡ suc (length (levels_of entries))
level_count entries levels h = sym (length-map levels (map Some)) ∙ ap length h ∙ length-map (singles entries ∷ levels_of entries) (map around)

-- a packed tree keeps at each height the envelopes of the groups of that height
pub are_levels : (absent places : List ℕ) (levels : List (List Envelope)) (es : List (Option Envelope)) → IsPacked absent places levels es → AreLevels places levels
are_levels absent places levels es p =
    let entries = entries_of places levels in
    let count = level_count entries levels p.packing in
    record {
      some = omega (arith, count);
      paired = ap length (lowest_is entries levels p.packing) ∙ length-map entries (λ e. e.1) ∙ sym (length-map entries (λ e. e.0)) ∙ ap length (sym p.paired);
      keep = λ l within. kept levels (singles entries ∷ levels_of entries) p.packing l within ∙ ap (map around) (listed entries l (omega (arith, count, within)));
    }

-- all is found below the root
pub found_all : (absent places : List ℕ) (levels : List (List Envelope)) (es : List (Option Envelope)) (asked : Envelope) → IsPacked absent places levels es
    → found_below places levels 0 asked ≡ places_found asked (entries_of places levels)
found_all absent places levels es asked p =
    let entries = entries_of places levels in
    let count = level_count entries levels p.packing in
    let size = length-eights entries in
    let top = up_top (length entries) (eights entries) (omega (arith, size)) in
    let last : length levels - 1 ≡ suc (length (levels_of entries) - 1) = omega (arith, count, top.0) in
    let root : get_or (levels_of entries) (length (levels_of entries) - 1) [] ≡ groups_at entries (length levels - 1) =
    ap (λ l. get_or (singles entries ∷ levels_of entries) l []) (sym last) ∙ listed entries (length levels - 1) (omega (arith, count)) in
    let few : length (groups_at entries (length levels - 1)) ≤ 8 = let same = ap length root in omega (arith, same, top.1) in
    ap (λ gs. places_found asked (flat_map (λ g. g) gs)) (take_all 8 (groups_at entries (length levels - 1)) few)
    ∙ ap (places_found asked) (flat_level entries (length levels - 1))

-- ---- the count of nodes

-- how many envelopes of a level meet the one asked for
abbrev pub level_met : Option Envelope → List Envelope → ℕ
level_met asked level = count_by (λ e. meets (Some e) asked) level

-- of the levels over the lowest, up to a height
abbrev pub met_up_to : Option Envelope → List (List Envelope) → ℕ → ℕ
met_up_to asked levels height = sum_by (level_met asked) (take (height - 1) (drop 1 levels))

-- on a level that keeps them as many envelopes meet the one asked for as nodes do
met_in_level : (asked : Option Envelope) (level : List Envelope) (nodes : List (List Entry)) → map Some level ≡ map around nodes
    → level_met asked level ≡ count_by (λ node. meets (around node) asked) nodes
met_in_level asked [] [] h = refl
met_in_level asked [] (n ∷ nodes) h = cc
met_in_level asked (e ∷ level) [] h = cc
met_in_level asked (e ∷ level) (n ∷ nodes) h =
    let first : Some e ≡ around n = cc in
    let rest : map Some level ≡ map around nodes = cc in
    sum_by-cons (λ e. cond (meets (Some e) asked) 1 0) e level ∙ ap (λ r. cond (meets r asked) 1 0 + level_met asked level) first
    ∙ ap (λ k. cond (meets (around n) asked) 1 0 + k) (met_in_level asked level nodes rest) ∙ sym (sum_by-cons (λ node. cond (meets (around node) asked) 1 0) n nodes)

-- so it is on all levels together
met_in_levels : (asked : Option Envelope) (levels : List (List Envelope)) (nodes : List (List (List Entry))) → map (map Some) levels ≡ map (map around) nodes
    → sum_by (level_met asked) levels ≡ count_by (λ node. meets (around node) asked) (flat_map (λ level. level) nodes)
met_in_levels asked [] [] h = refl
met_in_levels asked [] (n ∷ nodes) h = cc
met_in_levels asked (level ∷ levels) [] h = cc
met_in_levels asked (level ∷ levels) (n ∷ nodes) h =
    let first : map Some level ≡ map around n = cc in
    let rest : map (map Some) levels ≡ map (map around) nodes = cc in
    sum_by-cons (level_met asked) level levels ∙ ap (λ k. k + sum_by (level_met asked) levels) (met_in_level asked level n first)
    ∙ ap (λ k. count_by (λ node. meets (around node) asked) n + k) (met_in_levels asked levels nodes rest)
    ∙ sym (sum_by-append (λ node. cond (meets (around node) asked) 1 0) n (flat_map (λ level. level) nodes))

-- the levels over the lowest keep the envelopes of nodes
upper : (entries : List Entry) (levels : List (List Envelope)) → KeepPacking entries levels → map (map Some) (drop 1 levels) ≡ map (map around) (levels_of entries)
upper entries [] h = cc
upper entries (level ∷ levels) h = cc

-- counted up to the root, the nodes that meet are those that a search opens
pub all_met : (absent places : List ℕ) (levels : List (List Envelope)) (es : List (Option Envelope)) (asked : Option Envelope) (height : ℕ) → IsPacked absent places levels es
    → entries_of places levels ≡ in_order (present es) → length levels ≤ height → met_up_to asked levels height ≡ opened es asked
all_met absent places levels es asked height p ordered end =
    let rest = length-drop 1 levels in
    ap (sum_by (level_met asked)) (take_all (height - 1) (drop 1 levels) (omega (arith, rest)))
    ∙ met_in_levels asked (drop 1 levels) (levels_of (entries_of places levels)) (upper (entries_of places levels) levels p.packing)
    ∙ ap (λ entries. count_by (λ node. meets (around node) asked) (flat_map (λ level. level) (levels_of entries))) ordered

-- one level more
pub met_more : (asked : Option Envelope) (levels : List (List Envelope)) (height : ℕ) → 1 ≤ height → height < length levels
    → met_up_to asked levels (height + 1) ≡ met_up_to asked levels height + level_met asked (level_at levels height)
met_more asked levels height low within =
    let rest = length-drop 1 levels in
    let m : height + 1 - 1 ≡ height - 1 + 1 = omega arith in
    let n : 1 + (height - 1) ≡ height = omega arith in
    ap (λ k. sum_by (level_met asked) (take k (drop 1 levels))) m ∙ ap (sum_by (level_met asked)) (take_more (drop 1 levels) (height - 1) [] (omega (arith, rest)))
    ∙ sum_by-append (level_met asked) (take (height - 1) (drop 1 levels)) (get_or (drop 1 levels) (height - 1) [] ∷ [])
    ∙ ap (λ k. met_up_to asked levels height + k) (alone (get_or (drop 1 levels) (height - 1) []) ∙ ap (level_met asked) (get_or-drop 1 levels (height - 1) [] ∙ ap (level_at levels) n))
  where
    alone : (level : List Envelope) → sum_by (level_met asked) (level ∷ []) ≡ level_met asked level
    alone level = let one = sum_by-cons (level_met asked) level [] in omega (arith, one)

-- the nodes are no more than twice the leaves
up_size : {X : Type 0} (more : ℕ) (nodes : List (List X)) → length (flat_map (λ level. level) (levels_up more nodes)) ≤ 2 * length nodes
up_size zero nodes = let size = length-append nodes [] in omega (arith, size)
up_size {X = X} (suc n) nodes = go (leb (length nodes) 1) refl (up_size n (nodes_over nodes))
  where
    go : (b : Bool) → leb (length nodes) 1 ≡ b → length (flat_map (λ level. level) (levels_up n (nodes_over nodes))) ≤ 2 * length (nodes_over nodes)
        → length (flat_map (λ level. level) (nodes ∷ cond b [] (levels_up n (nodes_over nodes)))) ≤ 2 * length nodes
    go true h more = let size = length-append nodes [] in omega (arith, size)
    go false h more =
        let several : 1 < length nodes = ⊎_elim (λ t. let y : true ≡ false = sym t.0 ∙ h in cc) (λ t. t.1) (leb_tells (length nodes) 1) in
        let size = length-append nodes (flat_map (λ level. level) (levels_up n (nodes_over nodes))) in
        let over = length-map (eights nodes) (flat_map (λ g. g)) ∙ length-eights nodes in
        omega (arith, size, over, more)

-- so their number is no more than that of the entries, rounded up
pub met_bound : (absent places : List ℕ) (levels : List (List Envelope)) (es : List (Option Envelope)) (asked : Option Envelope) (height : ℕ) → IsPacked absent places levels es
    → met_up_to asked levels height ≤ length places + 2
met_bound absent places levels es asked height p =
    let entries = entries_of places levels in
    let part = sum_by-take-le (level_met asked) (drop 1 levels) (height - 1) in
    let whole = met_in_levels asked (drop 1 levels) (levels_of entries) (upper entries levels p.packing) in
    let counted = count_by-le-length (λ node. meets (around node) asked) (flat_map (λ level. level) (levels_of entries)) in
    let size = up_size (length entries) (eights entries) in
    let leaves = length-eights entries in
    let same = ap length p.paired ∙ length-map entries (λ e. e.0) in
    omega (arith, part, whole, counted, size, leaves, same)
