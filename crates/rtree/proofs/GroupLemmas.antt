-- Groups of eight, and the levels that they make.
use Rattle.std.proofs.Common.{◌≡◌, ◌∙◌, ◌<◌, ◌≤◌, ◌+◌, ◌-◌, ◌*◌, min, ℕ, zero, suc, Bool, true, false, cond, List, [], ◌∷◌, ◌++◌, map, length, take, drop, Option, Some, ap, refl, sym, arith, append_assoc, leb, ⊎_elim}
use Rattle.std.proofs.lemmas.Bool.Decides.{leb_tells}
use Rattle.std.specs.Prelude.{flat_map}
use Rattle.std.specs.Int.{div_ceil}
use Rattle.std.specs.List.{range_with_len}
use borrow.Author.Tests.{leb-false, leb-true}
use Rattle.std.proofs.lemmas.List.{length-drop, length-map, drop-map, map-append, take-map, take_all}
use Rattle.std.proofs.lemmas.Simd.{map-map}
use Rattle.geometry_model.specs.Envelopes.{Envelope}
use Rattle.std.proofs.lemmas.List.FromFn.{length-map-range_with_len, map-range_with_len_more}
use mathlib.Core.Path.{fun_ext}
use Rattle.rtree.specs.Joins.{joined_all}
use Rattle.rtree.specs.Packing.{Entry, eights, nodes_over, levels_up, levels_of, around}
use Rattle.rtree.specs.Trees.{KeepPacking, singles}
use Rattle.rtree.proofs.JoinLemmas.{joined_nodes}

-- there are as many groups of eight as eighths of the list, rounded up
pub length-eights : {X : Type 0} (xs : List X) → length (eights xs) ≡ div_ceil (length xs) 8
length-eights xs = length-map-range_with_len (λ k. take 8 (drop (8 * k) xs)) 0 (div_ceil (length xs) 8)

-- a group that ends with its list is that of up to eight elements
pub group_is : {X : Type 0} (xs : List X) (first end : ℕ) → end ≡ min (length xs) (first + 8) → take (end - first) (drop first xs) ≡ take 8 (drop first xs)
group_is xs first end is = go (leb (first + 8) (length xs)) refl
  where
    go : (b : Bool) → leb (first + 8) (length xs) ≡ b → take (end - first) (drop first xs) ≡ take 8 (drop first xs)
    go true h =
        let within : first + 8 ≤ length xs = leb-true (first + 8) (length xs) h in
        let size : end - first ≡ 8 = omega arith in
        ap (λ n. take n (drop first xs)) size
    go false h =
        let past : length xs < first + 8 = leb-false (first + 8) (length xs) h in
        let rest = length-drop first xs in
        take_all (end - first) (drop first xs) (omega (arith, rest)) ∙ sym (take_all 8 (drop first xs) (omega (arith, rest)))

-- one node more over a level
pub level_more : (level over new : List Envelope) (node : ℕ) (e : Envelope) (end : ℕ) → end ≡ min (length level) (8 * node + 8) → new ≡ over ++ e ∷ []
    → Some e ≡ joined_all (take (end - 8 * node) (drop (8 * node) level))
    → map Some over ≡ map joined_all (map (λ k. take 8 (drop (8 * k) level)) (range_with_len 0 node))
    → map Some new ≡ map joined_all (map (λ k. take 8 (drop (8 * k) level)) (range_with_len 0 (node + 1)))
level_more level over new node e end ends grew is before =
    let group = λ (k : ℕ). take 8 (drop (8 * k) level) in
    let one : Some e ≡ joined_all (group node) = is ∙ ap joined_all (group_is level (8 * node) end ends) in
    ap (map Some) grew ∙ map-append Some over (e ∷ []) ∙ ap (λ l. l ++ Some e ∷ []) before
    ∙ ap (λ r. map joined_all (map group (range_with_len 0 node)) ++ r ∷ []) one
    ∙ sym (map-append joined_all (map group (range_with_len 0 node)) (group node ∷ []))
    ∙ ap (map joined_all) (sym (map-range_with_len_more group 0 node node (omega arith)))

-- ---- the nodes over a level

-- the envelopes of a group of nodes
group_of : (level : List Envelope) (nodes : List (List Entry)) → map Some level ≡ map around nodes
    → (k : ℕ) → map Some (take 8 (drop (8 * k) level)) ≡ map around (take 8 (drop (8 * k) nodes))
group_of level nodes h k =
    sym (take-map Some 8 (drop (8 * k) level)) ∙ ap (take 8) (sym (drop-map Some (8 * k) level) ∙ ap (drop (8 * k)) h ∙ drop-map around (8 * k) nodes)
    ∙ take-map around 8 (drop (8 * k) nodes)

-- a level has as many envelopes as nodes
pub same_length : (level : List Envelope) (nodes : List (List Entry)) → map Some level ≡ map around nodes → length level ≡ length nodes
same_length level nodes h = sym (length-map level Some) ∙ ap length h ∙ length-map nodes around

-- where a level keeps the envelopes of nodes, the level over it keeps those of the nodes over them:
-- the envelope of a group of nodes is that of all entries below
pub over_is : (level over : List Envelope) (nodes : List (List Entry)) → map Some level ≡ map around nodes → map Some over ≡ map joined_all (eights level)
    → map Some over ≡ map around (nodes_over nodes)
over_is level over nodes h is =
    let size : ℕ = div_ceil (length nodes) 8 in
    let each : ◌≡◌ {A = ℕ → Option Envelope} (λ k. joined_all (take 8 (drop (8 * k) level))) (λ k. around (flat_map (λ node. node) (take 8 (drop (8 * k) nodes)))) =
    fun_ext (λ k. joined_nodes (take 8 (drop (8 * k) level)) (take 8 (drop (8 * k) nodes)) (group_of level nodes h k)) in
    is ∙ ap (λ n. map joined_all (map (λ k. take 8 (drop (8 * k) level)) (range_with_len 0 (div_ceil n 8)))) (same_length level nodes h)
    ∙ map-map joined_all (λ k. take 8 (drop (8 * k) level)) (range_with_len 0 size)
    ∙ ap (λ f. map f (range_with_len 0 size)) each
    ∙ sym (map-map around (λ k. flat_map (λ node. node) (take 8 (drop (8 * k) nodes))) (range_with_len 0 size))
    ∙ ap (map around) (sym (map-map (flat_map (λ node. node)) (λ k. take 8 (drop (8 * k) nodes)) (range_with_len 0 size)))

-- the leaves keep the envelopes of groups of eight entries
leaves_are : (lowest leaves : List Envelope) (entries : List Entry) → lowest ≡ map (λ e. e.1) entries → map Some leaves ≡ map joined_all (eights lowest)
    → map Some leaves ≡ map around (eights entries)
leaves_are lowest leaves entries h is =
    let size : ℕ = div_ceil (length entries) 8 in
    let envelope : Entry → Envelope = λ e. e.1 in
    let each : ◌≡◌ {A = ℕ → Option Envelope} (λ k. joined_all (take 8 (drop (8 * k) (map envelope entries)))) (λ k. around (take 8 (drop (8 * k) entries))) =
    fun_ext (λ k. ap joined_all (ap (take 8) (drop-map envelope (8 * k) entries) ∙ take-map envelope 8 (drop (8 * k) entries))) in
    is ∙ ap (λ es. map joined_all (eights es)) h
    ∙ ap (λ n. map joined_all (map (λ k. take 8 (drop (8 * k) (map envelope entries))) (range_with_len 0 (div_ceil n 8)))) (length-map entries envelope)
    ∙ map-map joined_all (λ k. take 8 (drop (8 * k) (map envelope entries))) (range_with_len 0 size)
    ∙ ap (λ f. map f (range_with_len 0 size)) each
    ∙ sym (map-map around (λ k. take 8 (drop (8 * k) entries)) (range_with_len 0 size))

-- the lowest level keeps the envelope of each entry
singles_are : (entries : List Entry) → map Some (map (λ e. e.1) entries) ≡ map around (singles entries)
singles_are [] = refl
singles_are (e ∷ entries) = ap (λ l. Some e.1 ∷ l) (singles_are entries)

-- ---- level by level

-- levels that are there and the one over them, with what they keep
pub record IsRising (entries : List Entry) (levels : List (List Envelope)) (level : List Envelope) : Type 0 where
  pub below : List (List (List Entry))
  pub nodes : List (List Entry)
  pub more : ℕ
  pub done : map (map Some) levels ≡ map (map around) below
  pub here : map Some level ≡ map around nodes
  pub room : length nodes ≤ more + 1
  pub whole : below ++ levels_up more nodes ≡ singles entries ∷ levels_of entries

-- at the start the lowest level is done, and the leaves are over it
pub rising_start : (entries : List Entry) (lowest leaves : List Envelope) → lowest ≡ map (λ e. e.1) entries → map Some leaves ≡ map joined_all (eights lowest)
    → IsRising entries (lowest ∷ []) leaves
rising_start entries lowest leaves h is = record {
  below = singles entries ∷ [];
  nodes = eights entries;
  more = length entries;
  done = ap (λ l. l ∷ []) (ap (map Some) h ∙ singles_are entries);
  here = leaves_are lowest leaves entries h is;
  room = let size = length-eights entries in omega (arith, size);
  whole = refl;
}

-- a level of several nodes has one over it
up_more : (more : ℕ) (nodes : List (List Entry)) → length nodes ≤ more + 1 → 1 < length nodes
    → (n : ℕ) × (levels_up more nodes ≡ nodes ∷ levels_up n (nodes_over nodes)) × (length (nodes_over nodes) ≤ n + 1)
up_more zero nodes room several = absurd (omega arith)
up_more (suc n) nodes room several =
    let some : leb (length nodes) 1 ≡ false = ⊎_elim (λ h. absurd (omega (arith, h.1))) (λ h. h.0) (leb_tells (length nodes) 1) in
    let size : length (nodes_over nodes) ≡ div_ceil (length nodes) 8 = length-map (eights nodes) (flat_map (λ node. node)) ∙ length-eights nodes in
    (n, ap (λ b. nodes ∷ cond b [] (levels_up n (nodes_over nodes))) some, omega (arith, size))

-- while a level has several nodes the next one is over it, and keeps what the levels are to keep
pub rising_more : (entries : List Entry) (levels : List (List Envelope)) (level next : List Envelope) → IsRising entries levels level → 1 < length level
    → map Some next ≡ map joined_all (eights level) → IsRising entries (levels ++ level ∷ []) next
rising_more entries levels level next r several is =
    let several_nodes : 1 < length r.nodes = let same = same_length level r.nodes r.here in omega (arith, same) in
    let up = up_more r.more r.nodes r.room several_nodes in
    record {
      below = r.below ++ r.nodes ∷ [];
      nodes = nodes_over r.nodes;
      more = up.0;
      done = map-append (map Some) levels (level ∷ []) ∙ ap (λ l. map (map Some) levels ++ l ∷ []) r.here ∙ ap (λ l. l ++ map around r.nodes ∷ []) r.done
          ∙ sym (map-append (map around) r.below (r.nodes ∷ []));
      here = over_is level next r.nodes r.here is;
      room = up.2;
      whole = append_assoc r.below (r.nodes ∷ []) (levels_up up.0 (nodes_over r.nodes)) ∙ ap (λ l. r.below ++ l) (sym up.1) ∙ r.whole;
    }

-- the root has none over it
up_end : (more : ℕ) (nodes : List (List Entry)) → length nodes ≤ 1 → levels_up more nodes ≡ nodes ∷ []
up_end zero nodes one = refl
up_end (suc n) nodes one =
    let none : leb (length nodes) 1 ≡ true = ⊎_elim (λ h. h.0) (λ h. absurd (omega (arith, h.1))) (leb_tells (length nodes) 1) in
    ap (λ b. nodes ∷ cond b [] (levels_up n (nodes_over nodes))) none

-- with one node at most the root is reached, and the levels keep the whole packing
pub rising_end : (entries : List Entry) (levels : List (List Envelope)) (level : List Envelope) → IsRising entries levels level → length level ≤ 1
    → KeepPacking entries (levels ++ level ∷ [])
rising_end entries levels level r one =
    let one_node : length r.nodes ≤ 1 = let same = same_length level r.nodes r.here in omega (arith, same) in
    map-append (map Some) levels (level ∷ []) ∙ ap (λ l. map (map Some) levels ++ l ∷ []) r.here ∙ ap (λ l. l ++ map around r.nodes ∷ []) r.done
    ∙ sym (map-append (map around) r.below (r.nodes ∷ []))
    ∙ ap (map (map around)) (ap (λ l. r.below ++ l) (sym (up_end r.more r.nodes one_node)) ∙ r.whole)

-- a level over several nodes has fewer
pub fewer : (level over : List Envelope) → map Some over ≡ map joined_all (eights level) → 1 < length level → length over < length level
fewer level over is several =
    let size : length over ≡ div_ceil (length level) 8 = sym (length-map over Some) ∙ ap length is ∙ length-map (eights level) joined_all ∙ length-eights level in
    omega (arith, size)
