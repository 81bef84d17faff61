-- How the envelopes of a list are packed into a tree: their order, and the groups of neighbours that are its nodes.
use Rattle.std.specs.Prelude.{ℕ, zero, suc, ◌*◌, ℤ, ◌+ℤ◌, Bool, cond, List, [], ◌∷◌, map, filter_map, take, drop, length, nat_le, Option, option_map, count_by, flat_map}
use Rattle.std.specs.Int.{div_ceil}
use Rattle.std.specs.List.{enumerate_from, range_with_len}
use Rattle.std.specs.Ordering.{ordering_then, int_cmp, nat_cmp, is_lt}
use Rattle.std.specs.declared.cmp.Ordering.{Ordering}
use Rattle.geometry_model.specs.Envelopes.{Envelope, meets}
use Rattle.rtree.specs.Joins.{joined_all}

-- a position in a list, and the envelope there
abbrev pub Entry : Type 0
Entry = ℕ × Envelope

-- ---- the order

-- the entry of a position, if the envelope there isn't absent
abbrev pub entry_at : ℕ × Option Envelope → Option Entry
entry_at placed = option_map (λ e. (placed.0, e)) placed.1

-- the envelopes that are there, with their positions
abbrev pub present : List (Option Envelope) → List Entry
present envelopes = filter_map entry_at (enumerate_from 0 envelopes)

-- the key by which entries are sorted: least x plus greatest x, least y plus greatest y, and the position
abbrev pub packing_key : Entry → ℤ × ℤ × ℕ
packing_key e = (e.1.least_x +ℤ e.1.greatest_x, e.1.least_y +ℤ e.1.greatest_y, e.0)

-- the order of two such keys: that of their first parts that differ
abbrev pub key_order : ℤ × ℤ × ℕ → ℤ × ℤ × ℕ → Ordering
key_order a b = ordering_then (ordering_then (int_cmp a.0 b.0) (int_cmp a.1 b.1)) (nat_cmp a.2 b.2)

-- an entry comes before another
abbrev pub comes_before : Entry → Entry → Bool
comes_before a b = is_lt (key_order (packing_key a) (packing_key b))

-- entries in order with one more in its place
abbrev pub with_entry : Entry → List Entry → List Entry
with_entry e [] = e ∷ []
with_entry e (f ∷ rest) = cond (comes_before e f) (e ∷ f ∷ rest) (f ∷ with_entry e rest)

-- the entries in order of their keys
abbrev pub in_order : List Entry → List Entry
in_order [] = []
in_order (e ∷ rest) = with_entry e (in_order rest)

-- ---- the nodes, each as the list of the entries below it

-- a list cut into groups of eight; the last group has those that are left
abbrev pub eights : {X : Type 0} → List X → List (List X)
eights xs = map (λ k. take 8 (drop (8 * k) xs)) (range_with_len 0 (div_ceil (length xs) 8))

-- the nodes over those of a level: each is over eight neighbours
abbrev pub nodes_over : {X : Type 0} → List (List X) → List (List X)
nodes_over level = map (flat_map (λ node. node)) (eights level)

-- a level and those over it, up to one root; at most this many are over it
abbrev pub levels_up : {X : Type 0} → ℕ → List (List X) → List (List (List X))
levels_up zero level = level ∷ []
levels_up (suc n) level = level ∷ cond (nat_le (length level) 1) [] (levels_up n (nodes_over level))

-- the levels of the tree over entries in order, from the leaves to the root
abbrev pub levels_of : {X : Type 0} → List X → List (List (List X))
levels_of entries = levels_up (length entries) (eights entries)

-- ---- the envelopes of the nodes

-- the envelope of all entries below a node
abbrev pub around : List Entry → Option Envelope
around node = joined_all (map (λ e. e.1) node)

-- how many nodes of the tree over a list of envelopes, leaves among them, have an envelope that meets the one asked for
abbrev pub opened : List (Option Envelope) → Option Envelope → ℕ
opened envelopes asked =
    count_by (λ node. meets (around node) asked) (flat_map (λ level. level) (levels_of (in_order (present envelopes))))
