-- How a packed tree keeps a list of envelopes, and what a search finds in a part of it.
use Rattle.std.specs.Prelude.{◌≡◌, ◌==◌, ◌<◌, ℕ, zero, suc, ◌+◌, ◌-◌, cond, List, [], ◌∷◌, map, filter, take, drop, length, IsPermutation, slice_index_or, Option, Some, None, flat_map}
use Rattle.std.specs.List.{range_with_len, zip}
use Rattle.geometry_model.specs.Envelopes.{Envelope, overlap}
use Rattle.rtree.specs.Found.{meeting_places}
use Rattle.rtree.specs.Packing.{Entry, present, levels_of, nodes_over, around}

-- the envelopes of a level; level 0 has those of the entries
abbrev pub level_at : List (List Envelope) → ℕ → List Envelope
level_at levels l = slice_index_or levels l []

-- the entries, of which a tree keeps the positions in one list and the envelopes as level 0
abbrev pub entries_of : List ℕ → List (List Envelope) → List Entry
entries_of places levels = zip places (level_at levels 0)

-- the envelope at a position; absent if no entry has this position
abbrev pub envelope_at : List Entry → ℕ → Option Envelope
envelope_at [] place = None
envelope_at (e ∷ rest) place = cond (e.0 == place) (Some e.1) (envelope_at rest place)

-- the list of envelopes that a tree was built of: absent ones and those of entries, by position
abbrev pub unpacked : List ℕ → List ℕ → List (List Envelope) → List (Option Envelope)
unpacked absent places levels = map (envelope_at (entries_of places levels)) (range_with_len 0 (length absent + length places))

-- each entry as a group of its own
abbrev pub singles : List Entry → List (List Entry)
singles entries = map (λ e. e ∷ []) entries

-- the levels keep the envelopes of entries in order, and those of the nodes over them
abbrev pub KeepPacking : List Entry → List (List Envelope) → Type 0
KeepPacking entries levels = map (map Some) levels ≡ map (map around) (singles entries ∷ levels_of entries)

-- a tree with these parts is a packing of this list of envelopes, whose entries it has in some order
pub record IsPacked (absent places : List ℕ) (levels : List (List Envelope)) (envelopes : List (Option Envelope)) : Type 0 where
  pub absent_places : absent ≡ meeting_places envelopes None
  pub moved : IsPermutation (present envelopes) (entries_of places levels)
  pub paired : places ≡ map (λ e. e.0) (entries_of places levels)
  pub packing : KeepPacking (entries_of places levels) levels

-- ---- the search

-- the groups of entries below the nodes of a level
abbrev pub groups_at : List Entry → ℕ → List (List Entry)
groups_at entries zero = singles entries
groups_at entries (suc l) = nodes_over (groups_at entries l)

-- some of the levels of a tree, from the lowest on
pub record AreLevels (places : List ℕ) (levels : List (List Envelope)) : Type 0 where
  pub some : 0 < length levels
  pub paired : length (level_at levels 0) ≡ length places
  pub keep : (l : ℕ) → l < length levels → map Some (level_at levels l) ≡ map around (groups_at (entries_of places levels) l)

-- the positions of the entries whose envelopes meet the one asked for
abbrev pub places_found : Envelope → List Entry → List ℕ
places_found asked entries = map (λ e. e.0) (filter (λ e. overlap e.1 asked) entries)

-- the positions found below the nodes of the highest level from this one on, eight at most: they are the children of one node,
-- and NODE_SIZE is 8
abbrev pub found_below : List ℕ → List (List Envelope) → ℕ → Envelope → List ℕ
found_below places levels first asked =
    places_found asked (flat_map (λ node. node) (take 8 (drop first (groups_at (entries_of places levels) (length levels - 1)))))
