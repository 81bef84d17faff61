-- Rows by the places of their keys, in the order of the keys.
use Rattle.std.proofs.Common.{◌≡◌, ◌∙◌, ◌+◌, ◌*◌, ◌<◌, ℕ, ℤ, pos, List, None, Some, Ok, Err, ap, ap₂, arith, flat_map, get_or, length, map, refl, subst, sym}
use Rattle.std.specs.Prelude.{IsPermutation, IsSortedByKey, option_map}
use Rattle.std.proofs.lemmas.List.{get_or-map, length-map}
use Rattle.std.proofs.lemmas.List.Elements.{All-get_or, All-weaker}
use Rattle.std.proofs.lemmas.List.FromFn.{get_or-map-range_with_len, length-map-range_with_len, length-range_with_len}
use Rattle.std.proofs.lemmas.List.Sorted.{All-permutation, IsPermutation-map, length_permutation}
use Rattle.std.proofs.lemmas.Simd.{map-map}
use Rattle.std.specs.List.{All, range_with_len}
use Rattle.std.specs.Ordering.{int_cmp, is_lt}
use Rattle.feature_table.proofs.FlatLemmas.{joined_size, range_below, rows_joined, within_first}
use Rattle.feature_table.proofs.OrderLemmas.{the_order}
use Rattle.feature_table.specs.FlatRows.{IsWithin, first_rows, row_at, rows_at}
use Rattle.feature_table.specs.KeyPlaces.{key_at}
use Rattle.table_model.specs.Loading.{double_key, key_of, keyed_rows}
use Rattle.table_model.specs.Meanings.{Row}
use Rattle.table_model.specs.declared.faults.LoadFault.{LoadFault}
use Rattle.table_model.specs.declared.faults.LoadFault.TheVariants as fault

-- the places are those of the keys
places_below : (count : ℕ) (keys : List ℤ) (order : List ℕ) → length keys ≡ count → IsPermutation (range_with_len 0 (length keys)) order → All (λ p. p < count) order
places_below count keys order size moved =
    subst (λ n. All (λ p. p < n) order) size (All-permutation (λ p. p < length keys) (range_with_len 0 (length keys)) order moved (range_below (length keys)))

-- so the rows there are within values as many as the rows have
pub places_within : {A : Type 0} (width count : ℕ) (values : List A) (keys : List ℤ) (order : List ℕ) → length values ≡ count * width → length keys ≡ count
    → IsPermutation (range_with_len 0 (length keys)) order → All (IsWithin width values) order
places_within width count values keys order size same moved =
    All-weaker (λ p. p < count) (IsWithin width values)
    (λ p h. let inside = within_first width count p h in omega (arith, inside, size)) order (places_below count keys order same moved)

-- joined, they are as many rows as before, in that order
pub joined_rows : {A : Type 0} (width count : ℕ) (values joined : List A) (keys : List ℤ) (order : List ℕ)
    → length values ≡ count * width → length keys ≡ count → IsPermutation (range_with_len 0 (length keys)) order
    → joined ≡ flat_map (row_at width values) order
    → (length joined ≡ count * width) × (first_rows width joined count ≡ rows_at width values order)
joined_rows width count values joined keys order size same moved are =
    let within = places_within width count values keys order size same moved in
    let long = length_permutation (range_with_len 0 (length keys)) order moved in
    let places = length-range_with_len 0 (length keys) in
    let many : length order ≡ count = omega (arith, long, places, same) in (
      ap length are ∙ joined_size width values order within ∙ ap (λ n. n * width) many,
      ap (λ v. first_rows width v count) are
          ∙ ap (first_rows width (flat_map (row_at width values) order)) (sym many)
          ∙ rows_joined width values order within,
    )

-- the rows in an order of places in which the keys ascend are the rows by key, where no key comes twice
pub keyed_in_order : {G : Type 0} (key : ℕ) (row : ℕ → Row G) (count : ℕ) (keys : List ℤ) (order : List ℕ) → keys ≡ map (λ p. key_of key (row p)) (range_with_len 0 count)
    → IsPermutation (range_with_len 0 (length keys)) order → IsSortedByKey (key_at keys) int_cmp order → double_key keys ≡ None
    → keyed_rows key (map row (range_with_len 0 count)) ≡ Ok (map row order)
keyed_in_order {G = G} key row count keys order are moved up none =
    let row_key = λ (p : ℕ). key_of key (row p) in
    let size : length keys ≡ count = ap length are ∙ length-map-range_with_len row_key 0 count in
    let below = places_below count keys order size moved in
    let key_is : (p : ℕ) → p < count → key_of key (row p) ≡ key_at keys p = λ p h.
    sym (ap (λ (ks : List ℤ). get_or ks p (pos 0)) are ∙ get_or-map-range_with_len row_key 0 count p p (pos 0) h (omega arith)) in
    let same : map (key_of key) (map row (range_with_len 0 count)) ≡ keys = map-map (key_of key) row (range_with_len 0 count) ∙ sym are in
    let alone : double_key (map (key_of key) (map row (range_with_len 0 count))) ≡ None = ap double_key same ∙ none in
    let rows = IsPermutation-map row (range_with_len 0 count) order (subst (λ n. IsPermutation (range_with_len 0 n) order) size moved) in
    let sorted : IsSortedByKey (key_of key) int_cmp (map row order) = λ k d low high.
    let long : length (map row order) ≡ length order = simp length-map in
    let later : k + 1 < length order = omega (arith, high, long) in
    let here : k < length order = omega (arith, later) in
    let key-here = ap (key_of key) (get_or-map row order k 0 d here) ∙ key_is (get_or order k 0) (All-get_or (λ p. p < count) order k 0 here below) in
    let key-later = ap (key_of key) (get_or-map row order (k + 1) 0 d later) ∙ key_is (get_or order (k + 1) 0) (All-get_or (λ p. p < count) order (k + 1) 0 later below) in
    ap₂ (λ (a b : ℤ). is_lt (int_cmp a b)) key-later key-here ∙ up k 0 low later in
    rw alone (ap Ok (the_order key (map row (range_with_len 0 count)) (map row order) alone rows sorted))

-- and where one does, that is the rows' fault
pub keyed_fault : {G : Type 0} (key : ℕ) (row : ℕ → Row G) (count : ℕ) (keys : List ℤ) (f : LoadFault) → keys ≡ map (λ p. key_of key (row p)) (range_with_len 0 count)
    → option_map fault.DoubleKey (double_key keys) ≡ Some f → keyed_rows key (map row (range_with_len 0 count)) ≡ Err f
keyed_fault {G = G} key row count keys f are some =
    let same : map (key_of key) (map row (range_with_len 0 count)) ≡ keys = map-map (key_of key) row (range_with_len 0 count) ∙ sym are in
    rw (same, some) refl
