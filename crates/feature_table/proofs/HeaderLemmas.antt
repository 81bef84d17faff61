-- The fields of a header that have a name, counted from the left.
use Rattle.std.proofs.Common.{◌≡◌, ◌∙◌, ◌+◌, ◌++◌, ◌<◌, ◌≤◌, ◌==◌, ℕ, zero, suc, Bool, true, false, List, [], ◌∷◌, Option, Some, None, arith, cond, drop, get_or, is_some, length, map, nat_lt, ne_eqb, refl, sym, take, unwrap_or}
use Rattle.std.proofs.lemmas.Bool.{false≢true}
use Rattle.std.proofs.lemmas.Bool.Decides.{nat_tests}
use Rattle.std.proofs.lemmas.List.{drop_all, drop_more, map-append, take_more}
use Rattle.std.proofs.lemmas.List.Sums.{count_by_more_no, count_by_more_yes}
use Rattle.std.specs.List.{count_by, position, position_or_len}
use Rattle.csv.specs.Records.{field_at}
use Rattle.feature_table.proofs.OrderLemmas.{count-cons}
use Rattle.table_model.specs.Loading.{Record, header_fault, name_fault, place_in}
use Rattle.table_model.specs.Texts.{same_name}
use Rattle.table_model.specs.declared.definitions.ColumnDef.{ColumnDef}
use Rattle.table_model.specs.declared.faults.LoadFault.{LoadFault}
use Rattle.table_model.specs.declared.faults.LoadFault.TheVariants as fault

-- the field at a place, by either word
pub field_at-get : (fields : List (List ℕ)) (i : ℕ) → unwrap_or (field_at fields i) [] ≡ get_or fields i []
unfolding field_at
field_at-get [] i = refl
field_at-get (f ∷ fs) zero = refl
field_at-get (f ∷ fs) (suc i) = field_at-get fs i

-- what a search from the left has found before a place: no element that passes, or one and its place
abbrev pub IsFound : {X : Type 0} → (X → Bool) → List X → ℕ → Option ℕ → Type 0
IsFound p xs i None = count_by p (take i xs) ≡ 0
IsFound p xs i (Some k) = (count_by p (take i xs) ≡ 1) × (unwrap_or (position p xs) 0 ≡ k) × (k < length xs)

-- the first element that passes
first_place : {X : Type 0} (p : X → Bool) (xs : List X) (i : ℕ) (d : X) → count_by p (take i xs) ≡ 0 → i < length xs → p (get_or xs i d) ≡ true
    → position_or_len p xs ≡ i
first_place p [] i d none within here = absurd (omega arith)
first_place p (x ∷ xs) zero d none within here = rw here refl
first_place p (x ∷ xs) (suc i) d none within here = go (p x) refl (sym (count-cons p x (take i xs)) ∙ none) (first_place p xs i d)
  where
    go : (b : Bool) → p x ≡ b → cond (p x) 1 0 + count_by p (take i xs) ≡ 0
        → (count_by p (take i xs) ≡ 0 → i < length xs → p (get_or xs i d) ≡ true → position_or_len p xs ≡ i)
        → position_or_len p (x ∷ xs) ≡ suc i
    go true e n more = let one : 1 + count_by p (take i xs) ≡ 0 = rw e at n in absurd (omega (arith, one))
    go false e n more =
        let rest : 0 + count_by p (take i xs) ≡ 0 = rw e at n in
        let place = more (omega (arith, rest)) (omega arith) here in
        rw e (omega (arith, place))

-- an element that passes, where none did before it, is the first, and the only one so far
found_first : {X : Type 0} (p : X → Bool) (xs : List X) (i : ℕ) (d : X) → i < length xs → IsFound p xs i None → p (get_or xs i d) ≡ true
    → IsFound p xs (i + 1) (Some i)
found_first p xs i d within none here =
    let place = first_place p xs i d none within here in
    let inside : nat_lt i (length xs) ≡ true = grind (arith, nat_tests) in
    (omega (arith, count_by_more_yes p xs i d within here), rw (place, inside) refl, within)

-- an element that doesn't pass changes nothing of what was found
pub found_kept : {X : Type 0} (p : X → Bool) (xs : List X) (i : ℕ) (d : X) (o : Option ℕ) → i < length xs → IsFound p xs i o
    → p (get_or xs i d) ≡ false → IsFound p xs (i + 1) o
found_kept p xs i d None within found here = omega (arith, count_by_more_no p xs i d within here)
found_kept p xs i d (Some k) within found here = (omega (arith, count_by_more_no p xs i d within here), found.1, found.2)

plus-le : (a b c : ℕ) → b ≤ c → a + b ≤ a + c
plus-le a b c h = omega arith

-- a front has no more of them than the whole
count-take : {X : Type 0} (p : X → Bool) (n : ℕ) (xs : List X) → count_by p (take n xs) ≤ count_by p xs
count-take p zero xs = omega arith
count-take p (suc n) [] = omega arith
count-take p (suc n) (x ∷ xs) = rw (count-cons p x (take n xs), count-cons p x xs) (plus-le (cond (p x) 1 0) _ _ (count-take p n xs))

-- a name that is found again is twice in the header
name_twice : (header : Record) (name d : List ℕ) (i k : ℕ) → i < length header → IsFound (same_name name) header i (Some k)
    → same_name name (get_or header i d) ≡ true → name_fault header name ≡ Some fault.DoubleHeader
name_twice header name d i k within found here =
    let n = count_by (same_name name) header in
    let more = count_by_more_yes (same_name name) header i d within here in
    let low = count-take (same_name name) (i + 1) header in
    let no : (n == 0) ≡ false = ne_eqb n 0 (λ e. absurd (omega arith)) in
    let one : (n == 1) ≡ false = ne_eqb n 1 (λ e. absurd (omega arith)) in
    rw (no, one) refl

-- one more field that has the name, where none had it before
pub found_next : {X : Type 0} (p : X → Bool) (xs : List X) (i : ℕ) (d : X) (o : Option ℕ) → i < length xs → is_some o ≡ false → IsFound p xs i o
    → p (get_or xs i d) ≡ true → IsFound p xs (i + 1) (Some i)
found_next p xs i d None within none found here = found_first p xs i d within found here
found_next p xs i d (Some k) within none found here = absurd (false≢true (sym none))

-- one more field that has the name, where one had it before
pub found_again : (header : Record) (name d : List ℕ) (i : ℕ) (o : Option ℕ) → i < length header → is_some o ≡ true → IsFound (same_name name) header i o
    → same_name name (get_or header i d) ≡ true → name_fault header name ≡ Some fault.DoubleHeader
found_again header name d i None within some found here = absurd (false≢true some)
found_again header name d i (Some k) within some found here = name_twice header name d i k within found here

-- the faults of the columns from a place on, where the column there has none
pub fault_past : {T : Type 0} (columns : List (ColumnDef T)) (header : Record) (i : ℕ) (d : ColumnDef T) → i < length columns
    → name_fault header (get_or columns i d).name ≡ None → header_fault (drop i columns) header ≡ header_fault (drop (i + 1) columns) header
unfolding header_fault
fault_past columns header i d within none = rw (drop_more columns i d within, none) refl

-- the fault of the column at a place
pub fault_here : {T : Type 0} (columns : List (ColumnDef T)) (header : Record) (i : ℕ) (d : ColumnDef T) (f : LoadFault) → i < length columns
    → name_fault header (get_or columns i d).name ≡ Some f → header_fault (drop i columns) header ≡ Some f
unfolding header_fault
fault_here columns header i d f within some = rw (drop_more columns i d within, some) refl

-- no columns, no fault
pub fault_none : {T : Type 0} (columns : List (ColumnDef T)) (header : Record) (i : ℕ) → length columns ≤ i → header_fault (drop i columns) header ≡ None
unfolding header_fault
fault_none columns header i past = rw (drop_all i columns past) refl

-- one more place
pub places_more : {T : Type 0} (columns : List (ColumnDef T)) (header : Record) (i : ℕ) (d : ColumnDef T) (places : List ℕ) (place : ℕ) → i < length columns
    → places ≡ map (λ c. place_in header c.name) (take i columns) → place ≡ place_in header (get_or columns i d).name
    → places ++ place ∷ [] ≡ map (λ c. place_in header c.name) (take (i + 1) columns)
places_more columns header i d places place within so_far here =
    rw (take_more columns i d within, map-append (λ c. place_in header c.name) (take i columns) (get_or columns i d ∷ []), so_far, here) refl
