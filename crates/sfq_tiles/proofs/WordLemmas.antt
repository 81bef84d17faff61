-- The parts of a text around a byte, and the columns that names list.
use Rattle.std.proofs.Common.{◌≡◌, ◌<◌, ◌+◌, ◌∙◌, ap, sym, eqb, cond, refl, map, ◌==◌, ◌||◌, Bool, true, ℕ, List, [], ◌∷◌, ◌++◌}
use Rattle.std.proofs.Common.{length, take, filter}
use Rattle.std.proofs.Common.{Option, None, Some, arith}
use denote.Ref.{Bor}
use Rattle.std.specs.Prelude.{MatchOption, slice_get}
use Rattle.std.specs.List.{after_first, list_any, position_or_len, range_with_len, slice_split}
use Rattle.std.proofs.lemmas.List.{map-id, take_all}
use Rattle.std.proofs.lemmas.List.Elements.{filter-append}
use Rattle.std.proofs.lemmas.List.Folds.{list_any_at, list_any_none}
use Rattle.std.proofs.lemmas.List.FromFn.{map-range_with_len_more}
use Rattle.std.proofs.lemmas.List.Sums.{fails_before_first, passes_at_first}
use Rattle.std.proofs.lemmas.Str.Pattern.{IsSplitOnceResult, split_once_first}
use Rattle.feature_table.specs.GeometryFields.{ShapeValue}
use Rattle.sfq_tiles.specs.Words.{after, before, is_called, is_listed}
use Rattle.table_model.specs.declared.definitions.ColumnDef.{ColumnDef}
use Rattle.table_model.specs.declared.definitions.TableDef.{TableDef}

-- the two parts of a text that `split_once` gives, or the text where the byte isn't in it
pub parts_are : (byte : ℕ) (text : List ℕ) (r : Option (Bor (List ℕ) × Bor (List ℕ))) → IsSplitOnceResult byte text r → byte < 128
    → MatchOption r ((text ≡ before byte text) × (after byte text ≡ None))
    (λ x. (x.0.now ≡ before byte text) × (after byte text ≡ Some x.1.now))
parts_are byte text None is low =
    let p : ℕ → Bool = λ b. eqb b byte in
    let past = split_once_first byte text None is low in
    let none = list_any_none p text (λ k d l. fails_before_first p text k d (omega (arith, l, past))) in (
      sym (ap (λ n. take n text) past ∙ take_all (length text) text (omega arith)),
      ap (λ b. cond b (Some (after_first p text)) None) none,
    )
parts_are byte text (Some x) is low =
    let p : ℕ → Bool = λ b. eqb b byte in
    let found = split_once_first byte text (Some x) is low in
    let has = list_any_at p text (position_or_len p text) 0 found.0 (passes_at_first p text 0 found.0) in
    (found.1, ap (λ b. cond b (Some (after_first p text)) None) has ∙ ap Some (sym found.2))

-- the numbers up to one, one more
pub one_more_number : (n : ℕ) → range_with_len 0 (n + 1) ≡ range_with_len 0 n ++ n ∷ []
one_more_number n =
    sym (map-id (range_with_len 0 (n + 1))) ∙ map-range_with_len_more (λ x. x) 0 n n (omega arith)
    ∙ ap (λ t. t ++ n ∷ []) (map-id (range_with_len 0 n))

-- the places up to one of the columns that names list, and of the key, with that place
pub listed_more : (table : TableDef ShapeValue) (names : List (Bor (List ℕ))) (n : ℕ) (was now : List ℕ) (copied : Bool)
    → was ≡ filter (λ place. (place == table.key) || list_any (λ name. is_called name.now (slice_get table.columns place)) names)
    (range_with_len 0 n)
    → copied ≡ ((n == table.key) || list_any (λ name. is_called name.now (slice_get table.columns n)) names)
    → now ≡ was ++ cond copied (n ∷ []) []
    → now ≡ filter (λ place. (place == table.key) || list_any (λ name. is_called name.now (slice_get table.columns place)) names)
    (range_with_len 0 (n + 1))
listed_more table names n was now copied before is more =
    let p : ℕ → Bool =
    λ place. (place == table.key) || list_any (λ name. is_called name.now (slice_get table.columns place)) names in
    more ∙ ap (λ t. t ++ cond copied (n ∷ []) []) before
    ∙ ap (λ b. filter p (range_with_len 0 n) ++ cond b (n ∷ []) []) is ∙ sym (filter-append p (range_with_len 0 n) (n ∷ []))
    ∙ ap (filter p) (sym (one_more_number n))

-- a name among some, by their texts
among : (column : Option (ColumnDef ShapeValue)) (names : List (Bor (List ℕ)))
    → list_any (λ name. is_called name.now column) names ≡ list_any (λ name. is_called name column) (map (λ name. name.now) names)
among column [] = refl
among column (name ∷ names) = ap (λ b. is_called name.now column || b) (among column names)

-- the places of the columns that names list are those that their text lists
pub places_are : (table : TableDef ShapeValue) (list : List ℕ) (names : List (Bor (List ℕ))) (n : ℕ)
    → map (λ name. name.now) names ≡ slice_split (λ b. b == 44) list
    → filter (λ place. (place == table.key) || list_any (λ name. is_called name.now (slice_get table.columns place)) names)
    (range_with_len 0 n)
    ≡ filter (λ place. (place == table.key) || is_listed list (slice_get table.columns place)) (range_with_len 0 n)
places_are table list names n same = λ i.
    filter
    (λ place. (place == table.key)
    || (among (slice_get table.columns place) names ∙ ap (list_any (λ name. is_called name (slice_get table.columns place))) same)
    i)
    (range_with_len 0 n)
