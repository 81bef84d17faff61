-- What of the candidates of lawful accesses is kept where all conjuncts are true: what of all choices of places is.
use Rattle.std.specs.Prelude.{◌≡◌, refl, ℕ, Bool, true, List, [], ◌∷◌, map, filter, flat_map, IsPermutation, Option, Some, None}
use Rattle.std.proofs.Common.{ap, ◌∙◌, sym}
use mathlib.Core.Path.{fun_ext}
use Rattle.geometry_model.specs.Geometries.{Geometry}
use Rattle.geometry_model.specs.Dimensions.{Matrix}
use Rattle.geometry_model.specs.GivenMatrix.{GivesMatrix}
use Rattle.table_laws.proofs.Lawful.{IsDriven, access}
use Rattle.table_laws.proofs.PlanLists.{filter_flat, filter_twice, kept_nested, crossed}
use Rattle.table_laws.proofs.Probes.{Condition, rows_valid, method_gives, outer_gives}
use Rattle.table_model.specs.Arguments.{denoted}
use Rattle.table_model.specs.Candidates.{candidates_among, gives, placed}
use Rattle.table_model.specs.Meanings.{Table, product, all_true}
use Rattle.table_model.specs.Places.{Choice, places_in, row_at, rows_at, choices}
use Rattle.table_model.specs.Truths.{truth}
use Rattle.table_model.specs.ValidGeometries.{HasValidGeometries, HasValidLiterals}
use Rattle.table_model.specs.declared.plans.AccessMethod.{AccessMethod}

-- all conjuncts are true at the rows that are at a choice
abbrev pub kept : (Geometry → Geometry → Matrix) → List Condition → List (Table Geometry) → Choice → Bool
kept matrix conjuncts tables choice = all_true (truth matrix denoted) conjuncts (rows_at tables choice)

-- what the lemmas ask for
pub record Asked (matrix : Geometry → Geometry → Matrix) (conjuncts : List Condition) (tables : List (Table Geometry)) : Type 0 where
  pub gives : GivesMatrix matrix
  pub literals : HasValidLiterals conjuncts
  pub geometries : HasValidGeometries tables

-- where all conjuncts are true, a driven method gives the rows
given : (matrix : Geometry → Geometry → Matrix) (conjuncts : List Condition) (tables : List (Table Geometry)) → Asked matrix conjuncts tables
    → (outer : Option ℕ) (reference : ℕ) (m : AccessMethod) → IsDriven conjuncts outer reference m
    → (choice : Choice) → kept matrix conjuncts tables choice ≡ true → gives denoted conjuncts m (rows_at tables choice) ≡ true
given matrix conjuncts tables a outer reference m d choice t =
    method_gives matrix a.gives conjuncts a.literals outer reference m d (rows_at tables choice) (rows_valid tables a.geometries choice) t

-- ---- choices

-- the product of one table is its places, each alone
product_of_one : {X : Type 0} (xs : List X) → product (xs ∷ []) ≡ map (λ x. x ∷ []) xs
product_of_one [] = refl
product_of_one (x ∷ xs) = ap (λ ys. (x ∷ []) ∷ ys) (product_of_one xs)

-- one place, chosen with each place of a second table
with_each : {X : Type 0} (x : X) (ys : List X) → map (λ choice. x ∷ choice) (product (ys ∷ [])) ≡ map (λ y. x ∷ y ∷ []) ys
with_each x ys = ap (map (λ choice. x ∷ choice)) (product_of_one ys) ∙ go ys
  where
    go : (zs : List _) → map (λ choice. x ∷ choice) (map (λ z. z ∷ []) zs) ≡ map (λ y. x ∷ y ∷ []) zs
    go [] = refl
    go (z ∷ zs) = ap (λ rest. (x ∷ z ∷ []) ∷ rest) (go zs)

-- the choices in two tables
pub choices_of_two : (first second : Table Geometry) → choices (first ∷ second ∷ []) ≡ flat_map (λ i. map (λ j. i ∷ j ∷ []) (places_in second)) (places_in first)
choices_of_two first second = ap (λ f. flat_map f (places_in first)) (fun_ext (λ i. with_each i (places_in second)))

-- the choices in one table: each of its places, alone
pub choices_of_one : (table : Table Geometry) → choices (table ∷ []) ≡ map (λ i. i ∷ []) (places_in table)
choices_of_one table = product_of_one (places_in table)

-- what is kept of the choices in two tables, by the place in the first
kept_of_two : (matrix : Geometry → Geometry → Matrix) (conjuncts : List Condition) (first second : Table Geometry)
    → filter (kept matrix conjuncts (first ∷ second ∷ [])) (choices (first ∷ second ∷ []))
    ≡ flat_map (λ i. filter (kept matrix conjuncts (first ∷ second ∷ [])) (map (λ j. i ∷ j ∷ []) (places_in second))) (places_in first)
kept_of_two matrix conjuncts first second =
    ap (filter (kept matrix conjuncts (first ∷ second ∷ []))) (choices_of_two first second)
    ∙ filter_flat (kept matrix conjuncts (first ∷ second ∷ [])) (λ i. map (λ j. i ∷ j ∷ []) (places_in second)) (places_in first)

-- ---- candidates

-- one access: the rows that its method leaves out aren't kept anyway
pub kept_by_one : (matrix : Geometry → Geometry → Matrix) (conjuncts : List Condition) (table : Table Geometry) → Asked matrix conjuncts (table ∷ [])
    → (m : AccessMethod) → IsDriven conjuncts None 0 m
    → filter (kept matrix conjuncts (table ∷ [])) (candidates_among denoted conjuncts (table ∷ []) (access 0 m ∷ [])) ≡ filter (kept matrix conjuncts (table ∷ [])) (choices (table ∷ []))
kept_by_one matrix conjuncts table a m d =
    filter_twice (kept matrix conjuncts (table ∷ [])) (λ choice. gives denoted conjuncts m (rows_at (table ∷ []) choice)) (map (λ place. place ∷ []) (places_in table)) (given matrix conjuncts (table ∷ []) a None 0 m d)
    ∙ sym (ap (filter (kept matrix conjuncts (table ∷ []))) (choices_of_one table))

-- the outer access of two gives the place of its reference in a choice that is kept
outer_first : (matrix : Geometry → Geometry → Matrix) (conjuncts : List Condition) (first second : Table Geometry) → Asked matrix conjuncts (first ∷ second ∷ [])
    → (m : AccessMethod) → IsDriven conjuncts None 0 m → (i j : ℕ) → kept matrix conjuncts (first ∷ second ∷ []) (i ∷ j ∷ []) ≡ true → gives denoted conjuncts m (placed 0 (row_at first i) []) ≡ true
outer_first matrix conjuncts first second a m d i j t =
    outer_gives conjuncts 0 m d (placed 0 (row_at first i) []) (rows_at (first ∷ second ∷ []) (i ∷ j ∷ [])) refl
    ∙ given matrix conjuncts (first ∷ second ∷ []) a None 0 m d (i ∷ j ∷ []) t

-- the same where the outer access is of the second reference
outer_second : (matrix : Geometry → Geometry → Matrix) (conjuncts : List Condition) (first second : Table Geometry) → Asked matrix conjuncts (first ∷ second ∷ [])
    → (m : AccessMethod) → IsDriven conjuncts None 1 m → (j i : ℕ) → kept matrix conjuncts (first ∷ second ∷ []) (i ∷ j ∷ []) ≡ true → gives denoted conjuncts m (placed 1 (row_at second j) []) ≡ true
outer_second matrix conjuncts first second a m d j i t =
    outer_gives conjuncts 1 m d (placed 1 (row_at second j) []) (rows_at (first ∷ second ∷ []) (i ∷ j ∷ [])) refl
    ∙ given matrix conjuncts (first ∷ second ∷ []) a None 1 m d (i ∷ j ∷ []) t

-- where the first reference is the outer one
pub kept_in_order : (matrix : Geometry → Geometry → Matrix) (conjuncts : List Condition) (first second : Table Geometry) → Asked matrix conjuncts (first ∷ second ∷ [])
    → (m n : AccessMethod) → IsDriven conjuncts None 0 m → IsDriven conjuncts (Some 0) 1 n
    → filter (kept matrix conjuncts (first ∷ second ∷ [])) (candidates_among denoted conjuncts (first ∷ second ∷ []) (access 0 m ∷ access 1 n ∷ []))
    ≡ filter (kept matrix conjuncts (first ∷ second ∷ [])) (choices (first ∷ second ∷ []))
kept_in_order matrix conjuncts first second a m n d e =
    kept_nested (kept matrix conjuncts (first ∷ second ∷ [])) (λ choice. gives denoted conjuncts n (rows_at (first ∷ second ∷ []) choice)) (λ i. gives denoted conjuncts m (placed 0 (row_at first i) []))
    (λ i j. i ∷ j ∷ []) (places_in first) (places_in second)
    (given matrix conjuncts (first ∷ second ∷ []) a (Some 0) 1 n e) (outer_first matrix conjuncts first second a m d)
    ∙ sym (kept_of_two matrix conjuncts first second)

-- where the second one is
pub kept_crossed : (matrix : Geometry → Geometry → Matrix) (conjuncts : List Condition) (first second : Table Geometry) → Asked matrix conjuncts (first ∷ second ∷ [])
    → (m n : AccessMethod) → IsDriven conjuncts None 1 m → IsDriven conjuncts (Some 1) 0 n
    → IsPermutation (filter (kept matrix conjuncts (first ∷ second ∷ [])) (candidates_among denoted conjuncts (first ∷ second ∷ []) (access 1 m ∷ access 0 n ∷ [])))
    (filter (kept matrix conjuncts (first ∷ second ∷ [])) (choices (first ∷ second ∷ [])))
kept_crossed matrix conjuncts first second a m n d e = rw (by_second, kept_of_two matrix conjuncts first second) (crossed t (λ i j. i ∷ j ∷ []) (places_in first) (places_in second))
  where
    t : Choice → Bool
    t = kept matrix conjuncts (first ∷ second ∷ [])

    by_second : filter (kept matrix conjuncts (first ∷ second ∷ [])) (candidates_among denoted conjuncts (first ∷ second ∷ []) (access 1 m ∷ access 0 n ∷ []))
        ≡ flat_map (λ j. filter (kept matrix conjuncts (first ∷ second ∷ [])) (map (λ i. i ∷ j ∷ []) (places_in first))) (places_in second)
    by_second =
        kept_nested (kept matrix conjuncts (first ∷ second ∷ [])) (λ choice. gives denoted conjuncts n (rows_at (first ∷ second ∷ []) choice)) (λ j. gives denoted conjuncts m (placed 1 (row_at second j) []))
        (λ j i. i ∷ j ∷ []) (places_in second) (places_in first)
        (given matrix conjuncts (first ∷ second ∷ []) a (Some 1) 0 n e) (outer_second matrix conjuncts first second a m d)
