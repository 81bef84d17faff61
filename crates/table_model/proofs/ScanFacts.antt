-- The candidates of scans.
use Rattle.std.specs.Prelude.{◌≡◌, refl, ℕ, Bool, true, cond, List, [], ◌∷◌, map, filter, flat_map, Option}
use Rattle.std.proofs.Common.{ap, ◌∙◌, sym}
use mathlib.Core.Path.{fun_ext}
use Rattle.geometry_model.specs.Geometries.{Geometry}
use Rattle.table_model.specs.Candidates.{candidates_among, gives, placed, pairs_with}
use Rattle.table_model.specs.Meanings.{Table, product}
use Rattle.table_model.specs.Places.{choices, places_in, rows_at, row_at}
use Rattle.table_model.specs.Truths.{Rows}
use Rattle.table_model.specs.declared.conditions.Cond.{Cond}
use Rattle.table_model.specs.declared.plans.AccessMethod.TheVariants as methods
use Rattle.table_model.specs.declared.plans.Access.{Access}

-- a test that all pass keeps everything
all_kept : {X : Type 0} (test : X → Bool) (xs : List X) → ((x : X) → test x ≡ true) → filter test xs ≡ xs
all_kept test [] h = refl
all_kept test (x ∷ xs) h = ap (λ b. cond b (x ∷ filter test xs) (filter test xs)) (h x) ∙ ap (λ ys. x ∷ ys) (all_kept test xs h)

-- the product of one list
product_of_one : {X : Type 0} (xs : List X) → product (xs ∷ []) ≡ map (λ x. x ∷ []) xs
product_of_one [] = refl
product_of_one (x ∷ xs) = ap (λ ys. (x ∷ []) ∷ ys) (product_of_one xs)

-- one element before each choice
with_each : {X : Type 0} (x : X) (ys : List X) → map (λ choice. x ∷ choice) (map (λ y. y ∷ []) ys) ≡ map (λ y. x ∷ y ∷ []) ys
with_each x [] = refl
with_each x (y ∷ ys) = ap (λ zs. (x ∷ y ∷ []) ∷ zs) (with_each x ys)

abbrev scan : ℕ → Access
scan reference = record { reference = reference; method = methods.Scan }

-- a scan tests nothing, so the candidates over one table are all its places
pub scan_of_one : {A G : Type 0} (denotes : Rows G → A → Option Geometry) (conjuncts : List (Cond A)) (table : Table G)
    → candidates_among denotes conjuncts (table ∷ []) (scan 0 ∷ []) ≡ choices (table ∷ [])
scan_of_one denotes conjuncts table =
    all_kept (λ choice. gives denotes conjuncts methods.Scan (rows_at (table ∷ []) choice)) (map (λ place. place ∷ []) (places_in table)) (λ rows. refl)
    ∙ sym (product_of_one (places_in table))

-- a place with each place of the second table
pairs : {A G : Type 0} (denotes : Rows G → A → Option Geometry) (conjuncts : List (Cond A)) (first second : Table G) (place : ℕ)
    → pairs_with denotes conjuncts (first ∷ second ∷ []) (scan 1) place ≡ map (λ choice. place ∷ choice) (product (places_in second ∷ []))
pairs denotes conjuncts first second place =
    all_kept (λ choice. gives denotes conjuncts methods.Scan (rows_at (first ∷ second ∷ []) choice)) (map (λ other. place ∷ other ∷ []) (places_in second)) (λ rows. refl)
    ∙ sym (with_each place (places_in second))
    ∙ ap (map (λ choice. place ∷ choice)) (sym (product_of_one (places_in second)))

-- and over two tables they are each place of the first with each place of the second, in the order of the choices
pub scans_of_two : {A G : Type 0} (denotes : Rows G → A → Option Geometry) (conjuncts : List (Cond A)) (first second : Table G)
    → candidates_among denotes conjuncts (first ∷ second ∷ []) (scan 0 ∷ scan 1 ∷ []) ≡ choices (first ∷ second ∷ [])
scans_of_two denotes conjuncts first second =
    ap (flat_map (pairs_with denotes conjuncts (first ∷ second ∷ []) (scan 1))) (all_kept (λ place. gives denotes conjuncts methods.Scan (placed 0 (row_at first place) [])) (places_in first) (λ place. refl))
    ∙ ap (λ f. flat_map f (places_in first)) (fun_ext (pairs denotes conjuncts first second))
