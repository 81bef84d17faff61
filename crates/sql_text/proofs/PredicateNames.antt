-- A predicate is read by the name of its function.
use Rattle.std.proofs.Common.{◌≡◌, ℕ, Bool, true, false, if◌then◌else◌, List, [], ◌∷◌, ◌++◌, map, Some, None, codes, refl}
use Rattle.geometry_model.specs.declared.relations.Predicate.{Predicate}
use Rattle.table_model.specs.Parsers.{place, next}
use Rattle.table_model.specs.QueryReading.{Functions, calls, called_or, relates, relates_by, truth_tested, comparison, predicate}
use Rattle.table_model.specs.Queries.{Condition}
use Rattle.table_model.specs.declared.tokens.Token.{Token}
use Rattle.sql_text.specs.Predicates.{named_predicates, named_in, empty_argument, other_functions, other_function, function_by, predicate_by}
use Rattle.sql_text.specs.declared.predicates.Function.TheVariants as f

-- the functions of some named predicates
abbrev pub functions_of : List (List ℕ × Predicate) → ℕ → Functions Condition
functions_of names at = map (λ n. (n.0, truth_tested (relates at n.1))) names

by_others : (ts : List Token) → called_or (other_functions (place ts)) comparison ts ≡ predicate_by (other_function ts) ts
by_others ts = go (calls (codes "ST_Relate") ts) (calls (codes "ST_IsEmpty") ts)
  where
    go : (relate empty : Bool)
        → (if relate then truth_tested (relates_by (place ts)) (next ts) else (if empty then truth_tested (empty_argument (place ts)) (next ts) else comparison ts))
        ≡ predicate_by (if relate then Some f.Relate else (if empty then Some f.IsEmpty else None)) ts
    go true empty = refl
    go false true = refl
    go false false = refl

by_names : (names : List (List ℕ × Predicate)) (ts : List Token)
    → called_or (functions_of names (place ts) ++ other_functions (place ts)) comparison ts ≡ predicate_by (function_by (named_in names ts) ts) ts
by_names [] ts = by_others ts
by_names (n ∷ more) ts = go (calls n.0 ts) (by_names more ts)
  where
    go : (b : Bool) → called_or (functions_of more (place ts) ++ other_functions (place ts)) comparison ts ≡ predicate_by (function_by (named_in more ts) ts) ts
        → (if b then truth_tested (relates (place ts) n.1) (next ts) else called_or (functions_of more (place ts) ++ other_functions (place ts)) comparison ts)
        ≡ predicate_by (function_by (if b then Some n.1 else named_in more ts) ts) ts
    go true others = refl
    go false others = others

-- a predicate is read by its name
pub predicate_is : (ts : List Token) → predicate ts ≡ predicate_by (function_by (named_in named_predicates ts) ts) ts
unfolding predicate
predicate_is ts = by_names named_predicates ts
