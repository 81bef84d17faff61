-- A condition is the AND of its conjuncts.
use Rattle.std.proofs.Common.{◌≡◌, ◌&&◌, List, [], ◌∷◌, ◌++◌, map, Option, refl, sym, ap, ◌∙◌}
use Rattle.std.specs.List.{fold, list_all}
use Rattle.std.proofs.lemmas.List.{map-append}
use Rattle.geometry_model.specs.Geometries.{Geometry}
use Rattle.geometry_model.specs.Dimensions.{Matrix}
use Rattle.table_model.specs.Meanings.{is_true}
use Rattle.table_model.specs.TruthLaws.{Argument, ConjunctsAreJoined, NestedAndsAreOne}
use Rattle.table_model.specs.Truths.{Rows, and_of, all_of, truth_by_parts, truth}
use Rattle.table_model.specs.declared.conditions.Cond.{Cond}
use Rattle.table_model.specs.declared.conditions.Cond.TheVariants as conds
use Rattle.table_model.specs.declared.values.Truth.{Truth}
use Rattle.table_model.specs.declared.values.Truth.TheVariants.{True, False, Unknown}
use Rattle.table_model.proofs.CondFolds.{fold-And}

-- an AND is true exactly where both sides are, since unknown isn't true
pub and_true : (a b : Truth) → is_true (and_of a b) ≡ (is_true a && is_true b)
and_true True b = refl
and_true False b = refl
and_true Unknown True = refl
and_true Unknown False = refl
and_true Unknown Unknown = refl

-- the AND of three truths is the same however it is grouped
and_associates : (a b c : Truth) → and_of (and_of a b) c ≡ and_of a (and_of b c)
and_associates True b c = refl
and_associates False b c = refl
and_associates Unknown True c = refl
and_associates Unknown False True = refl
and_associates Unknown False False = refl
and_associates Unknown False Unknown = refl
and_associates Unknown Unknown True = refl
and_associates Unknown Unknown False = refl
and_associates Unknown Unknown Unknown = refl

and_with_true : (a : Truth) → and_of a True ≡ a
and_with_true True = refl
and_with_true False = refl
and_with_true Unknown = refl

-- AND of all parts, after one that was found
all_from : (t : Truth) (parts : List Truth) → fold and_of t parts ≡ and_of t (all_of parts)
all_from t [] = sym (and_with_true t)
all_from t (x ∷ parts) = all_from (and_of t x) parts ∙ and_associates t x (all_of parts) ∙ ap (and_of t) (sym (all_from x parts))

-- AND of two lists of parts, one behind the other, is AND of what the two give
all_joined : (a b : List Truth) → all_of (a ++ b) ≡ and_of (all_of a) (all_of b)
all_joined [] b = refl
all_joined (x ∷ a) b =
    all_from x (a ++ b) ∙ ap (and_of x) (all_joined a b) ∙ sym (and_associates x (all_of a) (all_of b)) ∙ ap (λ t. and_of t (all_of b)) (sym (all_from x a))

-- the truth of an AND is that of its parts
pub of_parts : {A G : Type 0} (matrix : Geometry → Geometry → Matrix) (denotes : Rows G → A → Option Geometry) (rows : Rows G) (parts : List (Cond A))
    → truth matrix denotes rows (conds.And parts) ≡ all_of (map (truth matrix denotes rows) parts)
of_parts {A = A} matrix denotes rows parts = fold-And A Truth (truth_by_parts matrix denotes rows) parts

-- AND of parts is true exactly where each of them is
pub are_true : {A : Type 0} (f : A → Truth) (parts : List A) → is_true (all_of (map f parts)) ≡ list_all (λ c. is_true (f c)) parts
are_true f [] = refl
are_true f (x ∷ parts) = ap is_true (all_from (f x) (map f parts)) ∙ and_true (f x) (all_of (map f parts)) ∙ ap (λ b. is_true (f x) && b) (are_true f parts)

-- so conjuncts are all true exactly where their AND is
pub conjuncts_are_joined : ConjunctsAreJoined
conjuncts_are_joined matrix denotes rows conjuncts = ap is_true (of_parts matrix denotes rows conjuncts) ∙ are_true (truth matrix denotes rows) conjuncts

-- an AND within an AND may be dissolved, since the grouping of parts doesn't matter
pub nested_ands_are_one : NestedAndsAreOne
nested_ands_are_one matrix denotes rows before inside after =
    of_parts matrix denotes rows (before ++ conds.And inside ∷ after) ∙ ap all_of (map-append f before (conds.And inside ∷ after))
    ∙ all_joined (map f before) (f (conds.And inside) ∷ map f after)
    ∙ ap (and_of (all_of (map f before))) (all_from (f (conds.And inside)) (map f after))
    ∙ ap (λ t. and_of (all_of (map f before)) (and_of t (all_of (map f after)))) (of_parts matrix denotes rows inside)
    ∙ ap (and_of (all_of (map f before))) (sym (all_joined (map f inside) (map f after)))
    ∙ sym (all_joined (map f before) (map f inside ++ map f after))
    ∙ ap (λ l. all_of (map f before ++ l)) (sym (map-append f inside after))
    ∙ ap all_of (sym (map-append f before (inside ++ after)))
    ∙ sym (of_parts matrix denotes rows (before ++ (inside ++ after)))
  where
    f : Cond Argument → Truth
    f = truth matrix denotes rows
