-- What a written condition is bound to in a scope, at each of its variants.
use Rattle.std.proofs.Common.{◌≡◌, ℕ, List, map, Ok, sym, ap, ◌∙◌}
use Rattle.table_model.specs.Binding.{Checked, ◌>>=◌, bound_by_parts}
use Rattle.table_model.specs.GeometryColumns.{geometry_binding}
use Rattle.table_model.specs.Loading.{each}
use Rattle.table_model.specs.declared.conditions.Comparison.{Comparison}
use Rattle.table_model.specs.declared.conditions.Cond.{Cond}
use Rattle.table_model.specs.declared.conditions.Cond.TheVariants as conds
use Rattle.table_model.specs.declared.queries.WrittenCond.{WrittenCond}
use Rattle.table_model.specs.declared.queries.WrittenCond.TheOpen.{WrittenCond-F}
use Rattle.table_model.specs.declared.queries.WrittenCond.TheVariants as written
use Rattle.table_model.specs.declared.queries.WrittenGeometry.{WrittenGeometry}
use Rattle.table_model.specs.declared.queries.WrittenOperand.{WrittenOperand}
use Rattle.table_model.specs.declared.queries.WrittenPredicate.{WrittenPredicate}
use Rattle.table_model.proofs.WrittenFolds.{fold-Or, fold-And, fold-Not, fold-Compare, fold-IsNull, fold-IsEmpty, fold-Relates}
use Rattle.spatial_sql.specs.Scopes.{Argument, comparison_in, null_test_in, emptiness_in, relation_in, cond_in}
use Rattle.spatial_sql.specs.declared.scope.Scope.{Scope}

abbrev Written : Type 0
Written = WrittenCond WrittenGeometry

abbrev step : Scope → WrittenCond-F WrittenGeometry (Checked (Cond Argument)) → Checked (Cond Argument)
step scope = bound_by_parts geometry_binding scope.definitions.now scope.references.now

-- OR and AND bind all their parts, in order
pub bound-or : (scope : Scope) (w : Written) (parts these : List Written) → w ≡ written.Or parts → these ≡ parts
    → cond_in scope w ≡ (each (map (cond_in scope) these) >>= (λ bound. Ok (conds.Or bound)))
bound-or scope w parts these is same =
    ap (cond_in scope) is ∙ fold-Or WrittenGeometry (Checked (Cond Argument)) (step scope) parts
    ∙ ap (λ ps. each (map (cond_in scope) ps) >>= (λ bound. Ok (conds.Or bound))) (sym same)

pub bound-and : (scope : Scope) (w : Written) (parts these : List Written) → w ≡ written.And parts → these ≡ parts
    → cond_in scope w ≡ (each (map (cond_in scope) these) >>= (λ bound. Ok (conds.And bound)))
bound-and scope w parts these is same =
    ap (cond_in scope) is ∙ fold-And WrittenGeometry (Checked (Cond Argument)) (step scope) parts
    ∙ ap (λ ps. each (map (cond_in scope) ps) >>= (λ bound. Ok (conds.And bound))) (sym same)

-- NOT binds its part
pub bound-not : (scope : Scope) (w part this : Written) → w ≡ written.Not part → this ≡ part
    → cond_in scope w ≡ (cond_in scope this >>= (λ bound. Ok (conds.Not bound)))
bound-not scope w part this is same =
    ap (cond_in scope) is ∙ fold-Not WrittenGeometry (Checked (Cond Argument)) (step scope) part
    ∙ ap (λ p. cond_in scope p >>= (λ bound. Ok (conds.Not bound))) (sym same)

pub bound-compare : (scope : Scope) (w : Written) (at : ℕ) (sign : Comparison) (a b : WrittenOperand WrittenGeometry) → w ≡ written.Compare at sign a b
    → cond_in scope w ≡ comparison_in scope at sign a b
bound-compare scope w at sign a b is = ap (cond_in scope) is ∙ fold-Compare WrittenGeometry (Checked (Cond Argument)) (step scope) at sign a b

pub bound-is-null : (scope : Scope) (w : Written) (a : WrittenOperand WrittenGeometry) → w ≡ written.IsNull a → cond_in scope w ≡ null_test_in scope a
bound-is-null scope w a is = ap (cond_in scope) is ∙ fold-IsNull WrittenGeometry (Checked (Cond Argument)) (step scope) a

pub bound-is-empty : (scope : Scope) (w : Written) (at : ℕ) (a : WrittenGeometry) → w ≡ written.IsEmpty at a → cond_in scope w ≡ emptiness_in scope at a
bound-is-empty scope w at a is = ap (cond_in scope) is ∙ fold-IsEmpty WrittenGeometry (Checked (Cond Argument)) (step scope) at a

pub bound-relates : (scope : Scope) (w : Written) (at : ℕ) (predicate : WrittenPredicate) (a b : WrittenGeometry) → w ≡ written.Relates at predicate a b
    → cond_in scope w ≡ relation_in scope at predicate a b
bound-relates scope w at predicate a b is =
    ap (cond_in scope) is ∙ fold-Relates WrittenGeometry (Checked (Cond Argument)) (step scope) at predicate a b
