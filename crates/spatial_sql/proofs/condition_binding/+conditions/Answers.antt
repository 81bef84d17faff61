-- A condition is bound by its parts: at each variant its step, or the first fault of a part.
use Rattle.std.proofs.Common.{map, Ok, sym, ap, subst, ◌∙◌}
use Rattle.table_model.specs.Binding.{◌>>=◌}
use Rattle.table_model.specs.Loading.{each}
use Rattle.table_model.specs.declared.conditions.Cond.TheVariants as conds
use Rattle.spatial_sql.specs.Scopes.{Binds, cond_in}
use Rattle.spatial_sql.proofs.ConditionFacts.{bound-or, bound-and, bound-not, bound-compare, bound-is-null, bound-is-empty, bound-relates}
use Rattle.spatial_sql.proofs.Outcomes.{fault-stays}
use Rattle.spatial_sql.proofs.condition_binding.+conditions.Goals as goal

pub bound_cond-returns-in_err-bound_parts-in-Or : goal.bound_cond-returns-in_err-bound_parts-in-Or
bound_cond-returns-in_err-bound_parts-in-Or t c =
    subst (Binds c.from_residual.result) (sym (bound-or c.args.scope c.args.written.now c.in-Or.parts c.as_slice.result.now c.in-Or.is c.as_slice.ensures))
    (fault-stays c.from_residual.result c.in_err-bound_parts-in-Or.field-0.0 (each (map (cond_in c.args.scope) c.as_slice.result.now)) (λ bound. Ok (conds.Or bound))
    c.from_residual.ensures.1 c.in_err-bound_parts-in-Or.ensures)

pub bound_cond-returns-in_err-bound_parts-in-And : goal.bound_cond-returns-in_err-bound_parts-in-And
bound_cond-returns-in_err-bound_parts-in-And t c =
    subst (Binds c.from_residual-in_err-bound_parts-in-And.result)
    (sym (bound-and c.args.scope c.args.written.now c.in-And.parts c.as_slice-in-And.result.now c.in-And.is c.as_slice-in-And.ensures))
    (fault-stays c.from_residual-in_err-bound_parts-in-And.result c.in_err-bound_parts-in-And.field-0.0 (each (map (cond_in c.args.scope) c.as_slice-in-And.result.now)) (λ bound. Ok (conds.And bound))
    c.from_residual-in_err-bound_parts-in-And.ensures.1 c.in_err-bound_parts-in-And.ensures)

pub bound_cond-returns-in_err-part-in-Not : goal.bound_cond-returns-in_err-part-in-Not
bound_cond-returns-in_err-part-in-Not t c =
    subst (Binds c.from_residual-in_err-part-in-Not.result) (sym (bound-not c.args.scope c.args.written.now c.in-Not.part c.get.result.now c.in-Not.is c.get.ensures))
    (fault-stays c.from_residual-in_err-part-in-Not.result c.in_err-part-in-Not.field-0.0 (cond_in c.args.scope c.get.result.now) (λ bound. Ok (conds.Not bound))
    c.from_residual-in_err-part-in-Not.ensures.1 c.in_err-part-in-Not.ensures)

pub bound_cond-returns-in_ok-bound_parts-in-Or : goal.bound_cond-returns-in_ok-bound_parts-in-Or
bound_cond-returns-in_ok-bound_parts-in-Or t c =
    bound-or c.args.scope c.args.written.now c.in-Or.parts c.as_slice.result.now c.in-Or.is c.as_slice.ensures
    ∙ ap (λ r. r >>= (λ bound. Ok (conds.Or bound))) c.in_ok-bound_parts-in-Or.ensures

pub bound_cond-returns-in_ok-bound_parts-in-And : goal.bound_cond-returns-in_ok-bound_parts-in-And
bound_cond-returns-in_ok-bound_parts-in-And t c =
    bound-and c.args.scope c.args.written.now c.in-And.parts c.as_slice-in-And.result.now c.in-And.is c.as_slice-in-And.ensures
    ∙ ap (λ r. r >>= (λ bound. Ok (conds.And bound))) c.in_ok-bound_parts-in-And.ensures

pub bound_cond-returns-in_ok-part-in-Not : goal.bound_cond-returns-in_ok-part-in-Not
bound_cond-returns-in_ok-part-in-Not t c =
    subst (Binds c.negated.result)
    (sym (bound-not c.args.scope c.args.written.now c.in-Not.part c.get.result.now c.in-Not.is c.get.ensures ∙ ap (λ r. r >>= (λ bound. Ok (conds.Not bound))) c.in_ok-part-in-Not.ensures))
    c.negated.ensures

pub bound_cond-returns-in-Compare : goal.bound_cond-returns-in-Compare
bound_cond-returns-in-Compare t c = subst (Binds c.comparison.result) (sym (bound-compare c.args.scope c.args.written.now _ _ _ _ c.in-Compare.is)) c.comparison.ensures

pub bound_cond-returns-in-IsNull : goal.bound_cond-returns-in-IsNull
bound_cond-returns-in-IsNull t c = subst (Binds c.null_test.result) (sym (bound-is-null c.args.scope c.args.written.now _ c.in-IsNull.is)) c.null_test.ensures

pub bound_cond-returns-in-IsEmpty : goal.bound_cond-returns-in-IsEmpty
bound_cond-returns-in-IsEmpty t c = subst (Binds c.emptiness.result) (sym (bound-is-empty c.args.scope c.args.written.now _ _ c.in-IsEmpty.is)) c.emptiness.ensures

pub bound_cond-returns-in-Relates : goal.bound_cond-returns-in-Relates
bound_cond-returns-in-Relates t c = subst (Binds c.relation.result) (sym (bound-relates c.args.scope c.args.written.now _ _ _ _ c.in-Relates.is)) c.relation.ensures
