-- The conjuncts of an AND are those of its parts; any other condition is one.
use Rattle.std.proofs.Common.{◌≡◌, ◌⊎◌, inl, inr, ℕ, List, map, sym, ap, subst, ◌∙◌}
use Rattle.table_model.specs.GeometryColumns.{geometry_binding}
use Rattle.table_model.specs.declared.conditions.Comparison.{Comparison}
use Rattle.table_model.specs.declared.queries.WrittenCond.{WrittenCond}
use Rattle.table_model.specs.declared.queries.WrittenCond.TheVariants as written
use Rattle.table_model.specs.declared.queries.WrittenGeometry.{WrittenGeometry}
use Rattle.table_model.specs.declared.queries.WrittenOperand.{WrittenOperand}
use Rattle.table_model.specs.declared.queries.WrittenPredicate.{WrittenPredicate}
use Rattle.grammar_laws.specs.FilterLaws.{BoundByParts, joined_in_order, only}
use Rattle.grammar_laws.proofs.WrittenConjuncts.{by_written_parts}
use Rattle.spatial_sql.specs.Scopes.{Binds, cond_in, conjuncts_in}
use Rattle.spatial_sql.specs.declared.scope.Scope.{Scope}
use Rattle.spatial_sql.proofs.conjuncts.+conjuncts.Goals as goal

-- the conjuncts of a condition by its parts, in a scope
by_parts : (scope : Scope) → BoundByParts geometry_binding scope.definitions.now scope.references.now
by_parts scope = by_written_parts geometry_binding scope.definitions.now scope.references.now

abbrev IsAlone : Scope → WrittenCond WrittenGeometry → Type 0
IsAlone scope w = conjuncts_in scope w ≡ only (cond_in scope w)

-- the kinds of conditions that are one conjunct
abbrev IsOther : WrittenCond WrittenGeometry → Type 0
IsOther w =
    ((parts : List (WrittenCond WrittenGeometry)) × (w ≡ written.Or parts))
    ⊎ (((part : WrittenCond WrittenGeometry) × (w ≡ written.Not part))
    ⊎ (((at : ℕ) × (sign : Comparison) × (a : WrittenOperand WrittenGeometry) × (b : WrittenOperand WrittenGeometry) × (w ≡ written.Compare at sign a b))
    ⊎ (((a : WrittenOperand WrittenGeometry) × (w ≡ written.IsNull a))
    ⊎ (((at : ℕ) × (a : WrittenGeometry) × (w ≡ written.IsEmpty at a))
    ⊎ ((at : ℕ) × (predicate : WrittenPredicate) × (a : WrittenGeometry) × (b : WrittenGeometry) × (w ≡ written.Relates at predicate a b))))))

is-alone : (scope : Scope) (w : WrittenCond WrittenGeometry) → IsOther w → IsAlone scope w
is-alone scope w (inl o) = subst (IsAlone scope) (sym o.1) ((by_parts scope).or o.0)
is-alone scope w (inr (inl o)) = subst (IsAlone scope) (sym o.1) ((by_parts scope).not o.0)
is-alone scope w (inr (inr (inl o))) = subst (IsAlone scope) (sym o.4) ((by_parts scope).compare o.0 o.1 o.2 o.3)
is-alone scope w (inr (inr (inr (inl o)))) = subst (IsAlone scope) (sym o.1) ((by_parts scope).is_null o.0)
is-alone scope w (inr (inr (inr (inr (inl o))))) = subst (IsAlone scope) (sym o.2) ((by_parts scope).is_empty o.0 o.1)
is-alone scope w (inr (inr (inr (inr (inr o))))) = subst (IsAlone scope) (sym o.4) ((by_parts scope).relates o.0 o.1 o.2 o.3)

pub bound_conjuncts-returns-in-And : goal.bound_conjuncts-returns-in-And
bound_conjuncts-returns-in-And t c =
    subst (Binds c.joined.result)
    (sym (ap (conjuncts_in c.args.scope) c.in-And.is
    ∙ (by_parts c.args.scope).and c.in-And.parts
    ∙ ap (λ parts. joined_in_order (map (conjuncts_in c.args.scope) parts)) (sym c.as_slice.ensures)))
    c.joined.ensures

pub bound_conjuncts-returns-in-Or : goal.bound_conjuncts-returns-in-Or
bound_conjuncts-returns-in-Or t c = subst (Binds c.alone.result) (sym (is-alone c.args.scope c.args.written.now c.in-Or.is)) c.alone.ensures
