-- The laws of the constants of a query, from those of its conjuncts.
use Rattle.std.proofs.Common.{◌≡◌, ℕ, true, if◌then◌else◌, List, [], Some, is_none, refl, sym, ap, subst, ◌∙◌}
use Rattle.std.specs.Option.{option_map}
use Rattle.geometry_laws.proofs.FirstFaultFacts.{none_is_found_where_valid}
use Rattle.geometry_model.specs.Geometries.{Geometry}
use Rattle.geometry_model.specs.Validity.{IsValid}
use Rattle.statements.specs.ConstantLaws.{OneConstantIsReplaced, ReplacedStaysBound, SameConstantChangesNothing}
use Rattle.statements.specs.Constants.{Argument, Constant, conditions_with, constant_type, HasNoRows, IsSound, may_replace, takes}
use Rattle.statements.specs.Constants.{closed, type_of, with_constant, with_fitting}
use Rattle.statements.proofs.ReplacedFacts.{of_all}
use Rattle.table_model.specs.BoundQueries.{IsBound, geometry_fits}
use Rattle.table_model.specs.SpatialTables.{SpatialQuery, SpatialSchema}
use Rattle.table_model.specs.declared.conditions.Cond.{Cond}
use Rattle.table_model.specs.declared.typing.OperandType.{OperandType}
use Rattle.table_model.specs.declared.typing.OperandType.TheVariants as types
use Rattle.table_model.specs.declared.values.Value.TheVariants as values

-- a constant takes itself
takes_itself : (t : OperandType) → takes t t ≡ true
takes_itself types.Integer = refl
takes_itself types.Text = refl
takes_itself types.Geometry = refl
takes_itself types.Null = refl

with_conjuncts : SpatialQuery → List (Cond Argument) → SpatialQuery
with_conjuncts query conjuncts = record query { conjuncts = conjuncts }

pub same_constant : SameConstantChangesNothing
unfolding with_conjuncts
same_constant k value query e =
    let m : may_replace (constant_type k query) value ≡ true = ap (λ o. may_replace (option_map type_of o) value) e
    ∙ takes_itself (type_of value) in
    ap (with_conjuncts query) ((of_all value query.conjuncts k m).same e)

pub one_replaced : OneConstantIsReplaced
one_replaced k value query m = (of_all value query.conjuncts k m).constants

pub stays_bound : ReplacedStaysBound
stays_bound k value query definitions m sound is = record {
  references = is.references;
  items = is.items;
  conjuncts = (of_all value query.conjuncts k m).fits sound definitions query.references is.conjuncts;
  counted = is.counted;
}

-- what is put where it may be is put
pub fitting : (k : ℕ) (value : Constant) (query : SpatialQuery) → may_replace (constant_type k query) value ≡ true
    → with_constant k value query ≡ with_fitting k value query
fitting k value query m = sym (ap (λ b. if b then with_constant k value query else query) m)

-- a valid geometry is sound
pub is_sound : (value : Constant) (g : Geometry) → value ≡ values.Geometry g → IsValid g → IsSound value
is_sound value g e valid = subst IsSound (sym e) (ap is_none ((none_is_found_where_valid g).1 valid))

-- ---- what putting a value comes to

abbrev pub with_conditions : SpatialQuery → List (Cond Argument) → SpatialQuery
with_conditions query conjuncts = record query { conjuncts = conjuncts }

pub done_bound : (k : ℕ) (v : Constant) (old : SpatialQuery) (cs : List (Cond Argument))
    → may_replace (constant_type k old) v ≡ true → IsSound v → cs ≡ conditions_with k v old.conjuncts
    → (definitions : SpatialSchema) → IsBound geometry_fits definitions old
    → IsBound geometry_fits definitions (with_conditions old cs)
done_bound k v old cs m sound e definitions is =
    subst (λ query. IsBound geometry_fits definitions query) (sym (ap (with_conditions old) e))
    (stays_bound k v old definitions m sound is)

pub no_rows : (old : SpatialQuery) → HasNoRows (closed old)
no_rows old = λ truth tables. refl
