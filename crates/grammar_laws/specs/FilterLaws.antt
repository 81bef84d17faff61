-- The laws of what is filtered: the conjuncts of a query pass exactly the rows at which ON and WHERE are true.
use Rattle.std.specs.Prelude.{◌≡◌, ℕ, if◌then◌else◌, List, [], ◌∷◌, ◌++◌, map, Option, Ok}
use Rattle.std.specs.List.{flat_map}
use Rattle.geometry_model.specs.Geometries.{Geometry}
use Rattle.geometry_model.specs.Dimensions.{Matrix}
use Rattle.geometry_model.specs.declared.relations.Predicate.{Predicate}
use Rattle.table_model.specs.Binding.{GeometryBinding, Checked, ◌>>=◌, binding, statement, bound_cond, bound_conjuncts}
use Rattle.table_model.specs.Meanings.{Table, all_true, is_true, search_condition, passing_rows, up_to, meaning}
use Rattle.table_model.specs.Statements.{Statement, by_conjuncts, conjuncts_of}
use Rattle.table_model.specs.Truths.{Rows, truth}
use Rattle.table_model.specs.declared.conditions.Comparison.{Comparison}
use Rattle.table_model.specs.declared.conditions.Operand.{Operand}
use Rattle.table_model.specs.declared.conditions.Cond.{Cond}
use Rattle.table_model.specs.declared.conditions.Cond.TheVariants as conds
use Rattle.table_model.specs.declared.definitions.TableDef.{TableDef}
use Rattle.table_model.specs.declared.conditions.Reference.{Reference}
use Rattle.table_model.specs.declared.queries.Query.{Query}
use Rattle.table_model.specs.declared.queries.WrittenCond.{WrittenCond}
use Rattle.table_model.specs.declared.queries.WrittenCond.TheVariants as written
use Rattle.table_model.specs.declared.queries.WrittenOperand.{WrittenOperand}
use Rattle.table_model.specs.declared.queries.WrittenPredicate.{WrittenPredicate}

-- the conjuncts of an AND are those of its parts, in order; any other condition is its only conjunct itself
pub record ConjunctsByParts (A : Type 0) : Type 0 where
  pub and : (parts : List (Cond A)) → conjuncts_of (conds.And parts) ≡ flat_map conjuncts_of parts
  pub or : (parts : List (Cond A)) → conjuncts_of (conds.Or parts) ≡ conds.Or parts ∷ []
  pub not : (part : Cond A) → conjuncts_of (conds.Not part) ≡ conds.Not part ∷ []
  pub compare : (sign : Comparison) (a b : Operand A) → conjuncts_of (conds.Compare sign a b) ≡ conds.Compare sign a b ∷ []
  pub is_null : (a : Operand A) → conjuncts_of (conds.IsNull a) ≡ conds.IsNull a ∷ []
  pub is_empty : (a : A) → conjuncts_of (conds.IsEmpty a) ≡ conds.IsEmpty a ∷ []
  pub relates : (predicate : Predicate) (a b : A) → conjuncts_of (conds.Relates predicate a b) ≡ conds.Relates predicate a b ∷ []

-- a query is bound to the conjuncts of its ON and its WHERE as they are written, and the two ways to bind it have the same fault
abbrev pub BoundOfStatement : (T A B C D : Type 0) → Type 0
BoundOfStatement T A B C D = (how : GeometryBinding T A B C D) (schema : List (TableDef T)) (query : Query A C)
    → binding how schema query ≡ (statement how schema query >>= (λ stated. Ok (by_conjuncts stated)))

-- the lists that are found, joined, or the first fault
abbrev pub joined_in_order : {X : Type 0} → List (Checked (List X)) → Checked (List X)
joined_in_order [] = Ok []
joined_in_order (r ∷ more) = do
  xs ← r
  ys ← joined_in_order more
  Ok (xs ++ ys)

-- the list of conjuncts that has only this condition
abbrev pub only : {B : Type 0} → Checked (Cond B) → Checked (List (Cond B))
only bound = do
  cond ← bound
  Ok (cond ∷ [])

-- the conjuncts that an AND is bound to are those of its parts, in order; any other condition is bound to one
pub record BoundByParts {T A B C D : Type 0} (how : GeometryBinding T A B C D) (schema : List (TableDef T)) (references : List Reference) : Type 0 where
  pub and : (parts : List (WrittenCond A)) → bound_conjuncts how schema references (written.And parts) ≡ joined_in_order (map (bound_conjuncts how schema references) parts)
  pub or : (parts : List (WrittenCond A)) → bound_conjuncts how schema references (written.Or parts) ≡ only (bound_cond how schema references (written.Or parts))
  pub not : (part : WrittenCond A) → bound_conjuncts how schema references (written.Not part) ≡ only (bound_cond how schema references (written.Not part))
  pub compare : (at : ℕ) (sign : Comparison) (a b : WrittenOperand A) → bound_conjuncts how schema references (written.Compare at sign a b) ≡ only (bound_cond how schema references (written.Compare at sign a b))
  pub is_null : (a : WrittenOperand A) → bound_conjuncts how schema references (written.IsNull a) ≡ only (bound_cond how schema references (written.IsNull a))
  pub is_empty : (at : ℕ) (a : A) → bound_conjuncts how schema references (written.IsEmpty at a) ≡ only (bound_cond how schema references (written.IsEmpty at a))
  pub relates : (at : ℕ) (predicate : WrittenPredicate) (a b : A) → bound_conjuncts how schema references (written.Relates at predicate a b) ≡ only (bound_cond how schema references (written.Relates at predicate a b))

-- this holds for each way to bind geometries
abbrev pub ConjunctsBoundByParts : (T A B C D : Type 0) → Type 0
ConjunctsBoundByParts T A B C D = (how : GeometryBinding T A B C D) (schema : List (TableDef T)) (references : List Reference) → BoundByParts how schema references

-- a choice of rows passes all conjuncts of a condition exactly where it is true (SQL's three-valued logic)
abbrev pub ConjunctsAreTrue : (G A : Type 0) → Type 0
ConjunctsAreTrue G A = (matrix : Geometry → Geometry → Matrix) (denotes : Rows G → A → Option Geometry) (rows : Rows G) (cond : Cond A)
    → all_true (truth matrix denotes) (conjuncts_of cond) rows ≡ is_true (truth matrix denotes rows cond)

-- a choice of rows passes all conjuncts of ON and WHERE exactly where these, joined by AND, are true (SQL, WHERE)
abbrev pub ConjunctsAreFiltered : (G A C : Type 0) → Type 0
ConjunctsAreFiltered G A C = (matrix : Geometry → Geometry → Matrix) (denotes : Rows G → A → Option Geometry) (rows : Rows G) (query : Statement A C)
    → all_true (truth matrix denotes) (by_conjuncts query).conjuncts rows ≡ is_true (truth matrix denotes rows (search_condition query))

-- what a query means is what its conjuncts filter (SQL, WHERE)
abbrev pub MeaningByConjuncts : (G A C : Type 0) → Type 0
MeaningByConjuncts G A C = (matrix : Geometry → Geometry → Matrix) (denotes : Rows G → A → Option Geometry) (tables : List (Table G)) (query : Statement A C)
    → meaning (truth matrix denotes) tables query
    ≡ (let rows = passing_rows (truth matrix denotes) tables (by_conjuncts query) in if query.counts then rows else up_to query.limit rows)
