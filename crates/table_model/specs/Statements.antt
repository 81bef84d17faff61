-- A bound query as it is written, with the whole conditions of ON and WHERE, and the list of its conjuncts.
use Rattle.std.specs.Prelude.{ℕ, Bool, List, [], ◌∷◌, ◌++◌, map, Option, Some, None}
use Rattle.std.specs.List.{flat_map}
use Rattle.table_model.specs.declared.conditions.Cond.{Cond}
use Rattle.table_model.specs.declared.conditions.Cond.TheVariants as conds
use Rattle.table_model.specs.declared.conditions.Cond.TheFolds.{fold-Cond}
use Rattle.table_model.specs.declared.conditions.Cond.TheOpen.{Cond-F}
use Rattle.table_model.specs.declared.conditions.Item.{Item}
use Rattle.table_model.specs.declared.conditions.Reference.{Reference}
use Rattle.table_model.specs.declared.conditions.Bound.{Bound}
use Rattle.table_model.specs.declared.queries.Explain.{Explain}

-- ---- conjuncts

-- a condition, and beside it its conjuncts
pub record Split (A : Type 0) : Type 0 where
  pub whole : Cond A
  pub conjuncts : List (Cond A)

-- a condition that is one conjunct
abbrev pub one_conjunct : {A : Type 0} → Cond A → Split A
one_conjunct cond = record { whole = cond; conjuncts = cond ∷ [] }

-- the whole conditions of some parts
abbrev pub wholes : {A : Type 0} → List (Split A) → List (Cond A)
wholes parts = map (λ part. part.whole) parts

-- the conjuncts of an AND are those of its parts, in order; any other condition is one
abbrev pub split_by_parts : {A : Type 0} → Cond-F A (Split A) → Split A
split_by_parts (Cond-F.Or parts) = one_conjunct (conds.Or (wholes parts))
split_by_parts (Cond-F.And parts) = record { whole = conds.And (wholes parts); conjuncts = flat_map (λ part. part.conjuncts) parts }
split_by_parts (Cond-F.Not part) = one_conjunct (conds.Not part.whole)
split_by_parts (Cond-F.Compare sign a b) = one_conjunct (conds.Compare sign a b)
split_by_parts (Cond-F.IsNull a) = one_conjunct (conds.IsNull a)
split_by_parts (Cond-F.IsEmpty a) = one_conjunct (conds.IsEmpty a)
split_by_parts (Cond-F.Relates predicate a b) = one_conjunct (conds.Relates predicate a b)

-- the conjuncts of a condition
abbrev pub conjuncts_of : {A : Type 0} → Cond A → List (Cond A)
conjuncts_of {A = A} cond = (fold-Cond A (Split A) split_by_parts cond).conjuncts

-- those of ON or of WHERE; what is absent has none
abbrev pub conjuncts_in : {A : Type 0} → Option (Cond A) → List (Cond A)
conjuncts_in (Some cond) = conjuncts_of cond
conjuncts_in None = []

-- ---- queries

-- a query bound as it is written: its references, its items, the conditions of ON and WHERE, whether COUNT(*) is listed, and its limit (SQL, the query)
pub record Statement (A C : Type 0) : Type 0 where
  pub explain : Explain
  pub references : List Reference
  pub items : List (Item C)
  pub on : Option (Cond A)
  pub condition : Option (Cond A)
  pub counts : Bool
  pub limit : Option ℕ

-- the query with its conjuncts, those of ON before those of WHERE
abbrev pub by_conjuncts : {A C : Type 0} → Statement A C → Bound A C
by_conjuncts query = record {
  explain = query.explain;
  references = query.references;
  items = query.items;
  conjuncts = conjuncts_in query.on ++ conjuncts_in query.condition;
  counts = query.counts;
  limit = query.limit;
}
