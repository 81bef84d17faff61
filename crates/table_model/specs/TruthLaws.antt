-- The laws by which a condition is the AND of its conjuncts: the meaning of a query is stated by the condition, and computed by conjuncts.
use Rattle.std.specs.Prelude.{◌≡◌, List, ◌∷◌, ◌++◌, Option}
use Rattle.geometry_model.specs.Geometries.{Geometry}
use Rattle.geometry_model.specs.Dimensions.{Matrix}
use Rattle.table_model.specs.Meanings.{is_true, all_true}
use Rattle.table_model.specs.Truths.{Rows, truth}
use Rattle.table_model.specs.declared.conditions.Cond.{Cond}
use Rattle.table_model.specs.declared.conditions.Cond.TheVariants as conds
use Rattle.table_model.specs.declared.conditions.GeometryArgument.{GeometryArgument}

-- a geometry argument of a condition (06-104r4, the routines' arguments)
abbrev pub Argument : Type 0
Argument = GeometryArgument Geometry

-- conditions are all true at the same rows as their AND (SQL's three-valued logic)
abbrev pub ConjunctsAreJoined : Type 0
ConjunctsAreJoined = (matrix : Geometry → Geometry → Matrix) (denotes : Rows Geometry → Argument → Option Geometry) (rows : Rows Geometry) (conjuncts : List (Cond Argument))
    → is_true (truth matrix denotes rows (conds.And conjuncts)) ≡ all_true (truth matrix denotes) conjuncts rows

-- an AND inside an AND may be replaced by its parts (SQL's three-valued logic)
abbrev pub NestedAndsAreOne : Type 0
NestedAndsAreOne = (matrix : Geometry → Geometry → Matrix) (denotes : Rows Geometry → Argument → Option Geometry) (rows : Rows Geometry) (before inner after : List (Cond Argument))
    → truth matrix denotes rows (conds.And (before ++ conds.And inner ∷ after)) ≡ truth matrix denotes rows (conds.And (before ++ (inner ++ after)))
