-- What the parts of a query are bound to where its names are looked up in a scope.
use Rattle.std.specs.Prelude.{ℕ, List, Option}
use Rattle.geometry_model.specs.Geometries.{Geometry}
use Rattle.table_model.specs.Binding as spec
use Rattle.table_model.specs.Binding.{Checked}
use Rattle.table_model.specs.GeometryColumns as geometries
use Rattle.table_model.specs.GeometryColumns.{geometry_binding}
use Rattle.table_model.specs.Outcomes.{Gives}
use Rattle.table_model.specs.declared.conditions.ColumnPlace.{ColumnPlace}
use Rattle.table_model.specs.declared.conditions.Comparison.{Comparison}
use Rattle.table_model.specs.declared.conditions.Cond.{Cond}
use Rattle.table_model.specs.declared.conditions.GeometryArgument.{GeometryArgument}
use Rattle.table_model.specs.declared.conditions.Item.{Item}
use Rattle.table_model.specs.declared.conditions.Operand.{Operand}
use Rattle.table_model.specs.declared.faults.QueryFault.TheVariants as faults
use Rattle.table_model.specs.declared.queries.Selection.{Selection}
use Rattle.table_model.specs.declared.queries.WrittenColumn.{WrittenColumn}
use Rattle.table_model.specs.declared.queries.WrittenCond.{WrittenCond}
use Rattle.table_model.specs.declared.queries.WrittenGeometry.{WrittenGeometry}
use Rattle.table_model.specs.declared.queries.WrittenItem.{WrittenItem}
use Rattle.table_model.specs.declared.queries.WrittenOperand.{WrittenOperand}
use Rattle.table_model.specs.declared.queries.WrittenPredicate.{WrittenPredicate}
use Rattle.table_model.specs.declared.typing.Found.{Found}
use Rattle.table_model.specs.declared.typing.Typed.{Typed}
use Rattle.spatial_sql.specs.declared.scope.Scope.{Scope}

-- a call returns what the definitions give, unless memory ran out
abbrev pub Binds : {X : Type 0} → Checked X → Checked X → Type 0
Binds result answer = Gives faults.OutOfMemory (λ x. x) result answer

-- a geometry argument of a bound condition
abbrev pub Argument : Type 0
Argument = GeometryArgument Geometry

-- a column (SQL, column names)
abbrev pub column_in : Scope → WrittenColumn → Checked Found
column_in scope = spec.bound_column scope.definitions.now scope.references.now

-- an argument of a condition (06-104r4, 7.2)
abbrev pub argument_in : Scope → WrittenGeometry → Checked (Typed Argument)
argument_in scope = geometries.bound_argument scope.definitions.now scope.references.now

-- an argument of the select list (06-104r4, 7.2)
abbrev pub place_in : Scope → WrittenColumn → Checked (Typed ColumnPlace)
place_in scope = geometries.bound_place scope.definitions.now scope.references.now

-- a side of a comparison (SQL, comparison)
abbrev pub operand_in : Scope → WrittenOperand WrittenGeometry → Checked (Typed (Operand Argument))
operand_in scope = spec.bound_operand geometry_binding scope.definitions.now scope.references.now

-- a comparison that starts at a byte (SQL, comparison)
abbrev pub comparison_in : Scope → ℕ → Comparison → WrittenOperand WrittenGeometry → WrittenOperand WrittenGeometry → Checked (Cond Argument)
comparison_in scope = spec.bound_comparison geometry_binding scope.definitions.now scope.references.now

-- IS NULL (SQL, the null predicate)
abbrev pub null_test_in : Scope → WrittenOperand WrittenGeometry → Checked (Cond Argument)
null_test_in scope = spec.bound_null_test geometry_binding scope.definitions.now scope.references.now

-- ST_IsEmpty that starts at a byte (06-103r4, 6.1.2.2)
abbrev pub emptiness_in : Scope → ℕ → WrittenGeometry → Checked (Cond Argument)
emptiness_in scope = spec.bound_emptiness geometry_binding scope.definitions.now scope.references.now

-- a predicate of two geometries that starts at a byte (06-103r4, 6.1.15.3)
abbrev pub relation_in : Scope → ℕ → WrittenPredicate → WrittenGeometry → WrittenGeometry → Checked (Cond Argument)
relation_in scope = spec.bound_relation geometry_binding scope.definitions.now scope.references.now

-- a condition as it is written (SQL, the search condition)
abbrev pub cond_in : Scope → WrittenCond WrittenGeometry → Checked (Cond Argument)
cond_in scope = spec.bound_cond geometry_binding scope.definitions.now scope.references.now

-- the conjuncts of a condition (SQL, the search condition)
abbrev pub conjuncts_in : Scope → WrittenCond WrittenGeometry → Checked (List (Cond Argument))
conjuncts_in scope = spec.bound_conjuncts geometry_binding scope.definitions.now scope.references.now

-- an item of the select list (SQL, the select list)
abbrev pub item_in : Scope → WrittenItem WrittenColumn → Checked (Item ColumnPlace)
item_in scope = spec.bound_item geometry_binding scope.definitions.now scope.references.now

-- what SELECT lists (SQL, the select list)
abbrev pub items_in : Scope → Selection WrittenColumn → Checked (List (Item ColumnPlace))
items_in scope = spec.bound_items geometry_binding scope.definitions.now scope.references.now

-- the conjuncts of ON or of WHERE (SQL, ON and WHERE)
abbrev pub condition_in : Scope → Option (WrittenCond WrittenGeometry) → Checked (List (Cond Argument))
condition_in scope = spec.bound_condition geometry_binding scope.definitions.now scope.references.now
