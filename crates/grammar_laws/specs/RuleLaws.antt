-- The laws of what a query is bound to: the functions of binding return what the rules say, and the rules say what they return.
use Rattle.std.specs.Prelude.{◌≡◌, List, Ok, Err, IfOk, IfErr}
use Rattle.table_model.specs.Binding.{Checked, GeometryBinding, binding, bound_column, bound_cond, bound_references, statement}
use Rattle.table_model.specs.BindingRules.{GeometryRules, IsBoundColumn, IsRefusedColumn, IsCond, IsRefusedCond, geometry_rules}
use Rattle.table_model.specs.GeometryColumns.{ColumnShape, geometry_binding}
use Rattle.table_model.specs.QueryRules.{IsBinding, IsFrom, IsRefusedFrom, IsRefusedQuery, IsStatement}
use Rattle.table_model.specs.declared.conditions.Reference.{Reference}
use Rattle.table_model.specs.declared.definitions.TableDef.{TableDef}
use Rattle.table_model.specs.declared.faults.QueryFault.{QueryFault}
use Rattle.table_model.specs.declared.queries.Name.{Name}
use Rattle.table_model.specs.declared.queries.Query.{Query}
use Rattle.table_model.specs.declared.queries.WrittenColumn.{WrittenColumn}
use Rattle.table_model.specs.declared.queries.WrittenCond.{WrittenCond}
use Rattle.table_model.specs.declared.queries.WrittenGeometry.{WrittenGeometry}
use Rattle.table_model.specs.declared.queries.WrittenReference.{WrittenReference}

-- a result agrees with rules: they say what is returned, and nothing else
pub record Agrees {X : Type 0} (Is : X → Type 0) (Refused : QueryFault → Type 0) (answer : Checked X) : Type 0 where
  pub applies : IfOk answer Is
  pub refused : IfErr answer Refused
  pub answers : (x : X) → Is x → answer ≡ Ok x
  pub refuses : (fault : QueryFault) → Refused fault → answer ≡ Err fault

-- the functions that bind geometry arguments and patterns agree with the rules for them
pub record GeometryAgrees {T A B C D : Type 0} (rules : GeometryRules T A B C D) (how : GeometryBinding T A B C D) : Type 0 where
  pub argument : (schema : List (TableDef T)) (references : List Reference) (a : A)
      → Agrees (rules.IsArgument schema references a) (rules.IsRefusedArgument schema references a) (how.argument schema references a)
  pub item_argument : (schema : List (TableDef T)) (references : List Reference) (c : C)
      → Agrees (rules.IsItemArgument schema references c) (rules.IsRefusedItemArgument schema references c) (how.item_argument schema references c)
  pub pattern : (string : Name) → Agrees (rules.IsPattern string) (rules.IsRefusedPattern string) (how.pattern string)

-- what the tables of FROM are bound to, and where they are refused, is what the rules say (SQL, FROM)
abbrev pub ReferencesAgree : (T : Type 0) → Type 0
ReferencesAgree T = (schema : List (TableDef T)) (written : List WrittenReference) → Agrees (IsFrom schema written) (IsRefusedFrom schema written) (bound_references schema written)

-- what a column is bound to, and where it is refused, is what the rules say (SQL, column names)
abbrev pub ColumnsAgree : (T : Type 0) → Type 0
ColumnsAgree T = (schema : List (TableDef T)) (references : List Reference) (written : WrittenColumn)
    → Agrees (IsBoundColumn schema references written) (IsRefusedColumn schema references written) (bound_column schema references written)

-- what a condition with geometries is bound to, and where it is refused, is what the rules say (06-104r4, 7.2)
abbrev pub ConditionsAgree : Type 0
ConditionsAgree = (schema : List (TableDef ColumnShape)) (references : List Reference) (written : WrittenCond WrittenGeometry)
    → Agrees (IsCond geometry_rules schema references written) (IsRefusedCond geometry_rules schema references written) (bound_cond geometry_binding schema references written)

-- what a query with geometries is bound to as it is written, and where it is refused, is what the rules say (06-104r4, 7.2)
abbrev pub StatementsAgree : Type 0
StatementsAgree = (schema : List (TableDef ColumnShape)) (query : Query WrittenGeometry WrittenColumn)
    → Agrees (IsStatement geometry_rules schema query) (IsRefusedQuery geometry_rules schema query) (statement geometry_binding schema query)

-- what it is bound to with its conjuncts, and where it is refused, is what the rules say (06-104r4, 7.2)
abbrev pub BindingsAgree : Type 0
BindingsAgree = (schema : List (TableDef ColumnShape)) (query : Query WrittenGeometry WrittenColumn)
    → Agrees (IsBinding geometry_rules schema query) (IsRefusedQuery geometry_rules schema query) (binding geometry_binding schema query)
