-- The binding of a written query to the tables of a schema, computed: names become places, or there is a first fault.
use Rattle.std.specs.Prelude.{ℕ, ◌+◌, Bool, true, false, ◌&&◌, ◌||◌, if◌then◌else◌, ◌==◌, List, [], ◌∷◌, ◌++◌, map, slice_get, Option, Some, None, Result, Ok, Err}
use Rattle.std.specs.List.{position, enumerate_from, filter_map, flat_map, list_any}
use Rattle.geometry_model.specs.declared.relations.Pattern.{Pattern}
use Rattle.geometry_model.specs.declared.relations.Predicate.{Predicate}
use Rattle.geometry_model.specs.declared.relations.Predicate.TheVariants as predicates
use Rattle.table_model.specs.Loading.{each}
use Rattle.table_model.specs.Statements.{Statement, conjuncts_of}
use Rattle.table_model.specs.Texts.{same_name}
use Rattle.table_model.specs.declared.faults.QueryFault.{QueryFault}
use Rattle.table_model.specs.declared.faults.QueryFault.TheVariants.{UnknownTable, SameName, UnknownColumn, AmbiguousColumn, TypeMismatch}
use Rattle.table_model.specs.declared.definitions.ColumnType.{ColumnType}
use Rattle.table_model.specs.declared.definitions.ColumnType.TheVariants as columns
use Rattle.table_model.specs.declared.definitions.ColumnDef.{ColumnDef}
use Rattle.table_model.specs.declared.definitions.TableDef.{TableDef}
use Rattle.table_model.specs.declared.queries.Name.{Name}
use Rattle.table_model.specs.declared.queries.WrittenColumn.{WrittenColumn}
use Rattle.table_model.specs.declared.queries.WrittenReference.{WrittenReference}
use Rattle.table_model.specs.declared.queries.WrittenOperand.{WrittenOperand}
use Rattle.table_model.specs.declared.queries.WrittenOperand.TheVariants as written_operand
use Rattle.table_model.specs.declared.queries.WrittenPredicate.{WrittenPredicate}
use Rattle.table_model.specs.declared.queries.WrittenPredicate.TheVariants as written_predicate
use Rattle.table_model.specs.declared.queries.WrittenCond.{WrittenCond}
use Rattle.table_model.specs.declared.queries.WrittenCond.TheFolds.{fold-WrittenCond}
use Rattle.table_model.specs.declared.queries.WrittenCond.TheOpen.{WrittenCond-F}
use Rattle.table_model.specs.declared.queries.WrittenItem.{WrittenItem}
use Rattle.table_model.specs.declared.queries.WrittenItem.TheVariants as written_item
use Rattle.table_model.specs.declared.queries.Selection.{Selection}
use Rattle.table_model.specs.declared.queries.Selection.TheVariants as selections
use Rattle.table_model.specs.declared.queries.Query.{Query}
use Rattle.table_model.specs.declared.conditions.Comparison.{Comparison}
use Rattle.table_model.specs.declared.typing.OperandType.{OperandType}
use Rattle.table_model.specs.declared.typing.OperandType.TheVariants as types
use Rattle.table_model.specs.declared.typing.Found.{Found}
use Rattle.table_model.specs.declared.typing.Typed.{Typed}
use Rattle.table_model.specs.declared.conditions.Operand.{Operand}
use Rattle.table_model.specs.declared.conditions.Operand.TheVariants as operands
use Rattle.table_model.specs.declared.conditions.Cond.{Cond}
use Rattle.table_model.specs.declared.conditions.Cond.TheVariants as conds
use Rattle.table_model.specs.declared.conditions.Item.{Item}
use Rattle.table_model.specs.declared.conditions.Item.TheVariants as items
use Rattle.table_model.specs.declared.conditions.Reference.{Reference}
use Rattle.table_model.specs.declared.conditions.Bound.{Bound}

-- ---- faults: of several the first from left to right is returned

-- a value, or the fault of a query
abbrev pub Checked : Type 0 → Type 0
Checked X = Result X QueryFault

-- one step after another, up to the first fault
infixl 10 ◌>>=◌
abbrev pub ◌>>=◌ : {X Y : Type 0} → Checked X → (X → Checked Y) → Checked Y
Ok x >>= f = f x
Err e >>= f = Err e

-- ---- the tables of FROM

-- the place of the first table of this name (SQL, names of tables)
abbrev pub table_place : {T : Type 0} → List (TableDef T) → List ℕ → Option ℕ
table_place schema name = position (λ table. same_name table.name name) schema

-- the name of a table as the schema spells it
abbrev pub table_name : {T : Type 0} → Option (TableDef T) → List ℕ
table_name (Some table) = table.name
table_name None = []

-- the name of a reference: its alias, else its table's name as the schema spells it (SQL, correlation names)
abbrev pub reference_name : {T : Type 0} → List (TableDef T) → ℕ → Option Name → List ℕ
reference_name schema place (Some alias) = alias.text
reference_name schema place None = table_name (slice_get schema place)

-- a reference whose table has this place, or no place (SQL, FROM)
abbrev pub reference_at : {T : Type 0} → List (TableDef T) → WrittenReference → Option ℕ → Checked Reference
reference_at schema written (Some place) = Ok (record { table = place; name = reference_name schema place written.alias })
reference_at schema written None = Err (UnknownTable written.table.at)

-- a reference of FROM; Q3 at the name of a table that the schema lacks (SQL, FROM)
abbrev pub bound_reference : {T : Type 0} → List (TableDef T) → WrittenReference → Checked Reference
bound_reference schema written = reference_at schema written (table_place schema written.table.text)

-- the byte at which the name of a reference is
abbrev pub name_start : Name → Option Name → ℕ
name_start table (Some alias) = alias.at
name_start table None = table.at

-- a reference after others needs a name that none of them has, else Q4 at its name (SQL, correlation names)
abbrev pub named_apart : List Reference → ℕ → Reference → Checked Reference
named_apart before at reference = if list_any (λ other. same_name other.name reference.name) before then Err (SameName at) else Ok reference

-- a reference after others: its table is bound first, then its name is tested (SQL, FROM)
abbrev pub next_reference : {T : Type 0} → List (TableDef T) → List Reference → WrittenReference → Checked Reference
next_reference schema before written = do
  reference ← bound_reference schema written
  named_apart before (name_start written.table written.alias) reference

-- references after others, which are listed first (SQL, FROM)
abbrev pub references_after : {T : Type 0} → List (TableDef T) → List Reference → List WrittenReference → Checked (List Reference)
references_after schema before [] = Ok before
references_after schema before (written ∷ more) = do
  reference ← next_reference schema before written
  references_after schema (before ++ reference ∷ []) more

-- the references of FROM, from left to right (SQL, FROM)
abbrev pub bound_references : {T : Type 0} → List (TableDef T) → List WrittenReference → Checked (List Reference)
bound_references schema = references_after schema []

-- ---- columns

-- the columns of a table
abbrev pub table_columns : {T : Type 0} → Option (TableDef T) → List (ColumnDef T)
table_columns (Some table) = table.columns
table_columns None = []

-- the columns of a reference
abbrev pub columns_of : {T : Type 0} → List (TableDef T) → Reference → List (ColumnDef T)
columns_of schema reference = table_columns (slice_get schema reference.table)

-- the type of a column as that of a part
abbrev pub type_of : {T : Type 0} → ColumnType T → OperandType
type_of columns.Integer = types.Integer
type_of columns.Text = types.Text
type_of (columns.Geometry t) = types.Geometry

-- whether a column with or without a reference may be one of the reference of this name (SQL, qualified names)
abbrev pub refers_to : Option Name → List ℕ → Bool
refers_to (Some written) name = same_name written.text name
refers_to None name = true

-- the first column of a name among some, of which the first has this place (SQL, column names)
abbrev pub column_named : {T : Type 0} → List ℕ → ℕ → List (ColumnDef T) → Option (ℕ × OperandType)
column_named name place [] = None
column_named name place (column ∷ more) =
    if same_name column.name name then Some (place, type_of column.column_type) else column_named name (place + 1) more

-- a column of the reference at a place
abbrev pub found_in : ℕ → Option (ℕ × OperandType) → Option Found
found_in reference (Some (column, type)) = Some (record { place = record { reference = reference; column = column }; column_type = type })
found_in reference None = None

-- the column that a written one can be of the reference at a place
abbrev pub column_meant : {T : Type 0} → List (TableDef T) → WrittenColumn → ℕ → Reference → Option Found
column_meant schema written place reference =
    if refers_to written.reference reference.name
    then found_in place (column_named written.name.text 0 (columns_of schema reference))
    else None

-- the columns that a written one can be, among those of some references, of which the first has this place
abbrev pub columns_meant : {T : Type 0} → List (TableDef T) → WrittenColumn → ℕ → List Reference → List Found
columns_meant schema written place references = filter_map (λ r. column_meant schema written r.0 r.1) (enumerate_from place references)

-- the only column that it can be; Q5 if there is none, Q6 if there are two (SQL, column names)
abbrev pub the_one : ℕ → List Found → Checked Found
the_one at [] = Err (UnknownColumn at)
the_one at (found ∷ []) = Ok found
the_one at (found ∷ other ∷ more) = Err (AmbiguousColumn at)

-- a column, found by its names; faults are at its first byte (SQL, column names)
abbrev pub bound_column : {T : Type 0} → List (TableDef T) → List Reference → WrittenColumn → Checked Found
bound_column schema references written =
    the_one (name_start written.name written.reference) (columns_meant schema written 0 references)

-- ---- conditions

-- how geometry arguments are bound: one of a condition (A becomes B), one of the select list (C becomes D), a pattern
pub record GeometryBinding (T A B C D : Type 0) : Type 0 where
  pub argument : List (TableDef T) → List Reference → A → Checked (Typed B)
  pub item_argument : List (TableDef T) → List Reference → C → Checked (Typed D)
  pub pattern : Name → Checked Pattern

-- the part if this type is that of geometries, else Q7 at this byte
abbrev pub geometry_of_type : {X : Type 0} → ℕ → X → OperandType → Checked X
geometry_of_type at part types.Geometry = Ok part
geometry_of_type at part types.Integer = Err (TypeMismatch at)
geometry_of_type at part types.Text = Err (TypeMismatch at)
geometry_of_type at part types.Null = Err (TypeMismatch at)

-- a part that is a geometry, else Q7 at the first byte of its predicate or call
abbrev pub geometry_only : {X : Type 0} → ℕ → Typed X → Checked X
geometry_only at typed = geometry_of_type at typed.part typed.part_type

-- the value of a string: two quotes in a row are one (SQL, character strings; 39 is the quote)
abbrev pub unquoted : List ℕ → List ℕ
unquoted [] = []
unquoted (byte ∷ []) = byte ∷ []
unquoted (byte ∷ next ∷ more) = if byte == 39 && next == 39 then byte ∷ unquoted more else byte ∷ unquoted (next ∷ more)

-- a side of a comparison, with its type
abbrev pub bound_operand : {T A B C D : Type 0} → GeometryBinding T A B C D → List (TableDef T) → List Reference → WrittenOperand A → Checked (Typed (Operand B))
bound_operand how schema references (written_operand.Column written) = do
  found ← bound_column schema references written
  Ok (record { part = operands.Column found.place; part_type = found.column_type })
bound_operand how schema references (written_operand.Integer n) = Ok (record { part = operands.Integer n; part_type = types.Integer })
bound_operand how schema references (written_operand.Text written) = Ok (record { part = operands.Text (unquoted written.text); part_type = types.Text })
bound_operand how schema references written_operand.Null = Ok (record { part = operands.Null; part_type = types.Null })
bound_operand how schema references (written_operand.AsText at a) = do
  typed ← how.argument schema references a
  x ← geometry_only at typed
  Ok (record { part = operands.AsText x; part_type = types.Text })
bound_operand how schema references (written_operand.Dimension at a) = do
  typed ← how.argument schema references a
  x ← geometry_only at typed
  Ok (record { part = operands.Dimension x; part_type = types.Integer })

-- whether a side of this type may be used as integer
abbrev pub fits_integer : OperandType → Bool
fits_integer types.Integer = true
fits_integer types.Text = false
fits_integer types.Geometry = false
fits_integer types.Null = true

-- whether a side of this type may be used as text
abbrev pub fits_text : OperandType → Bool
fits_text types.Integer = false
fits_text types.Text = true
fits_text types.Geometry = false
fits_text types.Null = true

-- whether two sides can be compared: both are integers or both are texts, and NULL is either (SQL, comparison)
abbrev pub comparable : OperandType → OperandType → Bool
comparable a b = fits_integer a && fits_integer b || fits_text a && fits_text b

-- a test of types: Q7 at this byte if it fails
abbrev pub checked_types : {X : Type 0} → Bool → ℕ → X → Checked X
checked_types true at x = Ok x
checked_types false at x = Err (TypeMismatch at)

-- the predicate that is written, its pattern read
abbrev pub bound_predicate : (Name → Checked Pattern) → WrittenPredicate → Checked Predicate
bound_predicate pattern (written_predicate.Named predicate) = Ok predicate
bound_predicate pattern (written_predicate.Relate written) = do
  p ← pattern written
  Ok (predicates.Relate p)

-- a comparison; its sides are bound first (SQL, comparison)
abbrev pub bound_comparison : {T A B C D : Type 0} → GeometryBinding T A B C D → List (TableDef T) → List Reference → ℕ → Comparison → WrittenOperand A → WrittenOperand A → Checked (Cond B)
bound_comparison how schema references at sign a b = do
  left ← bound_operand how schema references a
  right ← bound_operand how schema references b
  checked_types (comparable left.part_type right.part_type) at (conds.Compare sign left.part right.part)

-- IS NULL of a part of any type (SQL, the null predicate)
abbrev pub bound_null_test : {T A B C D : Type 0} → GeometryBinding T A B C D → List (TableDef T) → List Reference → WrittenOperand A → Checked (Cond B)
bound_null_test how schema references a = do
  operand ← bound_operand how schema references a
  Ok (conds.IsNull operand.part)

-- ST_IsEmpty (06-103r4, 6.1.2.2: IsEmpty)
abbrev pub bound_emptiness : {T A B C D : Type 0} → GeometryBinding T A B C D → List (TableDef T) → List Reference → ℕ → A → Checked (Cond B)
bound_emptiness how schema references at a = do
  typed ← how.argument schema references a
  x ← geometry_only at typed
  Ok (conds.IsEmpty x)

-- a spatial predicate; its arguments are bound first, from left to right (06-103r4, 6.1.15.3)
abbrev pub bound_relation : {T A B C D : Type 0} → GeometryBinding T A B C D → List (TableDef T) → List Reference → ℕ → WrittenPredicate → A → A → Checked (Cond B)
bound_relation how schema references at written a b = do
  left ← how.argument schema references a
  right ← how.argument schema references b
  predicate ← bound_predicate how.pattern written
  x ← geometry_only at left
  y ← geometry_only at right
  Ok (conds.Relates predicate x y)

-- a condition of bound parts, or their first fault from left to right (SQL, the search condition)
abbrev pub bound_by_parts : {T A B C D : Type 0} → GeometryBinding T A B C D → List (TableDef T) → List Reference → WrittenCond-F A (Checked (Cond B)) → Checked (Cond B)
bound_by_parts how schema references (WrittenCond-F.Or parts) = do
  bound ← each parts
  Ok (conds.Or bound)
bound_by_parts how schema references (WrittenCond-F.And parts) = do
  bound ← each parts
  Ok (conds.And bound)
bound_by_parts how schema references (WrittenCond-F.Not part) = do
  bound ← part
  Ok (conds.Not bound)
bound_by_parts how schema references (WrittenCond-F.Compare at sign a b) = bound_comparison how schema references at sign a b
bound_by_parts how schema references (WrittenCond-F.IsNull a) = bound_null_test how schema references a
bound_by_parts how schema references (WrittenCond-F.IsEmpty at a) = bound_emptiness how schema references at a
bound_by_parts how schema references (WrittenCond-F.Relates at predicate a b) = bound_relation how schema references at predicate a b

-- a written condition, bound as it is written, or its first fault (SQL, the search condition)
abbrev pub bound_cond : {T A B C D : Type 0} → GeometryBinding T A B C D → List (TableDef T) → List Reference → WrittenCond A → Checked (Cond B)
bound_cond {A = A} {B = B} how schema references = fold-WrittenCond A (Checked (Cond B)) (bound_by_parts how schema references)

-- the condition of ON or of WHERE, where it is written (SQL, ON and WHERE)
abbrev pub bound_whole : {T A B C D : Type 0} → GeometryBinding T A B C D → List (TableDef T) → List Reference → Option (WrittenCond A) → Checked (Option (Cond B))
bound_whole how schema references (Some written) = do
  cond ← bound_cond how schema references written
  Ok (Some cond)
bound_whole how schema references None = Ok None

-- the conjuncts of a written condition, bound, or its first fault
abbrev pub bound_conjuncts : {T A B C D : Type 0} → GeometryBinding T A B C D → List (TableDef T) → List Reference → WrittenCond A → Checked (List (Cond B))
bound_conjuncts how schema references written = do
  cond ← bound_cond how schema references written
  Ok (conjuncts_of cond)

-- the conjuncts of ON or of WHERE, bound; none if it isn't written
abbrev pub bound_condition : {T A B C D : Type 0} → GeometryBinding T A B C D → List (TableDef T) → List Reference → Option (WrittenCond A) → Checked (List (Cond B))
bound_condition how schema references (Some written) = bound_conjuncts how schema references written
bound_condition how schema references None = Ok []

-- ---- the select list

-- an item of the select list (SQL, the select list)
abbrev pub bound_item : {T A B C D : Type 0} → GeometryBinding T A B C D → List (TableDef T) → List Reference → WrittenItem C → Checked (Item D)
bound_item how schema references (written_item.Column written) = do
  found ← bound_column schema references written
  Ok (items.Column found.place)
bound_item how schema references (written_item.AsText at a) = do
  typed ← how.item_argument schema references a
  x ← geometry_only at typed
  Ok (items.AsText x)
bound_item how schema references (written_item.Dimension at a) = do
  typed ← how.item_argument schema references a
  x ← geometry_only at typed
  Ok (items.Dimension x)
bound_item how schema references (written_item.IsEmpty at a) = do
  typed ← how.item_argument schema references a
  x ← geometry_only at typed
  Ok (items.IsEmpty x)

-- the columns of the reference at a place, in their order
abbrev pub items_of : {T D : Type 0} → ℕ → List (ColumnDef T) → List (Item D)
items_of reference columns = map (λ c. items.Column (record { reference = reference; column = c.0 })) (enumerate_from 0 columns)

-- all columns, those of the first reference first (SQL, the asterisk)
abbrev pub all_items : {T D : Type 0} → List (TableDef T) → List Reference → List (Item D)
all_items schema references = flat_map (λ r. items_of r.0 (columns_of schema r.1)) (enumerate_from 0 references)

-- what SELECT lists (SQL, the select list)
abbrev pub bound_items : {T A B C D : Type 0} → GeometryBinding T A B C D → List (TableDef T) → List Reference → Selection C → Checked (List (Item D))
bound_items how schema references selections.All = Ok (all_items schema references)
bound_items how schema references (selections.Items written) = each (map (bound_item how schema references) written)
bound_items how schema references selections.Count = Ok []

-- whether COUNT(*) is listed
abbrev pub counts : {C : Type 0} → Selection C → Bool
counts selections.All = false
counts (selections.Items written) = false
counts selections.Count = true

-- ---- the whole query

-- a query bound to the tables of a schema, with its conjuncts: the tables of FROM first, then the select list, ON and WHERE (SQL, the query)
abbrev pub binding : {T A B C D : Type 0} → GeometryBinding T A B C D → List (TableDef T) → Query A C → Checked (Bound B D)
binding how schema query = do
  references ← bound_references schema query.references
  listed ← bound_items how schema references query.selection
  joining ← bound_condition how schema references query.on
  filtering ← bound_condition how schema references query.condition
  Ok (record { explain = query.explain; references = references; items = listed; conjuncts = joining ++ filtering; counts = counts query.selection; limit = query.limit })

-- a query bound as it is written: the tables of FROM first, then the select list, ON and WHERE (SQL, the query)
abbrev pub statement : {T A B C D : Type 0} → GeometryBinding T A B C D → List (TableDef T) → Query A C → Checked (Statement B D)
statement how schema query = do
  references ← bound_references schema query.references
  listed ← bound_items how schema references query.selection
  on ← bound_whole how schema references query.on
  condition ← bound_whole how schema references query.condition
  Ok (record {
    explain = query.explain;
    references = references;
    items = listed;
    on = on;
    condition = condition;
    counts = counts query.selection;
    limit = query.limit;
  })
