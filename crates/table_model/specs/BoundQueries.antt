-- When a bound query fits the definitions of a database: its tables and columns are there, and each type fits.
use Rattle.std.specs.Prelude.{◌≡◌, ◌<◌, Bool, true, false, ◌&&◌, All, List, [], map, length, slice_get, Option, Some, None, is_some, is_none}
use Rattle.std.specs.List.{list_all}
use Rattle.geometry_model.specs.Geometries.{Geometry}
use Rattle.geometry_model.specs.FirstFaults.{validity_fault}
use Rattle.table_model.specs.Binding.{columns_of, comparable, type_of}
use Rattle.table_model.specs.Definitions.{names_differ}
use Rattle.table_model.specs.GeometryColumns.{ColumnShape}
use Rattle.table_model.specs.References.{AreOneOrTwo}
use Rattle.table_model.specs.declared.conditions.Bound.{Bound}
use Rattle.table_model.specs.declared.conditions.ColumnPlace.{ColumnPlace}
use Rattle.table_model.specs.declared.conditions.Cond.{Cond}
use Rattle.table_model.specs.declared.conditions.Cond.TheFolds.{fold-Cond}
use Rattle.table_model.specs.declared.conditions.Cond.TheOpen.{Cond-F}
use Rattle.table_model.specs.declared.conditions.GeometryArgument.{GeometryArgument}
use Rattle.table_model.specs.declared.conditions.GeometryArgument.TheVariants as arguments
use Rattle.table_model.specs.declared.conditions.Item.{Item}
use Rattle.table_model.specs.declared.conditions.Item.TheVariants as items
use Rattle.table_model.specs.declared.conditions.Operand.{Operand}
use Rattle.table_model.specs.declared.conditions.Operand.TheVariants as operands
use Rattle.table_model.specs.declared.conditions.Reference.{Reference}
use Rattle.table_model.specs.declared.definitions.ColumnDef.{ColumnDef}
use Rattle.table_model.specs.declared.definitions.TableDef.{TableDef}
use Rattle.table_model.specs.declared.typing.OperandType.{OperandType}
use Rattle.table_model.specs.declared.typing.OperandType.TheVariants as types

-- ---- columns

-- the columns of a reference, if there is one
abbrev pub reference_columns : {T : Type 0} → List (TableDef T) → Option Reference → List (ColumnDef T)
reference_columns definitions (Some reference) = columns_of definitions reference
reference_columns definitions None = []

-- the type of a column, if there is one
abbrev pub column_type : {T : Type 0} → Option (ColumnDef T) → Option OperandType
column_type (Some column) = Some (type_of column.column_type)
column_type None = None

-- the type of the column at a place; out of range there is none
abbrev pub place_type : {T : Type 0} → List (TableDef T) → List Reference → ColumnPlace → Option OperandType
place_type definitions references place = column_type (slice_get (reference_columns definitions (slice_get references place.reference)) place.column)

-- whether this is the type of a geometry
abbrev pub is_geometry : Option OperandType → Bool
is_geometry None = false
is_geometry (Some types.Integer) = false
is_geometry (Some types.Text) = false
is_geometry (Some types.Geometry) = true
is_geometry (Some types.Null) = false

-- ---- types that fit

-- two tests: whether an argument in a condition is a geometry, and whether one in the select list is
pub record GeometryFits (T A C : Type 0) : Type 0 where
  pub argument : List (TableDef T) → List Reference → A → Bool
  pub item_argument : List (TableDef T) → List Reference → C → Bool

-- the type of a function of a geometry; none if its argument is no geometry
abbrev pub type_if : Bool → OperandType → Option OperandType
type_if true type = Some type
type_if false type = None

-- the type of a side of a comparison, if it has one
abbrev pub operand_type : {T A C : Type 0} → GeometryFits T A C → List (TableDef T) → List Reference → Operand A → Option OperandType
operand_type fits definitions references (operands.Column place) = place_type definitions references place
operand_type fits definitions references (operands.Integer n) = Some types.Integer
operand_type fits definitions references (operands.Text bytes) = Some types.Text
operand_type fits definitions references operands.Null = Some types.Null
operand_type fits definitions references (operands.AsText a) = type_if (fits.argument definitions references a) types.Text
operand_type fits definitions references (operands.Dimension a) = type_if (fits.argument definitions references a) types.Integer

-- whether two sides have types that can be compared: both are integers or both are texts, and NULL is either (SQL, comparison)
abbrev pub can_compare : Option OperandType → Option OperandType → Bool
can_compare None b = false
can_compare (Some a) None = false
can_compare (Some a) (Some b) = comparable a b

-- whether the types of a condition fit, from whether those of its parts do
abbrev pub fits_by_parts : {T A C : Type 0} → GeometryFits T A C → List (TableDef T) → List Reference → Cond-F A Bool → Bool
fits_by_parts fits definitions references (Cond-F.Or parts) = list_all (λ part. part) parts
fits_by_parts fits definitions references (Cond-F.And parts) = list_all (λ part. part) parts
fits_by_parts fits definitions references (Cond-F.Not part) = part
fits_by_parts fits definitions references (Cond-F.Compare sign a b) = can_compare (operand_type fits definitions references a) (operand_type fits definitions references b)
fits_by_parts fits definitions references (Cond-F.IsNull a) = is_some (operand_type fits definitions references a)
fits_by_parts fits definitions references (Cond-F.IsEmpty a) = fits.argument definitions references a
fits_by_parts fits definitions references (Cond-F.Relates predicate a b) = fits.argument definitions references a && fits.argument definitions references b

-- whether the types of a condition fit, and its columns are there
abbrev pub cond_fits : {T A C : Type 0} → GeometryFits T A C → List (TableDef T) → List Reference → Cond A → Bool
cond_fits {A = A} fits definitions references = fold-Cond A Bool (fits_by_parts fits definitions references)

-- whether the type of an item fits, and its column is there
abbrev pub item_fits : {T A C : Type 0} → GeometryFits T A C → List (TableDef T) → List Reference → Item C → Bool
item_fits fits definitions references (items.Column place) = is_some (place_type definitions references place)
item_fits fits definitions references (items.AsText c) = fits.item_argument definitions references c
item_fits fits definitions references (items.Dimension c) = fits.item_argument definitions references c
item_fits fits definitions references (items.IsEmpty c) = fits.item_argument definitions references c

-- ---- queries

-- there are one or two references, the table of each is there, and their names differ (SQL, FROM)
pub record AreReferences {T : Type 0} (definitions : List (TableDef T)) (references : List Reference) : Type 0 where
  pub few : AreOneOrTwo references
  pub there : All (λ (r : Reference). r.table < length definitions) references
  pub differ : names_differ (map (λ r. r.name) references) ≡ true

-- a query is bound to these definitions: its references are, each item and each conjunct fits, and under COUNT(*) there is no item
pub record IsBound {T A C : Type 0} (fits : GeometryFits T A C) (definitions : List (TableDef T)) (query : Bound A C) : Type 0 where
  pub references : AreReferences definitions query.references
  pub items : list_all (item_fits fits definitions query.references) query.items ≡ true
  pub conjuncts : list_all (cond_fits fits definitions query.references) query.conjuncts ≡ true
  pub counted : query.counts ≡ true → query.items ≡ []

-- ---- what a geometry is

-- an argument is a geometry: a column of geometries or a valid literal (06-104r4, 7.2)
abbrev pub argument_fits : List (TableDef ColumnShape) → List Reference → GeometryArgument Geometry → Bool
argument_fits definitions references (arguments.Column place) = is_geometry (place_type definitions references place)
argument_fits definitions references (arguments.Literal g) = is_none (validity_fault g)

-- the two tests; in the select list an argument is a column of geometries (06-104r4, 7.2)
abbrev pub geometry_fits : GeometryFits ColumnShape (GeometryArgument Geometry) ColumnPlace
geometry_fits = record {
  argument = argument_fits;
  item_argument = λ definitions references place. is_geometry (place_type definitions references place);
}
