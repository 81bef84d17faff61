-- The constants of a bound query: the numbers, texts and NULLs that are compared in ON and WHERE, and the geometries of
-- ST_GeomFromText. The pattern of ST_Relate is none of them, nor is the number of LIMIT, nor the 0 or 1 behind a predicate.
use Rattle.std.specs.Prelude.{◌≡◌, ◌-◌, ◌==◌, nat_lt, if◌then◌else◌, ℕ, Bool, true, false, ⊤, List, [], ◌∷◌, ◌++◌, length, map}
use Rattle.std.specs.Prelude.{slice_get, Option, Some, None, is_none}
use Rattle.std.specs.List.{flat_map}
use Rattle.std.specs.Option.{option_map}
use Rattle.geometry_model.specs.FirstFaults.{validity_fault}
use Rattle.geometry_model.specs.Geometries.{Geometry}
use Rattle.geometry_model.specs.declared.relations.Predicate.{Predicate}
use Rattle.table_model.specs.Binding.{fits_integer, fits_text}
use Rattle.table_model.specs.BoundQueries.{is_geometry}
use Rattle.table_model.specs.Meanings.{Row}
use Rattle.table_model.specs.Places.{meant}
use Rattle.table_model.specs.SpatialTables.{SpatialQuery, SpatialTable}
use Rattle.table_model.specs.declared.conditions.Comparison.{Comparison}
use Rattle.table_model.specs.declared.conditions.Cond.{Cond}
use Rattle.table_model.specs.declared.conditions.Cond.TheVariants as conds
use Rattle.table_model.specs.declared.conditions.Cond.TheFolds.{fold-Cond}
use Rattle.table_model.specs.declared.conditions.Cond.TheOpen.{Cond-F}
use Rattle.table_model.specs.declared.conditions.GeometryArgument.{GeometryArgument}
use Rattle.table_model.specs.declared.conditions.GeometryArgument.TheVariants as arguments
use Rattle.table_model.specs.declared.conditions.Operand.{Operand}
use Rattle.table_model.specs.declared.conditions.Operand.TheVariants as operands
use Rattle.table_model.specs.declared.typing.OperandType.{OperandType}
use Rattle.table_model.specs.declared.typing.OperandType.TheVariants as types
use Rattle.table_model.specs.declared.values.Truth.{Truth}
use Rattle.table_model.specs.declared.values.Value.{Value}
use Rattle.table_model.specs.declared.values.Value.TheVariants as values

-- ---- values

-- the value of a constant, or one that replaces it
abbrev pub Constant : Type 0
Constant = Value Geometry

-- a geometry argument of a condition
abbrev pub Argument : Type 0
Argument = GeometryArgument Geometry

-- the type of a value
abbrev pub type_of : Constant → OperandType
type_of values.Null = types.Null
type_of (values.Integer n) = types.Integer
type_of (values.Text bytes) = types.Text
type_of (values.Geometry g) = types.Geometry

-- whether a constant of the first type may be replaced by a value of the second: one of its own type, or NULL in place of a number
-- or a text (SQL, comparison)
abbrev pub takes : OperandType → OperandType → Bool
takes types.Integer type = fits_integer type
takes types.Text type = fits_text type
takes types.Geometry type = is_geometry (Some type)
takes types.Null types.Null = true
takes types.Null types.Integer = false
takes types.Null types.Text = false
takes types.Null types.Geometry = false

-- a geometry among the values is valid (06-103r4, 6.1)
abbrev pub IsSound : Constant → Type 0
IsSound values.Null = ⊤
IsSound (values.Integer n) = ⊤
IsSound (values.Text bytes) = ⊤
IsSound (values.Geometry g) = is_none (validity_fault g) ≡ true

-- ---- the constants, from the left

-- a geometry argument that isn't a column is one
abbrev pub of_argument : Argument → List Constant
of_argument (arguments.Column place) = []
of_argument (arguments.Literal g) = values.Geometry g ∷ []

-- those of a side of a comparison
abbrev pub of_operand : Operand Argument → List Constant
of_operand (operands.Column place) = []
of_operand (operands.Integer n) = values.Integer n ∷ []
of_operand (operands.Text bytes) = values.Text bytes ∷ []
of_operand operands.Null = values.Null ∷ []
of_operand (operands.AsText a) = of_argument a
of_operand (operands.Dimension a) = of_argument a

-- ---- a value in place of a constant

-- a geometry as an argument; any other value is none, and the argument stays
abbrev pub literal_of : Constant → Geometry → Argument
literal_of values.Null h = arguments.Literal h
literal_of (values.Integer n) h = arguments.Literal h
literal_of (values.Text bytes) h = arguments.Literal h
literal_of (values.Geometry g) h = arguments.Literal g

-- an argument with the value in place of its constant
abbrev pub argument_of : Constant → Argument → Argument
argument_of value (arguments.Column place) = arguments.Column place
argument_of value (arguments.Literal h) = literal_of value h

-- a number, a text or NULL as a side of a comparison; a geometry is none, and the side stays
abbrev pub side_of : Constant → Operand Argument → Operand Argument
side_of values.Null a = operands.Null
side_of (values.Integer n) a = operands.Integer n
side_of (values.Text bytes) a = operands.Text bytes
side_of (values.Geometry g) a = a

-- a side of a comparison with the value in place of its constant
abbrev pub operand_of : Constant → Operand Argument → Operand Argument
operand_of value (operands.Column place) = operands.Column place
operand_of value (operands.Integer n) = side_of value (operands.Integer n)
operand_of value (operands.Text bytes) = side_of value (operands.Text bytes)
operand_of value operands.Null = side_of value operands.Null
operand_of value (operands.AsText a) = operands.AsText (argument_of value a)
operand_of value (operands.Dimension a) = operands.Dimension (argument_of value a)

-- the same, if it is the first constant that is to be replaced
abbrev pub argument_with : ℕ → Constant → Argument → Argument
argument_with k value a = if k == 0 then argument_of value a else a

abbrev pub operand_with : ℕ → Constant → Operand Argument → Operand Argument
operand_with k value a = if k == 0 then operand_of value a else a

-- ---- conditions

-- a condition, its constants from the left, and what it is once a value replaces the k-th of them, counted from 0
pub record Part : Type 0 where
  pub whole : Cond Argument
  pub constants : List Constant
  pub replaced : ℕ → Constant → Cond Argument

-- some parts as they are
abbrev pub wholes : List Part → List (Cond Argument)
wholes parts = map (λ part. part.whole) parts

-- parts with the k-th constant replaced, which is in the first if that has more than k, else behind it
abbrev pub replaced_in : ℕ → Constant → List Part → List (Cond Argument)
replaced_in k value [] = []
replaced_in k value (part ∷ more) =
    if nat_lt k (length part.constants)
    then part.replaced k value ∷ wholes more
    else part.whole ∷ replaced_in (k - length part.constants) value more

-- a comparison, and a spatial predicate, with the k-th constant replaced: the left side has at most one
abbrev pub comparison_with : ℕ → Constant → Comparison → Operand Argument → Operand Argument → Cond Argument
comparison_with k value sign a b =
    if nat_lt k (length (of_operand a))
    then conds.Compare sign (operand_with k value a) b
    else conds.Compare sign a (operand_with (k - length (of_operand a)) value b)

abbrev pub relation_with : ℕ → Constant → Predicate → Argument → Argument → Cond Argument
relation_with k value predicate a b =
    if nat_lt k (length (of_argument a))
    then conds.Relates predicate (argument_with k value a) b
    else conds.Relates predicate a (argument_with (k - length (of_argument a)) value b)

-- a condition of parts
abbrev pub part_by_parts : Cond-F Argument Part → Part
part_by_parts (Cond-F.Or parts) = record {
  whole = conds.Or (wholes parts);
  constants = flat_map (λ part. part.constants) parts;
  replaced = λ k value. conds.Or (replaced_in k value parts);
}
part_by_parts (Cond-F.And parts) = record {
  whole = conds.And (wholes parts);
  constants = flat_map (λ part. part.constants) parts;
  replaced = λ k value. conds.And (replaced_in k value parts);
}
part_by_parts (Cond-F.Not part) = record {
  whole = conds.Not part.whole;
  constants = part.constants;
  replaced = λ k value. conds.Not (part.replaced k value);
}
part_by_parts (Cond-F.Compare sign a b) = record {
  whole = conds.Compare sign a b;
  constants = of_operand a ++ of_operand b;
  replaced = λ k value. comparison_with k value sign a b;
}
part_by_parts (Cond-F.IsNull a) = record {
  whole = conds.IsNull a;
  constants = of_operand a;
  replaced = λ k value. conds.IsNull (operand_with k value a);
}
part_by_parts (Cond-F.IsEmpty a) = record {
  whole = conds.IsEmpty a;
  constants = of_argument a;
  replaced = λ k value. conds.IsEmpty (argument_with k value a);
}
part_by_parts (Cond-F.Relates predicate a b) = record {
  whole = conds.Relates predicate a b;
  constants = of_argument a ++ of_argument b;
  replaced = λ k value. relation_with k value predicate a b;
}

-- a condition with its constants
abbrev pub part_of : Cond Argument → Part
part_of = fold-Cond Argument Part part_by_parts

-- the constants of a condition, from the left
abbrev pub of_condition : Cond Argument → List Constant
of_condition cond = (part_of cond).constants

-- those of some conditions, one after another
abbrev pub of_conditions : List (Cond Argument) → List Constant
of_conditions conditions = flat_map of_condition conditions

-- a condition with its k-th constant replaced
abbrev pub condition_with : ℕ → Constant → Cond Argument → Cond Argument
condition_with k value cond = (part_of cond).replaced k value

-- some conditions, one after another, with the k-th constant replaced
abbrev pub conditions_with : ℕ → Constant → List (Cond Argument) → List (Cond Argument)
conditions_with k value conditions = replaced_in k value (map part_of conditions)

-- ---- queries

-- the constants of a query, from the left: those of ON, then those of WHERE
abbrev pub constants_of : SpatialQuery → List Constant
constants_of query = of_conditions query.conjuncts

-- a query with its k-th constant replaced, counted from 0; where there are fewer constants it is the query itself
abbrev pub with_constant : ℕ → Constant → SpatialQuery → SpatialQuery
with_constant k value query = record query { conjuncts = conditions_with k value query.conjuncts }

-- the type of the k-th constant, if there are so many
abbrev pub constant_type : ℕ → SpatialQuery → Option OperandType
constant_type k query = option_map type_of (slice_get (constants_of query) k)

-- whether a value may be put in place of a constant of this type; out of range there is none
abbrev pub may_replace : Option OperandType → Constant → Bool
may_replace None value = false
may_replace (Some type) value = takes type (type_of value)

-- the query that is asked once a value was put in place of the k-th constant: where there is none, or it doesn't take the value,
-- the query stays as it is
abbrev pub with_fitting : ℕ → Constant → SpatialQuery → SpatialQuery
with_fitting k value query = if may_replace (constant_type k query) value then with_constant k value query else query

-- a query has no rows, whatever the tables (SQL)
abbrev pub HasNoRows : SpatialQuery → Type 0
HasNoRows query = (truth : List (Row Geometry) → Cond Argument → Truth) (tables : List SpatialTable)
    → meant truth tables query ≡ []

-- a query with the same columns and references that has no conditions and no rows
abbrev pub closed : SpatialQuery → SpatialQuery
closed query = record query { conjuncts = []; counts = false; limit = Some 0 }
