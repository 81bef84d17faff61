-- When the geometries of rows and the literals of conditions are valid.
use Rattle.std.specs.Prelude.{List, [], ◌∷◌, ◌++◌, flat_map, All, ⊤}
use Rattle.geometry_model.specs.Geometries.{Geometry}
use Rattle.geometry_model.specs.Validity.{IsValid}
use Rattle.table_model.specs.Meanings.{Table}
use Rattle.table_model.specs.declared.conditions.Cond.{Cond}
use Rattle.table_model.specs.declared.conditions.Cond.TheFolds.{fold-Cond}
use Rattle.table_model.specs.declared.conditions.Cond.TheOpen.{Cond-F}
use Rattle.table_model.specs.declared.conditions.GeometryArgument.{GeometryArgument}
use Rattle.table_model.specs.declared.conditions.GeometryArgument.TheVariants as arguments
use Rattle.table_model.specs.declared.conditions.Operand.{Operand}
use Rattle.table_model.specs.declared.conditions.Operand.TheVariants as operands
use Rattle.table_model.specs.declared.values.Value.{Value}
use Rattle.table_model.specs.declared.values.Value.TheVariants as values

-- a geometry in a field is valid (06-103r4, 6.1; 06-104r4, 7.2)
abbrev pub IsValidField : Value Geometry → Type 0
IsValidField values.Null = ⊤
IsValidField (values.Integer n) = ⊤
IsValidField (values.Text bytes) = ⊤
IsValidField (values.Geometry g) = IsValid g

-- every geometry in the rows of some tables is valid (06-104r4, 7.2)
abbrev pub HasValidGeometries : List (Table Geometry) → Type 0
HasValidGeometries tables = All (λ table. All (λ row. All IsValidField row) table) tables

-- the literal of an argument, if it is one
abbrev pub literals_of_argument : {G : Type 0} → GeometryArgument G → List G
literals_of_argument (arguments.Column place) = []
literals_of_argument (arguments.Literal g) = g ∷ []

-- the literals of a side of a comparison
abbrev pub literals_of_operand : {G : Type 0} → Operand (GeometryArgument G) → List G
literals_of_operand (operands.Column place) = []
literals_of_operand (operands.Integer n) = []
literals_of_operand (operands.Text bytes) = []
literals_of_operand operands.Null = []
literals_of_operand (operands.AsText a) = literals_of_argument a
literals_of_operand (operands.Dimension a) = literals_of_argument a

-- the literals of a condition, from those of its parts
abbrev pub literals_by_parts : {G : Type 0} → Cond-F (GeometryArgument G) (List G) → List G
literals_by_parts (Cond-F.Or parts) = flat_map (λ part. part) parts
literals_by_parts (Cond-F.And parts) = flat_map (λ part. part) parts
literals_by_parts (Cond-F.Not part) = part
literals_by_parts (Cond-F.Compare sign a b) = literals_of_operand a ++ literals_of_operand b
literals_by_parts (Cond-F.IsNull a) = literals_of_operand a
literals_by_parts (Cond-F.IsEmpty a) = literals_of_argument a
literals_by_parts (Cond-F.Relates predicate a b) = literals_of_argument a ++ literals_of_argument b

-- the geometries of the literals of a condition (06-104r4, 7.2: ST_GeomFromText)
abbrev pub literals : {G : Type 0} → Cond (GeometryArgument G) → List G
literals {G = G} = fold-Cond (GeometryArgument G) (List G) literals_by_parts

-- the literals of some conditions are valid (06-103r4, 6.1)
abbrev pub HasValidLiterals : List (Cond (GeometryArgument Geometry)) → Type 0
HasValidLiterals conditions = All (λ condition. All IsValid (literals condition)) conditions
