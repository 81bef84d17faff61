-- Worked examples of binding: a table of three columns, and names written at byte 7 of a query.
use Rattle.std.specs.Prelude.{ℕ, false, List, [], ◌∷◌, codes, Some, None, Result}
use Rattle.geometry_model.specs.Geometries.{Geometry}
use Rattle.table_model.specs.Binding.{bound_comparison}
use Rattle.table_model.specs.GeometryColumns.{ColumnShape, geometry_binding}
use Rattle.table_model.specs.declared.conditions.Comparison.TheVariants as signs
use Rattle.table_model.specs.declared.conditions.Cond.{Cond}
use Rattle.table_model.specs.declared.conditions.GeometryArgument.{GeometryArgument}
use Rattle.table_model.specs.declared.conditions.Reference.{Reference}
use Rattle.table_model.specs.declared.definitions.ColumnType.TheVariants as types
use Rattle.table_model.specs.declared.definitions.TableDef.{TableDef}
use Rattle.table_model.specs.declared.faults.QueryFault.{QueryFault}
use Rattle.table_model.specs.declared.queries.WrittenColumn.{WrittenColumn}
use Rattle.table_model.specs.declared.queries.WrittenOperand.TheVariants as operands

-- a table t with columns id, the key, pop and name
abbrev pub town_table : TableDef ColumnShape
town_table = record {
  name = codes "t";
  columns =
      record { name = codes "id"; column_type = types.Integer; not_null = false }
      ∷ record { name = codes "pop"; column_type = types.Integer; not_null = false }
      ∷ record { name = codes "name"; column_type = types.Text; not_null = false }
      ∷ [];
  key = 0;
}

-- the schema of this one table
abbrev pub towns : List (TableDef ColumnShape)
towns = town_table ∷ []

-- a reference of that table by some name
abbrev pub called : List ℕ → Reference
called name = record { table = 0; name = name }

-- a column without reference
abbrev pub bare : List ℕ → WrittenColumn
bare name = record { reference = None; name = record { text = name; at = 7 } }

-- a column with a reference
abbrev pub qualified : List ℕ → List ℕ → WrittenColumn
qualified reference name = record { reference = Some (record { text = reference; at = 7 }); name = record { text = name; at = 9 } }

-- a comparison of a column with the text x, at byte 23
abbrev pub compared_with_x : List ℕ → Result (Cond (GeometryArgument Geometry)) QueryFault
compared_with_x name =
    bound_comparison geometry_binding towns (called (codes "t") ∷ []) 23 signs.Equal (operands.Column (bare name)) (operands.Text (record { text = codes "x"; at = 29 }))
