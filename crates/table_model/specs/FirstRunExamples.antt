-- Short names for the worked example of a run over a table of numbers and texts: its records, its queries, its rows.
use Rattle.std.specs.Prelude.{ℕ, pos, false, List, [], ◌∷◌, codes, Some, None}
use Rattle.geometry_model.specs.Geometries.{Geometry}
use Rattle.geometry_model.specs.Labels.{labelled_matrix}
use Rattle.table_model.specs.AnswerTexts.{answer_records}
use Rattle.table_model.specs.Arguments.{denoted}
use Rattle.table_model.specs.Binding.{Checked, binding}
use Rattle.table_model.specs.BindingExamples.{towns}
use Rattle.table_model.specs.GeometryColumns.{geometry_binding, geometry_writing}
use Rattle.table_model.specs.Loading.{Record}
use Rattle.table_model.specs.Meanings.{Row, passing_rows}
use Rattle.table_model.specs.Truths.{truth}
use Rattle.table_model.specs.declared.conditions.Bound.{Bound}
use Rattle.table_model.specs.declared.conditions.ColumnPlace.{ColumnPlace}
use Rattle.table_model.specs.declared.conditions.Comparison.TheVariants as signs
use Rattle.table_model.specs.declared.conditions.Cond.{Cond}
use Rattle.table_model.specs.declared.conditions.Cond.TheVariants as conds
use Rattle.table_model.specs.declared.conditions.GeometryArgument.{GeometryArgument}
use Rattle.table_model.specs.declared.conditions.Item.{Item}
use Rattle.table_model.specs.declared.conditions.Item.TheVariants as items
use Rattle.table_model.specs.declared.conditions.Operand.{Operand}
use Rattle.table_model.specs.declared.conditions.Operand.TheVariants as operands
use Rattle.table_model.specs.declared.queries.Explain.TheVariants as explains
use Rattle.table_model.specs.declared.queries.Selection.TheVariants as selections
use Rattle.table_model.specs.declared.queries.WrittenColumn.{WrittenColumn}
use Rattle.table_model.specs.declared.queries.WrittenCond.{WrittenCond}
use Rattle.table_model.specs.declared.queries.WrittenCond.TheVariants as written_conds
use Rattle.table_model.specs.declared.queries.WrittenGeometry.{WrittenGeometry}
use Rattle.table_model.specs.declared.queries.WrittenItem.{WrittenItem}
use Rattle.table_model.specs.declared.queries.WrittenItem.TheVariants as written_items
use Rattle.table_model.specs.declared.queries.WrittenOperand.{WrittenOperand}
use Rattle.table_model.specs.declared.queries.WrittenOperand.TheVariants as written_operands
use Rattle.table_model.specs.declared.values.Value.{Value}
use Rattle.table_model.specs.declared.values.Value.TheVariants as values

-- the records of the table, the header first
abbrev pub town_records : List Record
town_records =
    (codes "id" ∷ codes "pop" ∷ codes "name" ∷ [])
    ∷ (codes "1" ∷ codes "8" ∷ codes "a" ∷ [])
    ∷ (codes "2" ∷ codes "9" ∷ codes "b" ∷ [])
    ∷ (codes "3" ∷ [] ∷ codes "c" ∷ [])
    ∷ (codes "4" ∷ codes "7" ∷ [] ∷ [])
    ∷ []

-- a row of a key, a number and a text
abbrev pub town : ℕ → Value Geometry → Value Geometry → Row Geometry
town id pop name = values.Integer (pos id) ∷ pop ∷ name ∷ []

-- the first row
abbrev pub first_town : Row Geometry
first_town = town 1 (values.Integer (pos 8)) (values.Text (codes "a"))

-- the second row
abbrev pub second_town : Row Geometry
second_town = town 2 (values.Integer (pos 9)) (values.Text (codes "b"))

-- the third row, whose number is null
abbrev pub third_town : Row Geometry
third_town = town 3 values.Null (values.Text (codes "c"))

-- the fourth row, whose name is null
abbrev pub fourth_town : Row Geometry
fourth_town = town 4 (values.Integer (pos 7)) values.Null

-- the table
abbrev pub town_rows : List (Row Geometry)
town_rows = first_town ∷ second_town ∷ third_town ∷ fourth_town ∷ []

-- a column as it is written, at a byte
abbrev pub written_column : List ℕ → ℕ → WrittenOperand WrittenGeometry
written_column name at = written_operands.Column (record { reference = None; name = record { text = name; at = at } })

-- a column of the select list as it is written, at a byte
abbrev pub written_item : List ℕ → ℕ → WrittenItem WrittenColumn
written_item name at = written_items.Column (record { reference = None; name = record { text = name; at = at } })

-- a bound condition
abbrev pub BoundCond : Type 0
BoundCond = Cond (GeometryArgument Geometry)

-- a bound query
abbrev pub BoundQuery : Type 0
BoundQuery = Bound (GeometryArgument Geometry) ColumnPlace

-- SELECT id, name FROM t with this WHERE, bound to the table
abbrev pub bound_names : WrittenCond WrittenGeometry → Checked BoundQuery
bound_names condition = binding geometry_binding towns (record {
  explain = explains.No;
  selection = selections.Items (written_item (codes "id") 7 ∷ written_item (codes "name") 11 ∷ []);
  references = record { table = record { text = codes "t"; at = 21 }; alias = None } ∷ [];
  on = None;
  condition = Some condition;
  limit = None;
})

-- pop > 5 AND NOT name = 'b'
abbrev pub many_but_b : WrittenCond WrittenGeometry
many_but_b = written_conds.And (
    written_conds.Compare 29 signs.Greater (written_column (codes "pop") 29) (written_operands.Integer (pos 5))
    ∷ written_conds.Not (written_conds.Compare 45 signs.Equal (written_column (codes "name") 45) (written_operands.Text (record { text = codes "b"; at = 52 })))
    ∷ [])

-- the place of a column of the one reference
abbrev pub column_at : ℕ → ColumnPlace
column_at column = record { reference = 0; column = column }

-- a side that is a column
abbrev pub side : ℕ → Operand (GeometryArgument Geometry)
side column = operands.Column (column_at column)

-- the condition pop > 5
abbrev pub many : BoundCond
many = conds.Compare signs.Greater (side 1) (operands.Integer (pos 5))

-- the condition that the name is this
abbrev pub name_is : List ℕ → BoundCond
name_is name = conds.Compare signs.Equal (side 2) (operands.Text name)

-- a query of these columns and conjuncts
abbrev pub query_of_columns : List (Item ColumnPlace) → List BoundCond → BoundQuery
query_of_columns columns conjuncts = record {
  explain = explains.No;
  references = record { table = 0; name = codes "t" } ∷ [];
  items = columns;
  conjuncts = conjuncts;
  counts = false;
  limit = None;
}

-- SELECT id, name FROM t WHERE pop > 5 AND NOT name = 'b'
abbrev pub first_query : BoundQuery
first_query = query_of_columns (items.Column (column_at 0) ∷ items.Column (column_at 2) ∷ []) (many ∷ conds.Not (name_is (codes "b")) ∷ [])

-- SELECT id FROM t WHERE pop > 5 OR name = 'c'
abbrev pub second_query : BoundQuery
second_query = query_of_columns (items.Column (column_at 0) ∷ []) (conds.Or (many ∷ name_is (codes "c") ∷ []) ∷ [])

-- SELECT id FROM t WHERE NOT pop > 7
abbrev pub third_query : BoundQuery
third_query = query_of_columns (items.Column (column_at 0) ∷ []) (conds.Not (conds.Compare signs.Greater (side 1) (operands.Integer (pos 7))) ∷ [])

-- what a query means over the table
abbrev pub meant : BoundQuery → List (List (Row Geometry))
meant query = passing_rows (truth labelled_matrix denoted) (town_rows ∷ []) query

-- the records of its answer
abbrev pub returned : BoundQuery → List Record
returned query = answer_records geometry_writing towns query (meant query)
