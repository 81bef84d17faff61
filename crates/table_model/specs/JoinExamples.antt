-- Short names for a worked example of two tables joined by ON: points and squares, from the written query to the records of its answer.
use Rattle.std.specs.Prelude.{ℕ, pos, false, List, [], ◌∷◌, codes, Some, None}
use Rattle.geometry_model.specs.Geometries.{Geometry}
use Rattle.geometry_model.specs.Labels.{labelled_matrix}
use Rattle.geometry_model.specs.declared.relations.Predicate.TheVariants as predicates
use Rattle.geometry_model.specs.declared.shapes.GeometryType.TheVariants as shapes
use Rattle.table_model.specs.AnswerTexts.{answer_records}
use Rattle.table_model.specs.Arguments.{denoted}
use Rattle.table_model.specs.GeometryColumns.{ColumnShape, geometry_writing}
use Rattle.table_model.specs.GeometryColumnExamples.{column, name, of, aliased}
use Rattle.table_model.specs.Loading.{Record}
use Rattle.table_model.specs.Meanings.{Table, meaning}
use Rattle.table_model.specs.PlanExamples.{point_rows, row, square}
use Rattle.table_model.specs.Statements.{Statement, by_conjuncts}
use Rattle.table_model.specs.Truths.{truth}
use Rattle.table_model.specs.declared.conditions.ColumnPlace.{ColumnPlace}
use Rattle.table_model.specs.declared.conditions.Comparison.TheVariants as signs
use Rattle.table_model.specs.declared.conditions.Cond.TheVariants as conds
use Rattle.table_model.specs.declared.conditions.GeometryArgument.{GeometryArgument}
use Rattle.table_model.specs.declared.conditions.GeometryArgument.TheVariants as arguments
use Rattle.table_model.specs.declared.conditions.Item.TheVariants as items
use Rattle.table_model.specs.declared.conditions.Operand.TheVariants as operands
use Rattle.table_model.specs.declared.definitions.ColumnType.TheVariants as columns
use Rattle.table_model.specs.declared.definitions.TableDef.{TableDef}
use Rattle.table_model.specs.declared.queries.Explain.TheVariants as explains
use Rattle.table_model.specs.declared.queries.Query.{Query}
use Rattle.table_model.specs.declared.queries.Selection.TheVariants as selections
use Rattle.table_model.specs.declared.queries.WrittenColumn.{WrittenColumn}
use Rattle.table_model.specs.declared.queries.WrittenCond.TheVariants as written_conds
use Rattle.table_model.specs.declared.queries.WrittenGeometry.{WrittenGeometry}
use Rattle.table_model.specs.declared.queries.WrittenGeometry.TheVariants as written_geometry
use Rattle.table_model.specs.declared.queries.WrittenItem.TheVariants as written_items
use Rattle.table_model.specs.declared.queries.WrittenOperand.TheVariants as written_operands
use Rattle.table_model.specs.declared.queries.WrittenPredicate.TheVariants as written_predicates
use Rattle.table_model.specs.declared.values.Value.TheVariants as values

-- the tables big, of points, and sq, of squares
abbrev pub points_and_squares : List (TableDef ColumnShape)
points_and_squares = record {
  name = codes "big";
  columns = column (codes "id") columns.Integer ∷ column (codes "geom") (columns.Geometry (Some shapes.Point)) ∷ [];
  key = 0;
} ∷ record {
  name = codes "sq";
  columns = column (codes "id") columns.Integer ∷ column (codes "geom") (columns.Geometry (Some shapes.Polygon)) ∷ [];
  key = 0;
} ∷ []

-- SELECT b.id, s.id FROM big b JOIN sq s ON ST_Intersects(b.geom, s.geom) WHERE b.id <> 2
abbrev pub written_join : Query WrittenGeometry WrittenColumn
written_join = record {
  explain = explains.No;
  selection = selections.Items (
      written_items.Column (of (name (codes "b") 7) (name (codes "id") 9))
      ∷ written_items.Column (of (name (codes "s") 13) (name (codes "id") 15))
      ∷ []);
  references = aliased (name (codes "big") 23) (name (codes "b") 27) ∷ aliased (name (codes "sq") 34) (name (codes "s") 37) ∷ [];
  on = Some (written_conds.Relates 42 (written_predicates.Named predicates.Intersects)
      (written_geometry.Column (of (name (codes "b") 56) (name (codes "geom") 58)))
      (written_geometry.Column (of (name (codes "s") 64) (name (codes "geom") 66))));
  condition = Some (written_conds.Compare 78 signs.NotEqual (written_operands.Column (of (name (codes "b") 78) (name (codes "id") 80))) (written_operands.Integer (pos 2)));
  limit = None;
}

-- the query that it is, bound as it is written
abbrev pub join : Statement (GeometryArgument Geometry) ColumnPlace
join = record {
  explain = explains.No;
  references = record { table = 0; name = codes "b" } ∷ record { table = 1; name = codes "s" } ∷ [];
  items = items.Column (record { reference = 0; column = 0 }) ∷ items.Column (record { reference = 1; column = 0 }) ∷ [];
  on = Some (conds.Relates predicates.Intersects (arguments.Column (record { reference = 0; column = 1 })) (arguments.Column (record { reference = 1; column = 1 })));
  condition = Some (conds.Compare signs.NotEqual (operands.Column (record { reference = 0; column = 0 })) (operands.Integer (pos 2)));
  counts = false;
  limit = None;
}

-- two squares side by side, the left one first
abbrev pub left_first : Table Geometry
left_first = row 1 (values.Geometry (square 0 0)) ∷ row 2 (values.Geometry (square 4 0)) ∷ []

-- the same squares, their keys exchanged
abbrev pub right_first : Table Geometry
right_first = row 1 (values.Geometry (square 4 0)) ∷ row 2 (values.Geometry (square 0 0)) ∷ []

-- the records of the answer over a hundred points at height 1 and these squares
abbrev pub joined_with : Table Geometry → List Record
joined_with squares =
    answer_records geometry_writing points_and_squares (by_conjuncts join) (meaning (truth labelled_matrix denoted) (point_rows 1 100 ∷ squares ∷ []) join)

-- a record of two fields
abbrev pub pair : List ℕ → List ℕ → Record
pair first second = first ∷ second ∷ []
