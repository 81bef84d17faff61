-- Short names for worked examples of plans.
use Rattle.std.specs.Prelude.{ℕ, suc, zero, ◌+◌, pos, true, false, List, [], ◌∷◌, map, codes, Option, Some, None, option_map}
use Rattle.geometry_model.specs.Geometries.{Geometry, Point, MultiPoint, LineString, Polygon}
use Rattle.geometry_model.specs.Labels.{labelled_matrix}
use Rattle.geometry_model.specs.TextExamples.{at}
use Rattle.geometry_model.specs.declared.relations.Predicate.{Predicate}
use Rattle.geometry_model.specs.declared.relations.Predicate.TheVariants as predicates
use Rattle.table_model.specs.AnswerTexts.{answer}
use Rattle.table_model.specs.Arguments.{denoted}
use Rattle.table_model.specs.ExplainTexts.{explain_text, analyze_text}
use Rattle.table_model.specs.Meanings.{Row, Table}
use Rattle.table_model.specs.GeometryColumns.{ColumnShape, geometry_writing}
use Rattle.table_model.specs.Loading.{Record}
use Rattle.table_model.specs.Places.{query_rows, meant}
use Rattle.table_model.specs.Plans.{lawful_plans, chosen}
use Rattle.table_model.specs.Truths.{truth}
use Rattle.table_model.specs.Work.{work, work_to_row}
use Rattle.table_model.specs.declared.values.Value.{Value}
use Rattle.table_model.specs.declared.values.Value.TheVariants as values
use Rattle.table_model.specs.declared.conditions.Comparison.{Comparison}
use Rattle.table_model.specs.declared.conditions.Comparison.TheVariants as signs
use Rattle.table_model.specs.declared.conditions.Item.TheVariants as items
use Rattle.table_model.specs.declared.definitions.ColumnType.TheVariants as columns
use Rattle.table_model.specs.declared.definitions.TableDef.{TableDef}
use Rattle.table_model.specs.declared.conditions.ColumnPlace.{ColumnPlace}
use Rattle.table_model.specs.declared.conditions.GeometryArgument.{GeometryArgument}
use Rattle.table_model.specs.declared.conditions.GeometryArgument.TheVariants as arguments
use Rattle.table_model.specs.declared.conditions.Operand.TheVariants as operands
use Rattle.table_model.specs.declared.conditions.Cond.{Cond}
use Rattle.table_model.specs.declared.conditions.Cond.TheVariants as conds
use Rattle.table_model.specs.declared.conditions.Reference.{Reference}
use Rattle.table_model.specs.declared.conditions.Bound.{Bound}
use Rattle.table_model.specs.declared.plans.AccessMethod.TheVariants as methods
use Rattle.table_model.specs.declared.plans.Access.{Access}
use Rattle.table_model.specs.declared.plans.Plan.{Plan}
use Rattle.table_model.specs.declared.queries.Explain.TheVariants as explains

-- a bound query with geometries, and a condition of it
abbrev pub Query : Type 0
Query = Bound (GeometryArgument Geometry) ColumnPlace

-- a condition with geometries
abbrev pub Condition : Type 0
Condition = Cond (GeometryArgument Geometry)

-- a square of side 4 along the axes, by its lower left corner
abbrev pub square : ℕ → ℕ → Geometry
square x y = Polygon ((at (pos x) (pos y) ∷ at (pos (x + 4)) (pos y) ∷ at (pos (x + 4)) (pos (y + 4)) ∷ at (pos x) (pos (y + 4)) ∷ at (pos x) (pos y) ∷ []) ∷ [])

-- a row of a key and a geometry, or null
abbrev pub row : ℕ → Value Geometry → Row Geometry
row key value = values.Integer (pos key) ∷ value ∷ []

-- this many rows of points at height 1, the key of each being its x, from `key` on
abbrev pub point_rows : ℕ → ℕ → Table Geometry
point_rows key zero = []
point_rows key (suc n) = row key (values.Geometry (Point (Some (at (pos key) (pos 1))))) ∷ point_rows (key + 1) n

-- two squares side by side
abbrev pub squares : Table Geometry
squares = row 1 (values.Geometry (square 0 0)) ∷ row 2 (values.Geometry (square 4 0)) ∷ []

-- empty geometries of three types, a point and a null
abbrev pub empties : Table Geometry
empties =
    row 1 (values.Geometry (Point None))
    ∷ row 2 (values.Geometry (LineString []))
    ∷ row 3 (values.Geometry (Point (Some (at (pos 0) (pos 0)))))
    ∷ row 4 values.Null
    ∷ row 5 (values.Geometry (Polygon []))
    ∷ []

-- a reference of a table, by the table's place and the reference's name
abbrev pub of : ℕ → List ℕ → Reference
of table name = record { table = table; name = name }

-- a query over references, with conjuncts
abbrev pub query : List Reference → List Condition → Query
query references conjuncts = record { explain = explains.No; references = references; items = []; conjuncts = conjuncts; counts = false; limit = None }

-- the key and the geometry of a reference
abbrev pub key : ℕ → ColumnPlace
key reference = record { reference = reference; column = 0 }

-- the geometry column of a reference
abbrev pub geometry : ℕ → GeometryArgument Geometry
geometry reference = arguments.Column (record { reference = reference; column = 1 })

-- a comparison of a reference's key with a number
abbrev pub key_is : Comparison → ℕ → ℕ → Condition
key_is sign reference n = conds.Compare sign (operands.Column (key reference)) (operands.Integer (pos n))

-- a predicate of the first reference's geometry and a literal
abbrev pub with_literal : Predicate → Geometry → Condition
with_literal predicate g = conds.Relates predicate (geometry 0) (arguments.Literal g)

-- a predicate of the two references' geometries
abbrev pub of_both : Predicate → Condition
of_both predicate = conds.Relates predicate (geometry 0) (geometry 1)

-- a predicate of the first reference's geometry with itself
abbrev pub with_itself : Predicate → Condition
with_itself predicate = conds.Relates predicate (geometry 0) (geometry 0)

-- the accesses and the plans of worked rows
abbrev pub scan : ℕ → Access
scan reference = record { reference = reference; method = methods.Scan }

-- a probe of a reference by a conjunct
abbrev pub probe : ℕ → ℕ → Access
probe reference place = record { reference = reference; method = methods.Probe place }

-- a plan with its cost, accesses and filters
abbrev pub plan : ℕ → List Access → List ℕ → Plan
plan price accesses filters = record { accesses = accesses; filters = filters; cost = price }

-- the costs of the lawful plans, in their order
abbrev pub costs : List (Table Geometry) → Query → List ℕ
costs tables q = map (λ plan. plan.cost) (lawful_plans tables q)

-- the text of EXPLAIN for the chosen plan
abbrev pub explained : List (Table Geometry) → Query → Option (List ℕ)
explained tables q = option_map (explain_text q) (chosen tables q)

-- the text of EXPLAIN ANALYZE for the chosen plan, by the label matrix
abbrev pub analyzed : List (Table Geometry) → Query → Option (List ℕ)
analyzed tables q = option_map (λ plan. analyze_text q plan (work labelled_matrix denoted tables q plan)) (chosen tables q)

-- a query under LIMIT
abbrev pub limit_to : ℕ → Query → Query
limit_to n q = record q { limit = Some n }

-- a query that counts
abbrev pub counting : Query → Query
counting q = record q { counts = true }

-- a query that lists the keys of these references
abbrev pub listing : List ℕ → Query → Query
listing references q = record q { items = map (λ reference. items.Column (key reference)) references }

-- the two squares, their keys exchanged
abbrev pub exchanged : Table Geometry
exchanged = row 1 (values.Geometry (square 4 0)) ∷ row 2 (values.Geometry (square 0 0)) ∷ []

-- the table of a hundred points
abbrev pub big : List (Table Geometry)
big = point_rows 1 100 ∷ []

-- over the table of points: the key is above 99, or the point and a square have a point in common
abbrev pub far_or_near : Query
far_or_near = query (of 0 (codes "big") ∷ []) (conds.Or (key_is signs.Greater 0 99 ∷ with_literal predicates.Intersects (square 0 0) ∷ []) ∷ [])

-- the point and a square have a point in common
abbrev pub near : Query
near = query (of 0 (codes "big") ∷ []) (with_literal predicates.Intersects (square 0 0) ∷ [])

-- pairs of a point and a square that have a point in common, where the key of the point isn't 2
abbrev pub joined : Query
joined = query (of 0 (codes "b") ∷ of 1 (codes "s") ∷ []) (of_both predicates.Intersects ∷ key_is signs.NotEqual 0 2 ∷ [])

-- pairs of a point near a square and a square, which have a point in common
abbrev pub near_and_joined : Query
near_and_joined = query (of 0 (codes "b") ∷ of 1 (codes "s") ∷ []) (with_literal predicates.Intersects (square 0 0) ∷ of_both predicates.Intersects ∷ [])

-- pairs of squares that touch
abbrev pub touching : Query
touching = query (of 0 (codes "a") ∷ of 0 (codes "b") ∷ []) (of_both predicates.Touches ∷ [])

-- what is at the places of the meaning, by the label matrix
abbrev pub wanted : List (Table Geometry) → Query → List (List (Row Geometry))
wanted tables q = map (query_rows tables q) (meant (truth labelled_matrix denoted) tables q)

-- the records of an answer, the names of the columns being these tables'
abbrev pub returned : List (TableDef ColumnShape) → List (Table Geometry) → Query → List Record
returned definitions tables q = answer geometry_writing definitions q (wanted tables q)

-- the work of the chosen plan after this many rows
abbrev pub worked_to : List (Table Geometry) → Query → ℕ → Option ℕ
worked_to tables q n = option_map (λ plan. work_to_row labelled_matrix denoted tables q plan n) (chosen tables q)

-- the table definition of points or squares
abbrev pub definition : List ℕ → TableDef ColumnShape
definition name = record {
  name = name;
  columns = record { name = codes "id"; column_type = columns.Integer; not_null = false } ∷ record { name = codes "geom"; column_type = columns.Geometry None; not_null = false } ∷ [];
  key = 0;
}

-- a row with a point
abbrev pub first_point : Row Geometry
first_point = row 1 (values.Geometry (Point (Some (at (pos 1) (pos 1)))))

-- a predicate of the second reference's geometry with itself
abbrev pub of_second : Predicate → Condition
of_second predicate = conds.Relates predicate (geometry 1) (geometry 1)

-- over the table of empty geometries: equal to the empty one
abbrev pub equal_to_empty : Query
equal_to_empty = query (of 0 (codes "e") ∷ []) (with_literal predicates.Equals (MultiPoint []) ∷ [])
