-- What is in the query of an open statement: its form, its conjuncts, and the operands of their tests.
use Rattle.std.specs.Prelude.{ℕ, ◌==◌, ◌&&◌, Bool, false, not, List, [], ◌∷◌, Option, length, slice_get, is_some}
use Rattle.std.specs.List.{enumerate_from, flat_map}
use Rattle.std.specs.Option.{option_and_then, option_map, unwrap_or}
use Rattle.geometry_model.specs.Predicates.{forces_meeting}
use Rattle.geometry_model.specs.declared.relations.Predicate.{Predicate}
use Rattle.geometry_model.specs.declared.relations.Predicate.TheVariants as predicates
use Rattle.sfq_tables.specs.Connections.{Connected}
use Rattle.sfq_tables.specs.OpenStatements.{statement_at}
use Rattle.sfq_tables.specs.declared.query_forms.QueryForm.{QueryForm}
use Rattle.sfq_tables.specs.declared.query_forms.ConjunctForm.{ConjunctForm}
use Rattle.sfq_tables.specs.declared.operands.OperandForm.{OperandForm}
use Rattle.statements.specs.Constants.{Argument}
use Rattle.statements.specs.declared.prepared.Statement.{Statement}
use Rattle.table_model.specs.SpatialTables.{SpatialQuery}
use Rattle.table_model.specs.declared.conditions.ColumnPlace.{ColumnPlace}
use Rattle.table_model.specs.declared.conditions.Comparison.{Comparison}
use Rattle.table_model.specs.declared.conditions.Comparison.TheVariants as comparisons
use Rattle.table_model.specs.declared.conditions.Cond.{Cond}
use Rattle.table_model.specs.declared.conditions.Cond.TheVariants as conds
use Rattle.table_model.specs.declared.conditions.Cond.TheFolds.{fold-Cond}
use Rattle.table_model.specs.declared.conditions.Cond.TheOpen.{Cond-F}
use Rattle.table_model.specs.declared.conditions.GeometryArgument.TheVariants as arguments
use Rattle.table_model.specs.declared.conditions.Operand.{Operand}
use Rattle.table_model.specs.declared.conditions.Operand.TheVariants as operands
use Rattle.table_model.specs.declared.queries.Explain.{Explain}
use Rattle.table_model.specs.declared.queries.Explain.TheVariants as explains

-- ---- the query

-- what is asked for: 0 are rows, 1 is the plan, 2 the plan with the work of running it (SQL, EXPLAIN)
abbrev pub explain_number : Explain → ℕ
explain_number explains.No = 0
explain_number explains.Plan = 1
explain_number explains.Analyze = 2

-- the form of a query; without LIMIT its number is 0 (SQL, the query)
abbrev pub form_of_query : SpatialQuery → QueryForm
form_of_query query = record {
  limit = unwrap_or query.limit 0;
  conjuncts = length query.conjuncts;
  explain = explain_number query.explain;
  counts = query.counts;
  limits = is_some query.limit;
}

-- the form of an open statement's query
abbrev pub query_form_of : Connected → ℕ → Option QueryForm
query_form_of connected number = option_map (λ (s : Statement). form_of_query s.bound) (statement_at connected number)

-- ---- tests

-- the number of a comparison: `=` 0, `<>` 1, `<` 2, `<=` 3, `>` 4, `>=` 5 (SQL, comparison)
abbrev pub comparison_number : Comparison → ℕ
comparison_number comparisons.Equal = 0
comparison_number comparisons.NotEqual = 1
comparison_number comparisons.Less = 2
comparison_number comparisons.LessOrEqual = 3
comparison_number comparisons.Greater = 4
comparison_number comparisons.GreaterOrEqual = 5

-- the number of a predicate: 10 more than that of its relation, and 9 of a pattern (06-103r4, 6.1.15.3)
abbrev pub predicate_number : Predicate → ℕ
predicate_number predicates.Equals = 10
predicate_number predicates.Disjoint = 11
predicate_number predicates.Intersects = 12
predicate_number predicates.Touches = 13
predicate_number predicates.Crosses = 14
predicate_number predicates.Within = 15
predicate_number predicates.Contains = 16
predicate_number predicates.Overlaps = 17
predicate_number (predicates.Relate p) = 9

-- the number of the test that a condition is; 8 is AND, OR and NOT, which are made of conditions (SQL, the search condition)
abbrev pub test_number : Cond Argument → ℕ
test_number (conds.Compare sign a b) = comparison_number sign
test_number (conds.IsNull a) = 6
test_number (conds.IsEmpty a) = 7
test_number (conds.Relates predicate a b) = predicate_number predicate
test_number _ = 8

-- ---- conjuncts

-- two arguments are columns of two references
abbrev pub are_of_two : Argument → Argument → Bool
are_of_two (arguments.Column p) (arguments.Column q) = not (p.reference == q.reference)
are_of_two (arguments.Column p) (arguments.Literal h) = false
are_of_two (arguments.Literal g) b = false

-- a condition is true only of pairs of rows whose envelopes meet: a predicate that forces that, of a column of each of two references
-- (06-103r4, 6.1.15)
abbrev pub joins : Cond Argument → Bool
joins (conds.Relates predicate a b) = forces_meeting predicate && are_of_two a b
joins _ = false

-- what a conjunct is
abbrev pub conjunct_form : Cond Argument → ConjunctForm
conjunct_form condition = record { test = test_number condition; joins = joins condition }

-- a conjunct of an open statement's query: those of ON, then those of WHERE (SQL, the search condition)
abbrev pub conjunct_at : Connected → ℕ → ℕ → Option ConjunctForm
conjunct_at connected number place =
    option_and_then (λ (s : Statement). option_map conjunct_form (slice_get s.bound.conjuncts place)) (statement_at connected number)

-- ---- operands

-- a column as an operand of a test in a conjunct, with the number of the function that is called with it
abbrev pub of_column : ℕ → ℕ → ℕ → ColumnPlace → OperandForm
of_column conjunct test function place =
    record { conjunct = conjunct; reference = place.reference; column = place.column; test = test; constant = 4; function = function }

-- a constant as an operand: 0 is a number, 1 a text, 2 a geometry, 3 NULL; it has no column
abbrev pub of_constant : ℕ → ℕ → ℕ → ℕ → OperandForm
of_constant conjunct test function type =
    record { conjunct = conjunct; reference = 0; column = 0; test = test; constant = type; function = function }

-- a geometry argument as an operand (06-104r4, 7.2)
abbrev pub argument_form : ℕ → ℕ → ℕ → Argument → OperandForm
argument_form conjunct test function (arguments.Column place) = of_column conjunct test function place
argument_form conjunct test function (arguments.Literal g) = of_constant conjunct test function 2

-- a side of a comparison as an operand: no function is 0, ST_AsText 1, ST_Dimension 2 (SQL, comparison)
abbrev pub operand_form : ℕ → ℕ → Operand Argument → OperandForm
operand_form conjunct test (operands.Column place) = of_column conjunct test 0 place
operand_form conjunct test (operands.Integer n) = of_constant conjunct test 0 0
operand_form conjunct test (operands.Text bytes) = of_constant conjunct test 0 1
operand_form conjunct test operands.Null = of_constant conjunct test 0 3
operand_form conjunct test (operands.AsText a) = argument_form conjunct test 1 a
operand_form conjunct test (operands.Dimension a) = argument_form conjunct test 2 a

-- the operands of a condition, from those of its parts
abbrev pub operands_by_parts : ℕ → Cond-F Argument (List OperandForm) → List OperandForm
operands_by_parts conjunct (Cond-F.Or parts) = flat_map (λ part. part) parts
operands_by_parts conjunct (Cond-F.And parts) = flat_map (λ part. part) parts
operands_by_parts conjunct (Cond-F.Not part) = part
operands_by_parts conjunct (Cond-F.Compare sign a b) =
    operand_form conjunct (comparison_number sign) a ∷ operand_form conjunct (comparison_number sign) b ∷ []
operands_by_parts conjunct (Cond-F.IsNull a) = operand_form conjunct 6 a ∷ []
operands_by_parts conjunct (Cond-F.IsEmpty a) = argument_form conjunct 7 0 a ∷ []
operands_by_parts conjunct (Cond-F.Relates predicate a b) =
    argument_form conjunct (predicate_number predicate) 0 a ∷ argument_form conjunct (predicate_number predicate) 0 b ∷ []

-- the operands of a condition in the conjunct of a number, from the left
abbrev pub operands_in : ℕ → Cond Argument → List OperandForm
operands_in conjunct = fold-Cond Argument (List OperandForm) (operands_by_parts conjunct)

-- the operands of a query, from the left: those of ON, then those of WHERE (SQL, the search condition)
abbrev pub operands_of : SpatialQuery → List OperandForm
operands_of query = flat_map (λ c. operands_in c.0 c.1) (enumerate_from 0 query.conjuncts)

-- the operands of an open statement's query
abbrev pub open_operands : Connected → ℕ → Option (List OperandForm)
open_operands connected number = option_map (λ (s : Statement). operands_of s.bound) (statement_at connected number)
