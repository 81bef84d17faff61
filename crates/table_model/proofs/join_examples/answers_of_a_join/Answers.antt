-- What ON and WHERE say of a choice of rows, and then the digits of the numbers.
use Rattle.std.proofs.Common.{◌≡◌, List, [], ◌∷◌, pos, ap, ◌∙◌, refl}
use Rattle.std.specs.Fmt.{digits}
use Rattle.std.specs.List.{filter}
use Rattle.geometry_model.specs.Geometries.{Geometry}
use Rattle.geometry_model.specs.Labels.{labelled_matrix}
use Rattle.geometry_model.specs.declared.relations.Predicate.TheVariants.{Intersects}
use Rattle.table_model.specs.AnswerTexts.{answer_records}
use Rattle.table_model.specs.Arguments.{denoted}
use Rattle.table_model.specs.GeometryColumns.{geometry_writing}
use Rattle.table_model.specs.JoinExamples.{points_and_squares, join, left_first, right_first}
use Rattle.table_model.specs.Loading.{Record}
use Rattle.table_model.specs.Meanings.{Table, is_true, product, search_condition}
use Rattle.table_model.specs.PlanExamples.{point_rows}
use Rattle.table_model.specs.Statements.{by_conjuncts}
use Rattle.table_model.specs.Truths.{Rows, truth, and_of, compared, order_of, field_at, related}
use Rattle.table_model.specs.declared.conditions.Comparison.TheVariants.{NotEqual}
use Rattle.table_model.specs.declared.conditions.GeometryArgument.TheVariants.{Column}
use Rattle.table_model.specs.declared.values.Truth.{Truth}
use Rattle.table_model.specs.declared.values.Value.TheVariants as values
use Rattle.table_model.proofs.CondFolds.{cond_folds}
use Rattle.table_model.proofs.join_examples.answers_of_a_join.Goals as goal

-- the point and the square meet, and the key of the point isn't 2
abbrev said : Rows Geometry → Truth
said rows =
    and_of (related labelled_matrix Intersects (denoted rows (Column (record { reference = 0; column = 1 }))) (denoted rows (Column (record { reference = 1; column = 1 }))))
    (compared NotEqual (order_of (field_at rows (record { reference = 0; column = 0 })) (values.Integer (pos 2))))

is_said : (rows : Rows Geometry) → truth labelled_matrix denoted rows (search_condition join) ≡ said rows
is_said rows = simp cond_folds refl

-- the records of the choices at which this is true
abbrev records : (Rows Geometry → Truth) → Table Geometry → List Record
records value squares =
    answer_records geometry_writing points_and_squares (by_conjuncts join) (filter (λ rows. is_true (value rows)) (product (point_rows 1 100 ∷ squares ∷ [])))

pub returns-clause-left_first : goal.returns-clause-left_first
unfolding digits
returns-clause-left_first c = ap (λ value. records value left_first) (λ i rows. is_said rows i) ∙ refl

pub returns-clause-right_first : goal.returns-clause-right_first
unfolding digits
returns-clause-right_first c = ap (λ value. records value right_first) (λ i rows. is_said rows i) ∙ refl
