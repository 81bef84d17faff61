-- Short names for the worked example of a run: the text of the answer of a query over its table.
use Rattle.std.specs.Prelude.{ℕ, List, ◌∷◌, []}
use Rattle.geometry_model.specs.Labels.{labelled_matrix}
use Rattle.table_model.specs.BindingExamples.{towns}
use Rattle.table_model.specs.FirstRunExamples.{BoundQuery, town_rows}
use Rattle.query_runs.specs.Runs.{bound_text}

-- the text of the answer of a query over the table of towns
abbrev pub town_text : BoundQuery → List ℕ
town_text = bound_text labelled_matrix (record { definitions = towns; tables = town_rows ∷ [] })
