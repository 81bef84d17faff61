-- What the rows of a statement are written as.
use Rattle.std.specs.Prelude.{ℕ, Bool, true, false, List, [], ◌∷◌, ◌++◌, codes, map}
use Rattle.std.specs.List.{concat}
use Rattle.query_runs.specs.RecordTexts.{record_text}
use Rattle.table_model.specs.AnswerTexts.{header}
use Rattle.table_model.specs.GeometryColumns.{geometry_writing}
use Rattle.table_model.specs.Loading.{Record}
use Rattle.table_model.specs.SpatialTables.{SpatialDatabase, SpatialQuery, SpatialSchema}
use Rattle.table_model.specs.declared.queries.Explain.{Explain}
use Rattle.table_model.specs.declared.queries.Explain.TheVariants as explains

-- the header record: the names of the columns; of the one that EXPLAIN gives, its own
abbrev pub header_by : Explain → Bool → SpatialSchema → SpatialQuery → Record
header_by explains.No true definitions query = codes "COUNT(*)" ∷ []
header_by explains.No false definitions query = header geometry_writing definitions query
header_by explains.Plan counts definitions query = codes "plan" ∷ []
header_by explains.Analyze counts definitions query = codes "plan" ∷ []

-- the header record of a query
abbrev pub header_of : SpatialSchema → SpatialQuery → Record
header_of definitions query = header_by query.explain query.counts definitions query

-- the text of the header: EXPLAIN prints none
abbrev pub header_text : Explain → Record → List ℕ
header_text explains.No names = record_text names
header_text explains.Plan names = []
header_text explains.Analyze names = []

-- the text of a row: its record, or the line that EXPLAIN prints
abbrev pub row_text : Explain → Record → List ℕ
row_text explains.No fields = record_text fields
row_text explains.Plan fields = concat fields ++ codes "\n"
row_text explains.Analyze fields = concat fields ++ codes "\n"

-- the text of the header and of these rows
abbrev pub rows_text : SpatialDatabase → SpatialQuery → List Record → List ℕ
rows_text database query records =
    header_text query.explain (header_of database.definitions query) ++ concat (map (row_text query.explain) records)
