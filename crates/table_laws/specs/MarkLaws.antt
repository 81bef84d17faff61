-- What conditions see of marks: those of a query nothing, the owner conjunct whether the cell keeps the pair.
use Rattle.std.specs.Prelude.{◌≡◌, true, List, [], ◌∷◌, ◌++◌, length, Option}
use Rattle.std.specs.List.{AllZip}
use Rattle.geometry_model.specs.Geometries.{Geometry}
use Rattle.geometry_model.specs.Dimensions.{Matrix}
use Rattle.geometry_model.specs.Envelopes.{Envelope}
use Rattle.table_model.specs.AnswerTexts.{record_of}
use Rattle.table_model.specs.Arguments.{denoted}
use Rattle.table_model.specs.Binding.{columns_of}
use Rattle.table_model.specs.BoundQueries.{IsBound, cond_fits, geometry_fits}
use Rattle.table_model.specs.GeometryColumns.{ColumnShape, geometry_writing}
use Rattle.table_model.specs.Meanings.{Row}
use Rattle.table_model.specs.TruthLaws.{Argument}
use Rattle.table_model.specs.Truths.{Rows, truth, truth_of}
use Rattle.table_model.specs.declared.conditions.Bound.{Bound}
use Rattle.table_model.specs.declared.conditions.ColumnPlace.{ColumnPlace}
use Rattle.table_model.specs.declared.conditions.Cond.{Cond}
use Rattle.table_model.specs.declared.conditions.Reference.{Reference}
use Rattle.table_model.specs.declared.definitions.TableDef.{TableDef}
use Rattle.table_laws.specs.Cells.{Cell}
use Rattle.table_laws.specs.PairLaws.{is_kept}
use Rattle.table_laws.specs.Tiles.{marks, owner_conjunct}

-- rows, one for each reference, with more fields behind those of each
abbrev pub widened : Rows Geometry → Rows Geometry → Rows Geometry
widened [] more = []
widened (row ∷ rows) [] = row ∷ rows
widened (row ∷ rows) (fields ∷ more) = (row ++ fields) ∷ widened rows more

-- a row has a field for each column of its reference (06-104r4, feature tables)
abbrev pub IsWide : List (TableDef ColumnShape) → Reference → Row Geometry → Type 0
IsWide definitions reference row = length row ≡ length (columns_of definitions reference)

-- a condition that fits the columns of some references sees no field behind these
abbrev pub FieldsBehindAreUnseen : Type 0
FieldsBehindAreUnseen = (matrix : Geometry → Geometry → Matrix) (definitions : List (TableDef ColumnShape)) (references : List Reference) (rows more : Rows Geometry)
    → AllZip (IsWide definitions) references rows → (c : Cond Argument) → cond_fits geometry_fits definitions references c ≡ true
    → truth matrix denoted (widened rows more) c ≡ truth matrix denoted rows c

-- the owner conjunct is true where the cell keeps the pair, else false, and never unknown (SQL's three-valued logic)
abbrev pub OwnerConjunctKeeps : Type 0
OwnerConjunctKeeps = (matrix : Geometry → Geometry → Matrix) (cell : Cell) (first second : Row Geometry) (e f : Option Envelope)
    → truth matrix denoted ((first ++ marks cell e) ∷ (second ++ marks cell f) ∷ []) (owner_conjunct (length first) (length second)) ≡ truth_of (is_kept cell e f)

-- nor does an item of the select list, so a record of the answer is the same (SQL, the select list)
abbrev pub FieldsBehindAreUnwritten : Type 0
FieldsBehindAreUnwritten = (definitions : List (TableDef ColumnShape)) (query : Bound Argument ColumnPlace) (rows more : Rows Geometry)
    → AllZip (IsWide definitions) query.references rows → IsBound geometry_fits definitions query
    → record_of geometry_writing query (widened rows more) ≡ record_of geometry_writing query rows
