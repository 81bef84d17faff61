-- The records of an answer: the header, and the fields of each row of the meaning.
use Rattle.std.specs.Prelude.{Bool, if◌then◌else◌, ℕ, zero, suc, decimal, ℤ, List, [], ◌∷◌, ◌++◌, map, length, ◌==◌, cond, codes, Option, Some, None, slice_get}
use Rattle.std.specs.Fmt.{signed_decimal}
use Rattle.table_model.specs.Meanings.{Row}
use Rattle.table_model.specs.Binding.{table_columns}
use Rattle.table_model.specs.Truths.{field_at}
use Rattle.table_model.specs.declared.values.Value.{Value}
use Rattle.table_model.specs.declared.values.Value.TheVariants as v
use Rattle.table_model.specs.declared.conditions.Bound.{Bound}
use Rattle.table_model.specs.declared.conditions.Reference.{Reference}
use Rattle.table_model.specs.declared.conditions.ColumnPlace.{ColumnPlace}
use Rattle.table_model.specs.declared.conditions.Item.{Item}
use Rattle.table_model.specs.declared.conditions.Item.TheVariants as i
use Rattle.table_model.specs.declared.definitions.ColumnDef.{ColumnDef}
use Rattle.table_model.specs.declared.definitions.TableDef.{TableDef}

-- how a geometry is written: its canonical text, its dimension and whether it is empty, and the column that
-- the argument of a function names (06-103r4, clauses 6.1.2 and 7)
pub record Writing (G C : Type 0) : Type 0 where
  pub place : C → ColumnPlace
  pub text : G → List ℕ
  pub dimension : G → ℤ
  pub is_empty : G → Bool

-- the name of a column as the schema spells it
abbrev pub name_of : {T : Type 0} → Option (ColumnDef T) → List ℕ
name_of (Some c) = c.name
name_of None = []

-- the name of a column of a table
abbrev pub column_name : {T : Type 0} → List (TableDef T) → ℕ → ℕ → List ℕ
column_name tables table column = name_of (slice_get (table_columns (slice_get tables table)) column)

-- the header of a column of a reference: its name, after the reference's name and a point if there are two references
abbrev pub reference_header : {T : Type 0} → List (TableDef T) → Bool → Option Reference → ℕ → List ℕ
reference_header tables alone (Some r) column = cond alone [] (r.name ++ codes ".") ++ column_name tables r.table column
reference_header tables alone None column = []

-- the header of a column
abbrev pub column_header : {T : Type 0} → List (TableDef T) → List Reference → ColumnPlace → List ℕ
column_header tables references place =
    reference_header tables (length references == 1) (slice_get references place.reference) place.column

-- the header of an item: a function's is its name, and its column's header in parentheses
abbrev pub item_header : {T G C : Type 0} → Writing G C → List (TableDef T) → List Reference → Item C → List ℕ
item_header writing tables references (i.Column place) = column_header tables references place
item_header writing tables references (i.AsText c) = codes "ST_AsText(" ++ column_header tables references (writing.place c) ++ codes ")"
item_header writing tables references (i.Dimension c) = codes "ST_Dimension(" ++ column_header tables references (writing.place c) ++ codes ")"
item_header writing tables references (i.IsEmpty c) = codes "ST_IsEmpty(" ++ column_header tables references (writing.place c) ++ codes ")"

-- the text of a field: nothing for NULL, the shortest decimal of an integer, the bytes of a text, the canonical text of
-- a geometry
abbrev pub field_text : {G C : Type 0} → Writing G C → Value G → List ℕ
field_text writing v.Null = []
field_text writing (v.Integer n) = signed_decimal n
field_text writing (v.Text bytes) = bytes
field_text writing (v.Geometry g) = writing.text g

-- the text of a function of a geometry, and nothing for NULL
abbrev pub function_text : {G : Type 0} → (G → List ℕ) → Value G → List ℕ
function_text text v.Null = []
function_text text (v.Integer n) = []
function_text text (v.Text bytes) = []
function_text text (v.Geometry g) = text g

-- the text of an item at some rows
abbrev pub item_text : {G C : Type 0} → Writing G C → List (Row G) → Item C → List ℕ
item_text writing rows (i.Column place) = field_text writing (field_at rows place)
item_text writing rows (i.AsText c) = function_text writing.text (field_at rows (writing.place c))
item_text writing rows (i.Dimension c) = function_text (λ g. signed_decimal (writing.dimension g)) (field_at rows (writing.place c))
item_text writing rows (i.IsEmpty c) = function_text (λ g. cond (writing.is_empty g) (codes "1") (codes "0")) (field_at rows (writing.place c))

-- the header record of a query
abbrev pub header : {T G A C : Type 0} → Writing G C → List (TableDef T) → Bound A C → List (List ℕ)
header writing tables query = map (item_header writing tables query.references) query.items

-- the record of a choice of rows: the text of each item
abbrev pub record_of : {G A C : Type 0} → Writing G C → Bound A C → List (Row G) → List (List ℕ)
record_of writing query rows = map (item_text writing rows) query.items

-- the records of an answer without COUNT(*): the header, then one for each choice of rows in the meaning
abbrev pub answer_records : {T G A C : Type 0} → Writing G C → List (TableDef T) → Bound A C → List (List (Row G)) → List (List (List ℕ))
answer_records writing tables query rows = header writing tables query ∷ map (record_of writing query) rows

-- the record with this number of rows; under LIMIT 0 there is none (SQL, COUNT and LIMIT)
abbrev pub count_records : Option ℕ → ℕ → List (List (List ℕ))
count_records None n = (decimal n ∷ []) ∷ []
count_records (Some zero) n = []
count_records (Some (suc limit)) n = (decimal n ∷ []) ∷ []

-- the records of an answer; under COUNT(*) its header, then how many choices of rows the meaning has (SQL, COUNT)
abbrev pub answer : {T G A C : Type 0} → Writing G C → List (TableDef T) → Bound A C → List (List (Row G)) → List (List (List ℕ))
answer writing tables query rows =
    if query.counts then (codes "COUNT(*)" ∷ []) ∷ count_records query.limit (length rows) else answer_records writing tables query rows
