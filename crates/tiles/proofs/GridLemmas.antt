-- The geometries of a table that loads are on the grid: a text has only positions of it.
use Rattle.std.proofs.Common.{◌≡◌, ◌≤◌, ◌<◌, ◌∙◌, ap, arith, sym, subst, refl, inl, inr, ◌⊎◌, Bool, true, false, ℕ, zero, suc}
use Rattle.std.proofs.Common.{ℤ, pos, neg_ℤ, List, [], ◌∷◌, ◌++◌, append-nil, if◌then◌else◌, length, map, get_or, Option, None}
use Rattle.std.proofs.Common.{Some, Result, Ok, Err, unsigned_abs}
use Rattle.std.specs.Prelude.{flat_map, slice_get}
use Rattle.std.specs.Str.Parse.{digits_value}
use Rattle.std.specs.List.{All}
use Rattle.std.proofs.lemmas.List.Elements.{All-nil, All-cons, All-append, All-head, All-tail, All-weaker}
use Rattle.std.proofs.lemmas.List.Concat.{flat_map-append}
use Rattle.std.proofs.lemmas.List.Filters.{All-dedup}
use Rattle.std.proofs.lemmas.Option.{slice_get-get_or, slice_get_cases}
use Rattle.geometry_model.specs.CheckedTexts.{geometry_in_text, tested, valid_or}
use Rattle.geometry_model.specs.FirstFaults.{validity_fault}
use Rattle.geometry_model.specs.Geometries.{Geometry, Point, MultiPoint, LineString, MultiLineString, Polygon, MultiPolygon}
use Rattle.geometry_model.specs.Geometries.{joined_rings, positions, type_of}
use Rattle.geometry_model.specs.Points.{Position}
use Rattle.geometry_model.specs.TextReading.{read_text}
use Rattle.geometry_model.specs.WellKnownText.{Body, LineText, Number, PointText, PolygonText, PositionText, Rule, Separated}
use Rattle.geometry_model.specs.WellKnownText.{Spells, TaggedText, coordinate_limit, geometry_of, same_position, signed}
use Rattle.geometry_model.specs.WellKnownText.{without_repeats}
use Rattle.geometry_model.specs.declared.geometry_faults.GeometryFault.{GeometryFault}
use Rattle.geometry_model.specs.declared.text_faults.TextFault.{TextFault}
use Rattle.geometry_model.specs.declared.validity_faults.ValidityFault.{ValidityFault}
use Rattle.table_laws.proofs.TableFacts.{ReadsTaken, loads_rows}
use Rattle.fraction.specs.Ranges.{IsOnGrid}
use Rattle.table_laws.specs.PairLaws.{LiesOnGrid}
use Rattle.table_laws.specs.TileLaws.{FieldOnGrid}
use Rattle.table_model.specs.FeatureTables.{IsRow, IsValueFor, Takes}
use Rattle.table_model.specs.GeometryColumns.{ColumnShape, of_shape, read_geometry, takes_type}
use Rattle.table_model.specs.Meanings.{Row}
use Rattle.table_model.specs.declared.definitions.ColumnDef.{ColumnDef}
use Rattle.table_model.specs.declared.definitions.ColumnType.{ColumnType}
use Rattle.table_model.specs.declared.definitions.ColumnType.TheVariants as column
use Rattle.table_model.specs.declared.definitions.TableDef.{TableDef}
use Rattle.table_model.specs.declared.faults.LoadFault.{LoadFault}
use Rattle.table_model.specs.declared.faults.LoadFault.TheVariants as fault
use Rattle.table_model.specs.declared.values.Value.{Value}
use Rattle.table_model.specs.declared.values.Value.TheVariants as values
use Rattle.text_laws.proofs.TextSound.{read_is_spelled}
use Rattle.tiles.specs.LoadedRows.{LoadedAreOnGrid}

-- ---- texts

-- a number of a text is within the limit
number_within : (z : ℤ) (text : List ℕ) → Number z text → unsigned_abs z ≤ coordinate_limit
number_within z text t = subst (λ (n : ℤ). unsigned_abs n ≤ coordinate_limit) (sym t.6) (by t.0 t.1 t.5)
  where
    by : (minus : Bool) (whole : List ℕ) → digits_value 10 whole ≤ coordinate_limit
        → unsigned_abs (signed minus whole) ≤ coordinate_limit
    by false whole within = within
    by true whole within = negated (digits_value 10 whole) within
      where
        negated : (n : ℕ) → n ≤ coordinate_limit → unsigned_abs (neg_ℤ (pos n)) ≤ coordinate_limit
        negated zero h = h
        negated (suc n) h = h

-- a position of a text is on the grid
position_within : (p : Position) (text : List ℕ) → PositionText p text → IsOnGrid p
position_within p text t = record { x = number_within p.x t.0 t.3; y = number_within p.y t.4.1 t.4.4 }

-- and in parentheses
point_within : (p : Position) (text : List ℕ) → PointText p text → IsOnGrid p
point_within p text (inl t) = position_within p text t
point_within p text (inr t) = position_within p t.4.3.4.0 t.4.3.4.3

-- what each of a list has in its text, all have
each_has : {A : Type 0} (P : A → Rule) (Q : A → Type 0) → ((x : A) (text : List ℕ) → P x text → Q x)
    → (xs : List A) (text : List ℕ) → Separated P xs text → All Q xs
each_has P Q each [] text t = absurd t
each_has P Q each (x ∷ []) text t = All-cons Q x [] (each x t.4.0 t.4.3) (All-nil Q)
each_has P Q each (x ∷ y ∷ more) text t = All-cons Q x (y ∷ more) (each x t.3.4.0 t.3.4.3)
    (each_has P Q each (y ∷ more) t.4.1 t.4.4)

-- and behind the name of a type
body_has : {A : Type 0} (P : A → Rule) (Q : A → Type 0) → ((x : A) (text : List ℕ) → P x text → Q x)
    → (xs : List A) (text : List ℕ) → Body P xs text → All Q xs
body_has P Q each [] text t = All-nil Q
body_has P Q each (x ∷ more) text t = each_has P Q each (x ∷ more) t.4.4.0 t.4.4.3

-- all positions of a line are on the grid, and all of several lines
abbrev LineOnGrid : List Position → Type 0
LineOnGrid ps = All IsOnGrid ps

line_within : (ps : List Position) (text : List ℕ) → LineText ps text → LineOnGrid ps
line_within ps text t = each_has PositionText IsOnGrid position_within ps t.4.0 t.4.3

polygon_within : (rings : List (List Position)) (text : List ℕ) → PolygonText rings text → All LineOnGrid rings
polygon_within rings text t = each_has LineText LineOnGrid line_within rings t.4.0 t.4.3

-- so are they without repeats
plain : (ps : List Position) → LineOnGrid ps → LineOnGrid (without_repeats ps)
plain ps on = All-dedup same_position IsOnGrid ps on

all_plain : (ls : List (List Position)) → All LineOnGrid ls → All IsOnGrid (flat_map (λ line. line) (map without_repeats ls))
all_plain [] on = All-nil IsOnGrid
all_plain (l ∷ ls) on =
    All-append IsOnGrid (without_repeats l) (flat_map (λ line. line) (map without_repeats ls))
    (plain l (All-head LineOnGrid l ls on)) (all_plain ls (All-tail LineOnGrid l ls on))

rings_plain : (es : List (List (List Position))) → All (All LineOnGrid) es
    → All IsOnGrid (flat_map (λ line. line) (joined_rings (map (map without_repeats) es)))
rings_plain [] on = All-nil IsOnGrid
rings_plain (e ∷ es) on =
    subst (All IsOnGrid) (sym (flat_map-append (λ line. line) (map without_repeats e)
    (joined_rings (map (map without_repeats) es))))
    (All-append IsOnGrid (flat_map (λ line. line) (map without_repeats e))
    (flat_map (λ line. line) (joined_rings (map (map without_repeats) es)))
    (all_plain e (All-head (All LineOnGrid) e es on)) (rings_plain es (All-tail (All LineOnGrid) e es on)))

one_line : (ps : List Position) → LineOnGrid ps → All IsOnGrid (flat_map (λ line. line) (ps ∷ []))
one_line ps on = subst (All IsOnGrid) (sym (append-nil ps)) on

-- what a text says of a geometry is on the grid
written_within : (w : Geometry) (text : List ℕ) → TaggedText w text → LiesOnGrid (geometry_of w)
written_within (Point None) text t = All-nil IsOnGrid
written_within (Point (Some p)) text t = All-cons IsOnGrid p []
    (All-head IsOnGrid p [] (body_has PositionText IsOnGrid position_within (p ∷ []) t.1 t.4)) (All-nil IsOnGrid)
written_within (MultiPoint ps) text t = subst (All IsOnGrid) (sym (append-nil ps))
    (body_has PointText IsOnGrid point_within ps t.1 t.4)
written_within (LineString ps) text t = one_line (without_repeats ps)
    (plain ps (body_has PositionText IsOnGrid position_within ps t.1 t.4))
written_within (MultiLineString ls) text t = all_plain ls (body_has LineText LineOnGrid line_within ls t.1 t.4)
written_within (Polygon rs) text t = all_plain rs (body_has LineText LineOnGrid line_within rs t.1 t.4)
written_within (MultiPolygon es) text t = rings_plain es (body_has PolygonText (All LineOnGrid) polygon_within es t.1 t.4)

-- a geometry that is read is on the grid
read_within : (text : List ℕ) (g : Geometry) → read_text text ≡ Ok g → LiesOnGrid g
read_within text g is =
    let s = read_is_spelled text g is in
    subst LiesOnGrid (sym s.meant) (written_within s.written s.spelled.4.0 s.spelled.4.3)

-- ---- tables

-- the geometries on the grid, whatever the type of their column
abbrev TakesOnGrid : Takes ColumnShape Geometry
TakesOnGrid shape g = LiesOnGrid g

tested_within : (r : Result Geometry TextFault) (g : Geometry) → ((h : Geometry) → r ≡ Ok h → LiesOnGrid h) → tested r ≡ Ok g
    → LiesOnGrid g
tested_within (Err f) g within e = cc e
tested_within (Ok h) g within e = go (validity_fault h) e
  where
    go : (o : Option ValidityFault) → valid_or h o ≡ Ok g → LiesOnGrid g
    go (Some f) e = cc e
    go None e = let same : h ≡ g = cc e in subst LiesOnGrid same (within h refl)

text_within : (bytes : List ℕ) (g : Geometry) → geometry_in_text bytes ≡ Ok g → LiesOnGrid g
unfolding geometry_in_text
text_within bytes g e = tested_within (read_text bytes) g (read_within bytes) e

shaped_within : (number : ℕ) (shape : ColumnShape) (r : Result Geometry GeometryFault) (g : Geometry)
    → ((h : Geometry) → r ≡ Ok h → LiesOnGrid h)
    → of_shape number shape r ≡ Ok g → LiesOnGrid g
shaped_within number shape (Err f) g within e = cc e
shaped_within number shape (Ok h) g within e = go (takes_type shape (type_of h)) e
  where
    go : (b : Bool) → ◌≡◌ {A = Result Geometry LoadFault} (if b then Ok h else Err (fault.WrongType number)) (Ok g) → LiesOnGrid g
    go false e = cc e
    go true e = let same : h ≡ g = cc e in subst LiesOnGrid same (within h refl)

field_within : ReadsTaken TakesOnGrid read_geometry
field_within number shape bytes g e = shaped_within number shape (geometry_in_text bytes) g (text_within bytes) e

-- a field of a row
value_within : (kind : ColumnType ColumnShape) (v : Value Geometry) → IsValueFor TakesOnGrid kind v → FieldOnGrid v
value_within kind values.Null h = tt
value_within kind (values.Integer n) h = tt
value_within kind (values.Text bytes) h = tt
value_within column.Integer (values.Geometry g) h = absurd h
value_within column.Text (values.Geometry g) h = absurd h
value_within (column.Geometry shape) (values.Geometry g) h = h

row_within : (table : TableDef ColumnShape) (row : Row Geometry) → IsRow TakesOnGrid table row → All FieldOnGrid row
row_within table row is = λ k d l. by k d l (slice_get_cases table.columns k).1
  where
    by : (k : ℕ) (d : Value Geometry) → k < length row
        → ((c : ColumnDef ColumnShape) × (k < length table.columns) × (slice_get table.columns k ≡ Some c) ×
        (get_or table.columns k c ≡ c)) ⊎ ((length table.columns ≤ k) × (slice_get table.columns k ≡ None))
        → FieldOnGrid (get_or row k d)
    by k d l (inl found) = value_within found.0.column_type (get_or row k d)
        (is.typed k found.0 (get_or row k d) found.2 (slice_get-get_or row k d l)).0
    by k d l (inr past) = absurd (omega (arith, l, past.0, is.width))

-- the geometries of a table that loads
pub loaded_are_on_grid : LoadedAreOnGrid
loaded_are_on_grid table records rows e =
    let are = loads_rows TakesOnGrid read_geometry field_within table records rows e in
    All-weaker (IsRow TakesOnGrid table) (λ row. All FieldOnGrid row) (row_within table) rows are.each
