-- Columns without geometries list absent envelopes alone.
use Rattle.std.specs.Prelude.{◌≡◌, ◌≤◌, ℕ, List, [], ◌∷◌, ◌++◌, All, None, Option, Some, length, map, slice_get, unwrap_or, refl}
use Rattle.std.proofs.Common.{arith, ap, ap₂, ◌∙◌, get_or, zero, suc, sym, subst}
use Rattle.std.proofs.lemmas.List.Elements.{All-head, All-tail, All-weaker}
use Rattle.std.proofs.lemmas.Option.{get_or_from_slice_get, slice_get_past}
use Rattle.feature_table.specs.GeometryFields.{takes}
use Rattle.feature_table.specs.Indexes.{AreIndexes, absent, HoldsNone, column_envelopes, field_envelope, field_in}
use Rattle.geometry_model.specs.Envelopes.{Envelope}
use Rattle.geometry_model.specs.Geometries.{Geometry}
use Rattle.table_model.specs.FeatureTables.{AreRows, IsRow, IsValueFor}
use Rattle.table_model.specs.GeometryColumns.{ColumnShape}
use Rattle.table_model.specs.Meanings.{Row, Table}
use Rattle.table_model.specs.declared.definitions.ColumnDef.{ColumnDef}
use Rattle.table_model.specs.declared.definitions.ColumnType.{ColumnType}
use Rattle.table_model.specs.declared.definitions.ColumnType.TheVariants as column
use Rattle.table_model.specs.declared.definitions.TableDef.{TableDef}
use Rattle.table_model.specs.declared.values.Value.{Value}
use Rattle.table_model.specs.declared.values.Value.TheVariants as values

-- a value for a column that holds none has no envelope
value_has_none : (kind : ColumnType ColumnShape) (v : Value Geometry) → HoldsNone kind → IsValueFor takes kind v → field_envelope v ≡ None
value_has_none kind values.Null h is = refl
value_has_none kind (values.Integer n) h is = refl
value_has_none kind (values.Text bytes) h is = refl
value_has_none column.Integer (values.Geometry g) h is = absurd is
value_has_none column.Text (values.Geometry g) h is = absurd is
value_has_none (column.Geometry shape) (values.Geometry g) h is = absurd h

-- a place at which there is nothing is past the end
not_within : {X : Type 0} (xs : List X) (place : ℕ) → slice_get xs place ≡ None → length xs ≤ place
not_within [] place e = omega arith
not_within (x ∷ xs) zero e = cc e
not_within (x ∷ xs) (suc place) e = let l : length xs ≤ place = not_within xs place e in omega (arith, l)

-- nor has the field of a row in such a column
field_has_none : (table : TableDef ColumnShape) (row : Row Geometry) (place : ℕ) (c : ColumnDef ColumnShape) → IsRow takes table row → slice_get table.columns place ≡ Some c
    → HoldsNone c.column_type → field_envelope (field_in place row) ≡ None
field_has_none table row place c is at h = go (slice_get row place) refl
  where
    go : (o : Option (Value Geometry)) → slice_get row place ≡ o → field_envelope (unwrap_or (slice_get row place) values.Null) ≡ None
    go None e = ap (λ o. field_envelope (unwrap_or o values.Null)) e
    go (Some v) e = ap (λ o. field_envelope (unwrap_or o values.Null)) e ∙ value_has_none c.column_type v h (is.typed place c v at e).0

-- of rows of which each has none there, the column lists absent envelopes alone
none_listed : (place : ℕ) (rows : Table Geometry) → All (λ row. field_envelope (field_in place row) ≡ None) rows → map absent rows ≡ column_envelopes place rows
none_listed place [] h = refl
none_listed place (row ∷ rows) h =
    ap₂ (λ (e : Option Envelope) (es : List (Option Envelope)). e ∷ es) (sym (All-head (λ row. field_envelope (field_in place row) ≡ None) row rows h))
    (none_listed place rows (All-tail (λ row. field_envelope (field_in place row) ≡ None) row rows h))

-- so it is in a column that holds none
column_lists_none : (table : TableDef ColumnShape) (rows : Table Geometry) (place : ℕ) (c : ColumnDef ColumnShape) → AreRows takes table rows → slice_get table.columns place ≡ Some c
    → HoldsNone c.column_type → map absent rows ≡ column_envelopes place rows
column_lists_none table rows place c are at h =
    none_listed place rows (All-weaker (IsRow takes table) (λ row. field_envelope (field_in place row) ≡ None) (λ row is. field_has_none table row place c is at h) rows are.each)

-- and past the columns
past_lists_none : (table : TableDef ColumnShape) (rows : Table Geometry) (place : ℕ) → AreRows takes table rows → length table.columns ≤ place
    → map absent rows ≡ column_envelopes place rows
past_lists_none table rows place are past =
    none_listed place rows
    (All-weaker (IsRow takes table) (λ row. field_envelope (field_in place row) ≡ None)
    (λ row is. ap (λ o. field_envelope (unwrap_or o values.Null)) (slice_get_past row place (omega (arith, is.width, past)))) rows are.each)

-- what is kept of the column at a place: its index lists its envelopes, and where there is none it holds none
pub record IsOwnIndex {I : Type 0} (indexed : I → List (Option Envelope)) (table : TableDef ColumnShape) (rows : Table Geometry) (place : ℕ) (own : Option I) : Type 0 where
  pub listed : (index : I) → own ≡ Some index → indexed index ≡ column_envelopes place rows
  pub bare : own ≡ None → (c : ColumnDef ColumnShape) → slice_get table.columns place ≡ Some c → HoldsNone c.column_type

-- each of some things is as its place wants it
abbrev pub EachKept : {X : Type 0} → (ℕ → X → Type 0) → List X → Type 0
EachKept {X = X} P xs = (i : ℕ) (x : X) → slice_get xs i ≡ Some x → P i x

-- one more is kept, at the end
pub one_more_kept : {X : Type 0} (P : ℕ → X → Type 0) (xs : List X) (y : X) → EachKept P xs → P (length xs) y → EachKept P (xs ++ y ∷ [])
one_more_kept P [] y h p zero x e = let same : y ≡ x = cc e in subst (P 0) same p
one_more_kept P [] y h p (suc i) x e = cc e
one_more_kept P (z ∷ xs) y h p zero x e = h zero x e
one_more_kept P (z ∷ xs) y h p (suc i) x e = one_more_kept (λ j. P (suc j)) xs y (λ j x e. h (suc j) x e) p i x e

-- the indexes of all columns
pub all_kept : {I : Type 0} (indexed : I → List (Option Envelope)) (table : TableDef ColumnShape) (rows : Table Geometry) (own : List (Option I)) (bare : I) → AreRows takes table rows
    → length own ≡ length table.columns → EachKept (IsOwnIndex indexed table rows) own → indexed bare ≡ map absent rows → AreIndexes indexed rows own bare
all_kept {I = I} indexed table rows own bare are same kept lists = record {
  of_own = λ place index e. (kept place (Some index) e).listed index refl;
  of_others = λ place none. lists ∙ go place (slice_get own place) refl none;
}
  where
    at : (place : ℕ) (o : Option (ColumnDef ColumnShape)) → slice_get table.columns place ≡ o → slice_get own place ≡ Some None → map absent rows ≡ column_envelopes place rows
    at place (Some c) e own_is = column_lists_none table rows place c are e ((kept place None own_is).bare refl c e)
    at place None e own_is = past_lists_none table rows place are (not_within table.columns place e)

    go : (place : ℕ) (o : Option (Option I)) → slice_get own place ≡ o → unwrap_or (slice_get own place) None ≡ None → map absent rows ≡ column_envelopes place rows
    go place (Some None) e none = at place (slice_get table.columns place) refl e
    go place (Some (Some index)) e none = let same : Some index ≡ None = ap (λ o. unwrap_or o None) (sym e) ∙ none in cc same
    go place None e none = past_lists_none table rows place are (subst (λ n. n ≤ place) same (not_within own place e))

-- what is made for the column at a place is kept of it
pub kept_at : {I : Type 0} (indexed : I → List (Option Envelope)) (table : TableDef ColumnShape) (rows : Table Geometry) (columns : List (ColumnDef ColumnShape)) (place : ℕ)
    (c : ColumnDef ColumnShape) (own : Option I) → columns ≡ table.columns → c ≡ get_or columns place c
    → ((index : I) → own ≡ Some index → indexed index ≡ column_envelopes place rows) → (own ≡ None → HoldsNone c.column_type) → IsOwnIndex indexed table rows place own
kept_at indexed table rows columns place c own same is lists none = record {
  listed = lists;
  bare = λ e other at. subst (λ (d : ColumnDef ColumnShape). HoldsNone d.column_type)
      (is ∙ get_or_from_slice_get columns place other c (ap (λ cs. slice_get cs place) same ∙ at)) (none e);
}
