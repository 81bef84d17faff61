-- The fields of a table in some columns are the rows of a table.
use Rattle.std.specs.Prelude.{◌≡◌, ◌≢◌, refl, ◌⊎◌, ◌==◌, ◌||◌, ◌<ℤ◌, ℕ, zero, suc, Bool, true, false, if◌then◌else◌, List, [], ◌∷◌, map, length, drop, slice_get, slice_index_or, unwrap_or, Contains, Option, Some, None}
use Rattle.std.proofs.Common.{arith, ap, ◌∙◌, sym, inl, inr, eq-eqb, eqb-true}
use Rattle.std.proofs.lemmas.List.{length-map}
use Rattle.std.proofs.lemmas.List.Elements.{All-map, All-weaker}
use Rattle.std.proofs.lemmas.Option.{slice_get-get_or, slice_get_within, same_Some}
use Rattle.std.proofs.lemmas.Bool.{eqb-false}
use Rattle.basics.proofs.Options.{nothing_there}
use Rattle.geometry_model.specs.Geometries.{Geometry}
use Rattle.table_laws.proofs.Orders.{pairs_map}
use Rattle.table_laws.proofs.PlanLists.{member_cases, no_member}
use Rattle.table_model.specs.FeatureTables.{IsRow, IsValueFor, TakesValid}
use Rattle.table_model.specs.GeometryColumns.{ColumnShape}
use Rattle.table_model.specs.Loading.{key_of, whole_number, is_required}
use Rattle.table_model.specs.Meanings.{Row}
use Rattle.table_model.specs.declared.definitions.ColumnDef.{ColumnDef}
use Rattle.table_model.specs.declared.definitions.TableDef.{TableDef}
use Rattle.table_model.specs.declared.values.Value.{Value}
use Rattle.table_model.specs.declared.values.Value.TheVariants as values
use Rattle.table_laws.specs.ColumnLaws.{fields_in, place_among, IsNarrow, NarrowIsKeyed}

-- what is made of a column that is copied is at its place among those that are
at_its_place : {X : Type 0} (f : ℕ → X) (columns : List ℕ) (column : ℕ) → Contains columns column → slice_get (map f columns) (place_among columns column) ≡ Some (f column)
at_its_place f [] column m = absurd (no_member column m)
at_its_place {X = X} f (k ∷ columns) column m = go (k == column) refl (member_cases k columns column m) (at_its_place f columns column)
  where
    go : (b : Bool) → (k == column) ≡ b → (k ≡ column) ⊎ Contains columns column → (Contains columns column → slice_get (map f columns) (place_among columns column) ≡ Some (f column))
        → slice_get (f k ∷ map f columns) (if b then 0 else suc (place_among columns column)) ≡ Some (f column)
    go true e c rest = ap (λ j. Some (f j)) (eqb-true k column e)
    go false e (inl c) rest = absurd (eqb-false k column e c)
    go false e (inr c) rest = rest c

-- the key of a row is that of its fields
same_key : (columns : List ℕ) (key : ℕ) → Contains columns key → (row : Row Geometry) → key_of (place_among columns key) (fields_in columns row) ≡ key_of key row
same_key columns key m row = ap whole_number (at_its_place (λ k. unwrap_or (slice_get row k) values.Null) columns key m) ∙ go (slice_get row key)
  where
    go : (o : Option (Value Geometry)) → whole_number (Some (unwrap_or o values.Null)) ≡ whole_number o
    go None = refl
    go (Some v) = refl

-- a column of the narrow table is one of the table, and its field that of the row
record IsFrom {X : Type 0} (columns : List ℕ) (of : List (ColumnDef ColumnShape)) (f : ℕ → X) (place : ℕ) (c : ColumnDef ColumnShape) (v : X) : Type 0 where
  pub k : ℕ
  pub at : slice_get columns place ≡ Some k
  pub column : slice_get of k ≡ Some c
  pub field : f k ≡ v

first_one : {X : Type 0} (a b : X) (xs ys : List X) → a ∷ xs ≡ b ∷ ys → a ≡ b
first_one a b xs ys e = ap (λ l. slice_index_or l 0 a) e

comes_from : {X : Type 0} (columns : List ℕ) (of own : List (ColumnDef ColumnShape)) (f : ℕ → X) → map Some own ≡ map (slice_get of) columns → (place : ℕ) (c : ColumnDef ColumnShape) (v : X) → slice_get own place ≡ Some c
    → slice_get (map f columns) place ≡ Some v → IsFrom columns of f place c v
comes_from [] of own f e place c v h g = nothing_there v g
comes_from (k ∷ columns) of [] f e place c v h g = nothing_there c h
comes_from (k ∷ columns) of (d ∷ own) f e zero c v h g =
    record { k = k; at = refl; column = sym (first_one (Some d) (slice_get of k) (map Some own) (map (slice_get of) columns) e) ∙ h; field = same_Some (f k) v g }
comes_from (k ∷ columns) of (d ∷ own) f e (suc place) c v h g =
    let rest = comes_from columns of own f (ap (drop 1) e) place c v h g in record { k = rest.k; at = rest.at; column = rest.column; field = rest.field }

narrow_row : (table narrow : TableDef ColumnShape) (columns : List ℕ) → IsNarrow table narrow columns → (row : Row Geometry) → IsRow TakesValid table row → IsRow TakesValid narrow (fields_in columns row)
narrow_row table narrow columns has row is = record {
  width = length-map columns (λ k. unwrap_or (slice_get row k) values.Null) ∙ sym (length-map columns (slice_get table.columns)) ∙ sym (ap length has.there) ∙ length-map narrow.columns (λ c. Some c);
  typed = λ place c v h g. go place c v (comes_from columns table.columns narrow.columns (λ k. unwrap_or (slice_get row k) values.Null) has.there place c v h g);
}
  where
    required : (place k : ℕ) (b : Bool) → slice_get columns place ≡ Some k → (b || (place == narrow.key)) ≡ true → (b || (k == table.key)) ≡ true
    required place k true at h = refl
    required place k false at h =
        let p : place ≡ place_among columns table.key = eqb-true place narrow.key h ∙ has.key in
        eq-eqb k table.key (same_Some k table.key (sym at ∙ ap (slice_get columns) p ∙ key_there))
      where
        key_there : slice_get columns (place_among columns table.key) ≡ Some table.key
        key_there = sym (ap (λ l. slice_get l (place_among columns table.key)) (itself columns)) ∙ at_its_place (λ k. k) columns table.key has.key_copied
          where
            itself : (ks : List ℕ) → map (λ k. k) ks ≡ ks
            itself [] = refl
            itself (j ∷ ks) = ap (λ l. j ∷ l) (itself ks)

    go : (place : ℕ) (c : ColumnDef ColumnShape) (v : Value Geometry) → IsFrom columns table.columns (λ k. unwrap_or (slice_get row k) values.Null) place c v
        → IsValueFor TakesValid c.column_type v × (is_required narrow (place, c) ≡ true → v ≢ values.Null)
    go place c v from =
        let l = slice_get_within table.columns from.k c from.column in
        let there : slice_get row from.k ≡ Some (slice_index_or row from.k values.Null) = slice_get-get_or row from.k values.Null (omega (arith, l, is.width)) in
        let own : slice_get row from.k ≡ Some v = there ∙ ap (λ u. Some u) (sym (ap (λ o. unwrap_or o values.Null) there) ∙ from.field) in
        let t = is.typed from.k c v from.column own in
        (t.0, λ r. t.1 (required place from.k c.not_null from.at r))

pub narrow_is_keyed : NarrowIsKeyed
narrow_is_keyed table narrow columns has rows is = record {
  each = All-map (IsRow TakesValid narrow) (fields_in columns) rows (All-weaker (IsRow TakesValid table) (λ row. IsRow TakesValid narrow (fields_in columns row)) (narrow_row table narrow columns has) rows is.each);
  ascend = pairs_map (λ a b. key_of table.key a <ℤ key_of table.key b) (λ a b. key_of narrow.key a <ℤ key_of narrow.key b) (fields_in columns) rows
      (λ a b h. rw (has.key, same_key columns table.key has.key_copied a, same_key columns table.key has.key_copied b) h) is.ascend;
}
