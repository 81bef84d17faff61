-- What is left of a query's columns has all that the query sees.
use Rattle.std.specs.Prelude.{◌≡◌, refl, ◌==◌, ◌⊎◌, if◌then◌else◌, ℕ, zero, suc, Bool, true, false, cond, ◌&&◌, codes, List, [], ◌∷◌, ◌++◌, map, length, filter, flat_map, slice_get, slice_index_or, unwrap_or, All, Contains, Option, Some, None}
use Rattle.std.specs.Fmt.{signed_decimal}
use Rattle.std.specs.List.{range_with_len}
use Rattle.std.proofs.Common.{arith, ap, ap₂, ◌∙◌, sym, inl, inr, eqb-true}
use Rattle.std.proofs.lemmas.List.{map-append, take-map, length-map}
use Rattle.std.proofs.lemmas.List.Elements.{All-nil, All-cons, All-head, All-tail}
use Rattle.std.proofs.lemmas.List.Folds.{flat_map-map}
use Rattle.std.proofs.lemmas.List.FromFn.{fill_by_all}
use Rattle.std.proofs.lemmas.Bool.{eqb-false}
use mathlib.Core.List.{map-map}
use mathlib.Core.Path.{fun_ext}
use Rattle.geometry_model.specs.Dimensions.{Matrix}
use Rattle.geometry_model.specs.Geometries.{Geometry}
use Rattle.grammar_laws.proofs.Filtering.{conjuncts_are_filtered}
use Rattle.table_laws.proofs.PlanLists.{member_cases, no_member}
use Rattle.table_model.specs.AnswerTexts.{field_text, function_text, item_text}
use Rattle.table_model.specs.Arguments.{geometry_in, denoted}
use Rattle.table_model.specs.GeometryColumns.{geometry_writing}
use Rattle.table_model.specs.Meanings.{Table, is_true, all_true, product, referenced, filtered, up_to}
use Rattle.table_model.specs.Statements.{by_conjuncts}
use Rattle.table_model.specs.TruthLaws.{Argument}
use Rattle.table_model.specs.Truths.{Rows, field_at, operand_value, order_of, compared, is_null, emptiness, related, truth, truth_of, truth_by_parts, any_of, all_of, not_of, text_value, dimension_value}
use Rattle.table_model.specs.declared.conditions.ColumnPlace.{ColumnPlace}
use Rattle.table_model.specs.declared.conditions.Cond.{Cond}
use Rattle.table_model.specs.declared.conditions.Cond.TheOpen.{Cond-F}
use Rattle.table_model.specs.declared.conditions.GeometryArgument.TheVariants as arguments
use Rattle.table_model.specs.declared.conditions.Item.{Item}
use Rattle.table_model.specs.declared.conditions.Item.TheVariants as items
use Rattle.table_model.specs.declared.conditions.Operand.{Operand}
use Rattle.table_model.specs.declared.conditions.Operand.TheVariants as operands
use Rattle.table_model.specs.declared.conditions.Reference.{Reference}
use Rattle.table_model.specs.declared.values.Truth.{Truth}
use Rattle.table_model.specs.declared.values.Value.TheVariants as values
use Rattle.table_model.proofs.CondFolds.{fold-Relates, fold-Compare, fold-IsNull, fold-IsEmpty, fold-Not, fold-And, fold-Or}
use Rattle.table_model.proofs.CondInduction.{Each, by_parts}
use Rattle.table_model.proofs.PlaceFacts.{filter_map_is}
use Rattle.table_laws.specs.ColumnLaws.{fields_in, narrowed, narrow_tables, place_among, HasColumn, moved, moved_argument, moved_operand, moved_by_parts, moved_condition, moved_item, argument_columns, operand_columns, columns_by_parts, condition_columns, item_column, IsNarrowed, CopiedColumnsAreSeen, ColumnsCanBeLeftOut, NarrowRecordsAreSame}
use Rattle.table_laws.specs.TileLaws.{GeometryStatement}

-- ---- fields

-- a column that is copied is at its place among those that are
at_its_place : {X : Type 0} (f : ℕ → X) (d : X) (columns : List ℕ) (column : ℕ) → Contains columns column → unwrap_or (slice_get (map f columns) (place_among columns column)) d ≡ f column
at_its_place f d [] column m = absurd (no_member column m)
at_its_place {X = X} f d (k ∷ columns) column m = go (k == column) refl (member_cases k columns column m) (at_its_place f d columns column)
  where
    go : (b : Bool) → (k == column) ≡ b → (k ≡ column) ⊎ Contains columns column → (Contains columns column → unwrap_or (slice_get (map f columns) (place_among columns column)) d ≡ f column)
        → unwrap_or (slice_get (f k ∷ map f columns) (if b then 0 else suc (place_among columns column))) d ≡ f column
    go true e c rest = ap f (eqb-true k column e)
    go false e (inl c) rest = absurd (eqb-false k column e c)
    go false e (inr c) rest = rest c

same_field : (copied : List (List ℕ)) (rows : Rows Geometry) (n k : ℕ) → Contains (slice_index_or copied n []) k
    → unwrap_or (slice_get (unwrap_or (slice_get (narrowed copied rows) n) []) (place_among (slice_index_or copied n []) k)) values.Null ≡ unwrap_or (slice_get (unwrap_or (slice_get rows n) []) k) values.Null
same_field [] rows n k m = absurd (no_member k m)
same_field (columns ∷ copied) [] n k m = refl
same_field (columns ∷ copied) (row ∷ rows) zero k m = at_its_place (λ j. unwrap_or (slice_get row j) values.Null) values.Null columns k m
same_field (columns ∷ copied) (row ∷ rows) (suc n) k m = same_field copied rows n k m

module _ (copied : List (List ℕ)) (rows : Rows Geometry) where
  pub same_at : (place : ColumnPlace) → HasColumn copied place → field_at (narrowed copied rows) (moved copied place) ≡ field_at rows place
  same_at place m = same_field copied rows place.reference place.column m

  same_argument : (a : Argument) → All (HasColumn copied) (argument_columns a) → denoted (narrowed copied rows) (moved_argument copied a) ≡ denoted rows a
  same_argument (arguments.Column place) h = ap geometry_in (same_at place (All-head (HasColumn copied) place [] h))
  same_argument (arguments.Literal g) h = refl

  same_operand : (a : Operand Argument) → All (HasColumn copied) (operand_columns a) → operand_value denoted (narrowed copied rows) (moved_operand copied a) ≡ operand_value denoted rows a
  same_operand (operands.Column place) h = same_at place (All-head (HasColumn copied) place [] h)
  same_operand (operands.Integer n) h = refl
  same_operand (operands.Text bytes) h = refl
  same_operand operands.Null h = refl
  same_operand (operands.AsText a) h = ap text_value (same_argument a h)
  same_operand (operands.Dimension a) h = ap dimension_value (same_argument a h)

-- ---- conditions

left_of : {X : Type 0} (P : X → Type 0) (xs ys : List X) → All P (xs ++ ys) → All P xs
left_of P [] ys h = All-nil P
left_of P (x ∷ xs) ys h = All-cons P x xs (All-head P x (xs ++ ys) h) (left_of P xs ys (All-tail P x (xs ++ ys) h))

right_of : {X : Type 0} (P : X → Type 0) (xs ys : List X) → All P (xs ++ ys) → All P ys
right_of P [] ys h = h
right_of P (x ∷ xs) ys h = right_of P xs ys (All-tail P x (xs ++ ys) h)

abbrev IsSeen : (Geometry → Geometry → Matrix) → List (List ℕ) → Rows Geometry → Cond Argument → Type 0
IsSeen matrix copied rows c = All (HasColumn copied) (condition_columns c) → truth matrix denoted (narrowed copied rows) (moved_condition copied c) ≡ truth matrix denoted rows c

parts_seen : (matrix : Geometry → Geometry → Matrix) (copied : List (List ℕ)) (rows : Rows Geometry) (parts : List (Cond Argument)) → Each (IsSeen matrix copied rows) parts
    → All (HasColumn copied) (flat_map (λ part. part) (map condition_columns parts)) → map (truth matrix denoted (narrowed copied rows)) (map (moved_condition copied) parts) ≡ map (truth matrix denoted rows) parts
parts_seen matrix copied rows [] each h = refl
parts_seen matrix copied rows (c ∷ parts) each h =
    ap₂ (λ t ts. t ∷ ts) (each.0 (left_of (HasColumn copied) (condition_columns c) (flat_map (λ part. part) (map condition_columns parts)) h))
    (parts_seen matrix copied rows parts each.1 (right_of (HasColumn copied) (condition_columns c) (flat_map (λ part. part) (map condition_columns parts)) h))

pub copied_columns_are_seen : CopiedColumnsAreSeen
copied_columns_are_seen matrix copied rows = by_parts (IsSeen matrix copied rows) (record {
  or = λ parts each h. ap new (fold-Or Argument (Cond Argument) move parts)
      ∙ fold-Or Argument Truth (value (narrowed copied rows)) (map (moved_condition copied) parts)
      ∙ ap any_of (parts_seen matrix copied rows parts each (rw (fold-Or Argument (List ColumnPlace) columns_by_parts parts) at h))
      ∙ sym (fold-Or Argument Truth (value rows) parts);
  and = λ parts each h. ap new (fold-And Argument (Cond Argument) move parts)
      ∙ fold-And Argument Truth (value (narrowed copied rows)) (map (moved_condition copied) parts)
      ∙ ap all_of (parts_seen matrix copied rows parts each (rw (fold-And Argument (List ColumnPlace) columns_by_parts parts) at h))
      ∙ sym (fold-And Argument Truth (value rows) parts);
  not = λ part own h. ap new (fold-Not Argument (Cond Argument) move part)
      ∙ fold-Not Argument Truth (value (narrowed copied rows)) (moved_condition copied part)
      ∙ ap not_of (own (rw (fold-Not Argument (List ColumnPlace) columns_by_parts part) at h))
      ∙ sym (fold-Not Argument Truth (value rows) part);
  compare = λ sign a b h. let t : All (HasColumn copied) (operand_columns a ++ operand_columns b) = rw (fold-Compare Argument (List ColumnPlace) columns_by_parts sign a b) at h in
      ap new (fold-Compare Argument (Cond Argument) move sign a b)
      ∙ fold-Compare Argument Truth (value (narrowed copied rows)) sign (moved_operand copied a) (moved_operand copied b)
      ∙ ap₂ (λ x y. compared sign (order_of x y))
      (same_operand copied rows a (left_of (HasColumn copied) (operand_columns a) (operand_columns b) t)) (same_operand copied rows b (right_of (HasColumn copied) (operand_columns a) (operand_columns b) t))
      ∙ sym (fold-Compare Argument Truth (value rows) sign a b);
  is_null = λ a h. ap new (fold-IsNull Argument (Cond Argument) move a)
      ∙ fold-IsNull Argument Truth (value (narrowed copied rows)) (moved_operand copied a)
      ∙ ap (λ x. truth_of (is_null x)) (same_operand copied rows a (rw (fold-IsNull Argument (List ColumnPlace) columns_by_parts a) at h))
      ∙ sym (fold-IsNull Argument Truth (value rows) a);
  is_empty = λ a h. ap new (fold-IsEmpty Argument (Cond Argument) move a)
      ∙ fold-IsEmpty Argument Truth (value (narrowed copied rows)) (moved_argument copied a)
      ∙ ap emptiness (same_argument copied rows a (rw (fold-IsEmpty Argument (List ColumnPlace) columns_by_parts a) at h))
      ∙ sym (fold-IsEmpty Argument Truth (value rows) a);
  relates = λ predicate a b h. let t : All (HasColumn copied) (argument_columns a ++ argument_columns b) = rw (fold-Relates Argument (List ColumnPlace) columns_by_parts predicate a b) at h in
      ap new (fold-Relates Argument (Cond Argument) move predicate a b)
      ∙ fold-Relates Argument Truth (value (narrowed copied rows)) predicate (moved_argument copied a) (moved_argument copied b)
      ∙ ap₂ (related matrix predicate)
      (same_argument copied rows a (left_of (HasColumn copied) (argument_columns a) (argument_columns b) t)) (same_argument copied rows b (right_of (HasColumn copied) (argument_columns a) (argument_columns b) t))
      ∙ sym (fold-Relates Argument Truth (value rows) predicate a b);
})
  where
    value : (rs : Rows Geometry) → Cond-F Argument Truth → Truth
    value rs = truth_by_parts matrix denoted rs

    move : Cond-F Argument (Cond Argument) → Cond Argument
    move = moved_by_parts copied

    new : Cond Argument → Truth
    new c = truth matrix denoted (narrowed copied rows) c

-- ---- tables

-- the product of narrowed tables is the narrowed product
narrow_product : (copied : List (List ℕ)) (tables : List (Table Geometry)) → length copied ≡ length tables → product (narrow_tables copied tables) ≡ map (narrowed copied) (product tables)
narrow_product [] [] e = refl
narrow_product [] (table ∷ tables) e = absurd (omega (arith, e))
narrow_product (columns ∷ copied) [] e = absurd (omega (arith, e))
narrow_product (columns ∷ copied) (table ∷ tables) e =
    flat_map-map (λ x. map (λ choice. x ∷ choice) (product (narrow_tables copied tables))) (fields_in columns) table
    ∙ ap (λ f. flat_map f table)
    (fun_ext (λ x. ap (map (λ choice. fields_in columns x ∷ choice)) (narrow_product copied tables (omega (arith, e)))
    ∙ map-map (λ choice. fields_in columns x ∷ choice) (narrowed copied) (product tables)
    ∙ sym (map-map (narrowed (columns ∷ copied)) (λ choice. x ∷ choice) (product tables))))
    ∙ sym (map_flat (narrowed (columns ∷ copied)) (λ x. map (λ choice. x ∷ choice) (product tables)) table)
  where
    map_flat : {X Y Z : Type 0} (f : Y → Z) (g : X → List Y) (xs : List X) → map f (flat_map g xs) ≡ flat_map (λ x. map f (g x)) xs
    map_flat f g [] = refl
    map_flat f g (x ∷ xs) = map-append f (g x) (flat_map g xs) ∙ ap (λ ys. map f (g x) ++ ys) (map_flat f g xs)

narrow_length : (copied : List (List ℕ)) (tables : List (Table Geometry)) → length copied ≡ length tables → length (narrow_tables copied tables) ≡ length tables
narrow_length [] [] e = refl
narrow_length [] (table ∷ tables) e = absurd (omega (arith, e))
narrow_length (columns ∷ copied) [] e = absurd (omega (arith, e))
narrow_length (columns ∷ copied) (table ∷ tables) e = ap suc (narrow_length copied tables (omega (arith, e)))

all_seen : (matrix : Geometry → Geometry → Matrix) (copied : List (List ℕ)) (rows : Rows Geometry) (cs : List (Cond Argument)) → All (λ c. All (HasColumn copied) (condition_columns c)) cs
    → all_true (truth matrix denoted) (map (moved_condition copied) cs) (narrowed copied rows) ≡ all_true (truth matrix denoted) cs rows
all_seen matrix copied rows [] h = refl
all_seen matrix copied rows (c ∷ cs) h =
    ap₂ (λ t b. is_true t && b) (copied_columns_are_seen matrix copied rows c (All-head (λ d. All (HasColumn copied) (condition_columns d)) c cs h))
    (all_seen matrix copied rows cs (All-tail (λ d. All (HasColumn copied) (condition_columns d)) c cs h))

-- what the query over what is copied filters
narrow_rows : (matrix : Geometry → Geometry → Matrix) (tables : List (Table Geometry)) (query narrow_query : GeometryStatement) (copied : List (List ℕ)) → IsNarrowed query narrow_query copied
    → filtered (truth matrix denoted) (narrow_tables copied (referenced tables query.references)) narrow_query ≡ map (narrowed copied) (filtered (truth matrix denoted) tables query)
narrow_rows matrix tables query narrow_query copied is =
    let own = referenced tables query.references in
    let narrow = narrow_tables copied own in
    let long : length copied ≡ length own = is.count ∙ sym (length-map query.references (λ (r : Reference). slice_index_or tables r.table [])) in
    let asked : referenced narrow narrow_query.references ≡ narrow =
    sym (map-map (λ k. slice_index_or narrow k []) (λ (r : Reference). r.table) narrow_query.references)
    ∙ ap (map (λ k. slice_index_or narrow k [])) is.references
    ∙ ap (λ m. map (λ k. slice_index_or narrow k []) (range_with_len 0 m)) (sym is.count ∙ long ∙ sym (narrow_length copied own long))
    ∙ sym (fill_by_all (λ k. slice_index_or narrow k []) narrow (length narrow) [] refl (λ k l. refl)) in
    ap (λ test. filter test (product (referenced narrow narrow_query.references))) (fun_ext (λ rows. sym (conjuncts_are_filtered Geometry Argument ColumnPlace matrix denoted rows narrow_query)))
    ∙ ap (λ cs. filter (λ rows. all_true (truth matrix denoted) cs rows) (product (referenced narrow narrow_query.references))) is.conjuncts
    ∙ ap (λ ts. filter (λ rows. all_true (truth matrix denoted) (map (moved_condition copied) (by_conjuncts query).conjuncts) rows) (product ts)) asked
    ∙ ap (filter (λ rows. all_true (truth matrix denoted) (map (moved_condition copied) (by_conjuncts query).conjuncts) rows)) (narrow_product copied own long)
    ∙ filter_map_is (λ rows. all_true (truth matrix denoted) (map (moved_condition copied) (by_conjuncts query).conjuncts) rows) (narrowed copied) (product own)
    ∙ ap (λ test. map (narrowed copied) (filter test (product own)))
    (fun_ext (λ rows. all_seen matrix copied rows (by_conjuncts query).conjuncts is.conditions ∙ conjuncts_are_filtered Geometry Argument ColumnPlace matrix denoted rows query))

pub columns_can_be_left_out : ColumnsCanBeLeftOut
columns_can_be_left_out matrix tables query narrow_query copied is =
    let rows = filtered (truth matrix denoted) tables query in
    ap (λ list. if narrow_query.counts then list else up_to narrow_query.limit list) (narrow_rows matrix tables query narrow_query copied is)
    ∙ ap₂ (λ counts limit. if counts then map (narrowed copied) rows else up_to limit (map (narrowed copied) rows)) is.counts is.limit
    ∙ go query.counts query.limit rows
  where
    front : (limit : Option ℕ) (list : List (Rows Geometry)) → up_to limit (map (narrowed copied) list) ≡ map (narrowed copied) (up_to limit list)
    front None list = refl
    front (Some n) list = take-map (narrowed copied) n list

    go : (counts : Bool) (limit : Option ℕ) (list : List (Rows Geometry)) → (if counts then map (narrowed copied) list else up_to limit (map (narrowed copied) list)) ≡ map (narrowed copied) (if counts then list else up_to limit list)
    go true limit list = refl
    go false limit list = front limit list

-- ---- items

same_item : (copied : List (List ℕ)) (rows : Rows Geometry) (i : Item ColumnPlace) → HasColumn copied (item_column i) → item_text geometry_writing (narrowed copied rows) (moved_item copied i) ≡ item_text geometry_writing rows i
same_item copied rows (items.Column place) m = ap (field_text geometry_writing) (same_at copied rows place m)
same_item copied rows (items.AsText place) m = ap (function_text geometry_writing.text) (same_at copied rows place m)
same_item copied rows (items.Dimension place) m = ap (function_text (λ g. signed_decimal (geometry_writing.dimension g))) (same_at copied rows place m)
same_item copied rows (items.IsEmpty place) m = ap (function_text (λ g. cond (geometry_writing.is_empty g) (codes "1") (codes "0"))) (same_at copied rows place m)

same_items : (copied : List (List ℕ)) (rows : Rows Geometry) (list : List (Item ColumnPlace)) → All (λ i. HasColumn copied (item_column i)) list
    → map (item_text geometry_writing (narrowed copied rows)) (map (moved_item copied) list) ≡ map (item_text geometry_writing rows) list
same_items copied rows [] h = refl
same_items copied rows (i ∷ list) h =
    ap₂ (λ t ts. t ∷ ts) (same_item copied rows i (All-head (λ j. HasColumn copied (item_column j)) i list h)) (same_items copied rows list (All-tail (λ j. HasColumn copied (item_column j)) i list h))

pub narrow_records_are_same : NarrowRecordsAreSame
narrow_records_are_same query narrow_query copied is rows = ap (map (item_text geometry_writing (narrowed copied rows))) is.items ∙ same_items copied rows query.items is.named_items
