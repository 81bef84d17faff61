-- A query over what is copied of two tables is bound as the query is.
use Rattle.std.proofs.Common.{◌≡◌, ◌∙◌, ◌&&◌, ◌++◌, ◌<◌, ap, ap₂, inr, refl, subst, sym, Bool, true, ℕ, zero, suc, List, []}
use Rattle.std.proofs.Common.{◌∷◌, arith}
use Rattle.std.proofs.Common.{length, map, Option, None, Some}
use Rattle.std.specs.Prelude.{All, Contains, is_some, option_map, slice_get}
use Rattle.std.specs.List.{flat_map, list_all, slice_index_or}
use Rattle.std.proofs.lemmas.List.{map-append}
use Rattle.std.proofs.lemmas.List.Concat.{flat_map-cons}
use Rattle.std.proofs.lemmas.List.Elements.{All-cons, All-head, All-nil, All-tail}
use Rattle.std.proofs.lemmas.Option.{same_Some, slice_get-map}
use Rattle.geometry_model.specs.Geometries.{Geometry}
use Rattle.table_laws.proofs.PlanLists.{no_member}
use Rattle.table_laws.specs.ColumnLaws.{HasColumn, IsNarrow, IsNarrowed, argument_columns, columns_by_parts, condition_columns}
use Rattle.table_laws.specs.ColumnLaws.{item_column}
use Rattle.table_laws.specs.ColumnLaws.{moved, moved_argument, moved_by_parts, moved_condition, moved_item, moved_operand}
use Rattle.table_laws.specs.ColumnLaws.{operand_columns, place_among}
use Rattle.table_laws.specs.TileLaws.{GeometryStatement}
use Rattle.table_model.proofs.CondFolds.{fold-And, fold-Compare, fold-IsEmpty, fold-IsNull, fold-Not, fold-Or, fold-Relates}
use Rattle.table_model.proofs.CondInduction.{Each, by_parts}
use Rattle.table_model.proofs.ConjunctFacts.{conjuncts-And, conjuncts-Compare, conjuncts-IsEmpty, conjuncts-IsNull}
use Rattle.table_model.proofs.ConjunctFacts.{conjuncts-Not, conjuncts-Or}
use Rattle.table_model.proofs.ConjunctFacts.{conjuncts-Relates}
use Rattle.table_model.specs.BoundQueries.{IsBound, argument_fits, can_compare, column_type, cond_fits, fits_by_parts}
use Rattle.table_model.specs.BoundQueries.{geometry_fits, is_geometry}
use Rattle.table_model.specs.BoundQueries.{item_fits, operand_type, place_type, type_if}
use Rattle.table_model.specs.Binding.{table_columns}
use Rattle.table_model.specs.Definitions.{names_differ}
use Rattle.table_model.specs.GeometryColumns.{ColumnShape}
use Rattle.table_model.specs.Places as model
use Rattle.table_model.specs.Statements.{by_conjuncts, conjuncts_in, conjuncts_of}
use Rattle.table_model.specs.TruthLaws.{Argument}
use Rattle.table_model.specs.declared.conditions.ColumnPlace.{ColumnPlace}
use Rattle.table_model.specs.declared.conditions.Cond.{Cond}
use Rattle.table_model.specs.declared.conditions.Cond.TheOpen.{Cond-F}
use Rattle.table_model.specs.declared.conditions.Cond.TheVariants as conds
use Rattle.table_model.specs.declared.conditions.GeometryArgument.TheVariants as arguments
use Rattle.table_model.specs.declared.conditions.Item.{Item}
use Rattle.table_model.specs.declared.conditions.Item.TheVariants as items
use Rattle.table_model.specs.declared.conditions.Operand.{Operand}
use Rattle.table_model.specs.declared.conditions.Operand.TheVariants as operands
use Rattle.table_model.specs.declared.conditions.Reference.{Reference}
use Rattle.table_model.specs.declared.definitions.ColumnDef.{ColumnDef}
use Rattle.table_model.specs.declared.definitions.TableDef.{TableDef}
use Rattle.table_model.specs.declared.typing.OperandType.{OperandType}
use Rattle.table_model.specs.declared.typing.OperandType.TheVariants as types
use Rattle.tiles.proofs.LoadedParts.{at_its_place}

-- ---- conjuncts

module _ (copied : List (List ℕ)) where
  abbrev move : Cond Argument → Cond Argument
  move = moved_condition copied

  abbrev step : Cond-F Argument (Cond Argument) → Cond Argument
  step = moved_by_parts copied

  -- the conjuncts over what is copied are those of the condition over it
  abbrev AreMoved : Cond Argument → Type 0
  AreMoved c = conjuncts_of (move c) ≡ map move (conjuncts_of c)

  each_moved : (parts : List (Cond Argument)) → Each AreMoved parts
      → flat_map conjuncts_of (map move parts) ≡ map move (flat_map conjuncts_of parts)
  each_moved [] each = refl
  each_moved (c ∷ parts) each =
      flat_map-cons conjuncts_of (move c) (map move parts)
      ∙ ap₂ (λ (a b : List (Cond Argument)). a ++ b) each.0 (each_moved parts each.1)
      ∙ sym (map-append move (conjuncts_of c) (flat_map conjuncts_of parts))
      ∙ ap (map move) (sym (flat_map-cons conjuncts_of c parts))

  -- a condition that is its own only conjunct, there and here
  alone : (c d : Cond Argument) → move c ≡ d → conjuncts_of d ≡ d ∷ [] → conjuncts_of c ≡ c ∷ [] → AreMoved c
  alone c d is there here = ap conjuncts_of is ∙ there ∙ ap (λ x. x ∷ []) (sym is) ∙ ap (map move) (sym here)

  conjuncts_moved : (c : Cond Argument) → AreMoved c
  conjuncts_moved = by_parts AreMoved (record {
    or = λ parts each. alone (conds.Or parts) (conds.Or (map move parts)) (fold-Or Argument (Cond Argument) step parts)
        (conjuncts-Or (map move parts)) (conjuncts-Or parts);
    and = λ parts each. ap conjuncts_of (fold-And Argument (Cond Argument) step parts)
        ∙ conjuncts-And (map move parts) ∙ each_moved parts each ∙ ap (map move) (sym (conjuncts-And parts));
    not = λ part own. alone (conds.Not part) (conds.Not (move part)) (fold-Not Argument (Cond Argument) step part)
        (conjuncts-Not (move part)) (conjuncts-Not part);
    compare = λ sign a b. alone (conds.Compare sign a b) (conds.Compare sign (moved_operand copied a) (moved_operand copied b))
        (fold-Compare Argument (Cond Argument) step sign a b)
        (conjuncts-Compare sign (moved_operand copied a) (moved_operand copied b)) (conjuncts-Compare sign a b);
    is_null = λ a. alone (conds.IsNull a) (conds.IsNull (moved_operand copied a)) (fold-IsNull Argument (Cond Argument) step a)
        (conjuncts-IsNull (moved_operand copied a)) (conjuncts-IsNull a);
    is_empty = λ a. alone (conds.IsEmpty a) (conds.IsEmpty (moved_argument copied a))
        (fold-IsEmpty Argument (Cond Argument) step a) (conjuncts-IsEmpty (moved_argument copied a)) (conjuncts-IsEmpty a);
    relates = λ predicate a b. alone (conds.Relates predicate a b)
        (conds.Relates predicate (moved_argument copied a) (moved_argument copied b))
        (fold-Relates Argument (Cond Argument) step predicate a b)
        (conjuncts-Relates predicate (moved_argument copied a) (moved_argument copied b)) (conjuncts-Relates predicate a b);
  })

  -- and so are those of ON and of WHERE
  in_moved : (o : Option (Cond Argument)) → conjuncts_in (option_map move o) ≡ map move (conjuncts_in o)
  in_moved None = refl
  in_moved (Some c) = conjuncts_moved c

-- ---- types

module _ (wide narrow : List (TableDef ColumnShape)) (of own : List Reference) (copied : List (List ℕ))
    (same_type : (place : ColumnPlace) → HasColumn copied place
    → place_type narrow own (moved copied place) ≡ place_type wide of place) where
  left_of : (xs ys : List ColumnPlace) → All (HasColumn copied) (xs ++ ys) → All (HasColumn copied) xs
  left_of [] ys h = All-nil (HasColumn copied)
  left_of (x ∷ xs) ys h =
      All-cons (HasColumn copied) x xs (All-head (HasColumn copied) x (xs ++ ys) h)
      (left_of xs ys (All-tail (HasColumn copied) x (xs ++ ys) h))

  right_of : (xs ys : List ColumnPlace) → All (HasColumn copied) (xs ++ ys) → All (HasColumn copied) ys
  right_of [] ys h = h
  right_of (x ∷ xs) ys h = right_of xs ys (All-tail (HasColumn copied) x (xs ++ ys) h)

  same_argument : (a : Argument) → All (HasColumn copied) (argument_columns a)
      → argument_fits narrow own (moved_argument copied a) ≡ argument_fits wide of a
  same_argument (arguments.Column place) h = ap is_geometry (same_type place (All-head (HasColumn copied) place [] h))
  same_argument (arguments.Literal g) h = refl

  same_operand : (a : Operand Argument) → All (HasColumn copied) (operand_columns a)
      → operand_type geometry_fits narrow own (moved_operand copied a) ≡ operand_type geometry_fits wide of a
  same_operand (operands.Column place) h = same_type place (All-head (HasColumn copied) place [] h)
  same_operand (operands.Integer n) h = refl
  same_operand (operands.Text bytes) h = refl
  same_operand operands.Null h = refl
  same_operand (operands.AsText a) h = ap (λ b. type_if b types.Text) (same_argument a h)
  same_operand (operands.Dimension a) h = ap (λ b. type_if b types.Integer) (same_argument a h)

  abbrev there : Cond-F Argument Bool → Bool
  there = fits_by_parts geometry_fits narrow own

  abbrev here : Cond-F Argument Bool → Bool
  here = fits_by_parts geometry_fits wide of

  abbrev fits_there : Cond Argument → Bool
  fits_there = cond_fits geometry_fits narrow own

  abbrev fits_here : Cond Argument → Bool
  fits_here = cond_fits geometry_fits wide of

  -- a condition over what is copied fits as the condition does
  abbrev IsSame : Cond Argument → Type 0
  IsSame c = All (HasColumn copied) (condition_columns c) → fits_there (moved_condition copied c) ≡ fits_here c

  parts_same : (parts : List (Cond Argument)) → Each IsSame parts
      → All (HasColumn copied) (flat_map (λ part. part) (map condition_columns parts))
      → map fits_there (map (moved_condition copied) parts) ≡ map fits_here parts
  parts_same [] each h = refl
  parts_same (c ∷ parts) each h =
      ap₂ (λ (t : Bool) (ts : List Bool). t ∷ ts)
      (each.0 (left_of (condition_columns c) (flat_map (λ part. part) (map condition_columns parts)) h))
      (parts_same parts each.1
      (right_of (condition_columns c) (flat_map (λ part. part) (map condition_columns parts)) h))

  fits_same : (c : Cond Argument) → IsSame c
  fits_same = by_parts IsSame (record {
    or = λ parts each h. ap fits_there (fold-Or Argument (Cond Argument) (moved_by_parts copied) parts)
        ∙ fold-Or Argument Bool there (map (moved_condition copied) parts)
        ∙ ap (list_all (λ part. part))
        (parts_same parts each (rw (fold-Or Argument (List ColumnPlace) columns_by_parts parts) at h))
        ∙ sym (fold-Or Argument Bool here parts);
    and = λ parts each h. ap fits_there (fold-And Argument (Cond Argument) (moved_by_parts copied) parts)
        ∙ fold-And Argument Bool there (map (moved_condition copied) parts)
        ∙ ap (list_all (λ part. part))
        (parts_same parts each (rw (fold-And Argument (List ColumnPlace) columns_by_parts parts) at h))
        ∙ sym (fold-And Argument Bool here parts);
    not = λ part own_part h. ap fits_there (fold-Not Argument (Cond Argument) (moved_by_parts copied) part)
        ∙ fold-Not Argument Bool there (moved_condition copied part)
        ∙ own_part (rw (fold-Not Argument (List ColumnPlace) columns_by_parts part) at h)
        ∙ sym (fold-Not Argument Bool here part);
    compare = λ sign a b h. let t : All (HasColumn copied) (operand_columns a ++ operand_columns b) =
        rw (fold-Compare Argument (List ColumnPlace) columns_by_parts sign a b) at h in
        ap fits_there (fold-Compare Argument (Cond Argument) (moved_by_parts copied) sign a b)
        ∙ fold-Compare Argument Bool there sign (moved_operand copied a) (moved_operand copied b)
        ∙ ap₂ can_compare
        (same_operand a (left_of (operand_columns a) (operand_columns b) t))
        (same_operand b (right_of (operand_columns a) (operand_columns b) t))
        ∙ sym (fold-Compare Argument Bool here sign a b);
    is_null = λ a h. ap fits_there (fold-IsNull Argument (Cond Argument) (moved_by_parts copied) a)
        ∙ fold-IsNull Argument Bool there (moved_operand copied a)
        ∙ ap is_some (same_operand a (rw (fold-IsNull Argument (List ColumnPlace) columns_by_parts a) at h))
        ∙ sym (fold-IsNull Argument Bool here a);
    is_empty = λ a h. ap fits_there (fold-IsEmpty Argument (Cond Argument) (moved_by_parts copied) a)
        ∙ fold-IsEmpty Argument Bool there (moved_argument copied a)
        ∙ same_argument a (rw (fold-IsEmpty Argument (List ColumnPlace) columns_by_parts a) at h)
        ∙ sym (fold-IsEmpty Argument Bool here a);
    relates = λ predicate a b h. let t : All (HasColumn copied) (argument_columns a ++ argument_columns b) =
        rw (fold-Relates Argument (List ColumnPlace) columns_by_parts predicate a b) at h in
        ap fits_there (fold-Relates Argument (Cond Argument) (moved_by_parts copied) predicate a b)
        ∙ fold-Relates Argument Bool there predicate (moved_argument copied a) (moved_argument copied b)
        ∙ ap₂ (λ (x y : Bool). x && y)
        (same_argument a (left_of (argument_columns a) (argument_columns b) t))
        (same_argument b (right_of (argument_columns a) (argument_columns b) t))
        ∙ sym (fold-Relates Argument Bool here predicate a b);
  })

  conjuncts_same : (cs : List (Cond Argument)) → All (λ c. All (HasColumn copied) (condition_columns c)) cs
      → list_all fits_there (map (moved_condition copied) cs) ≡ list_all fits_here cs
  conjuncts_same [] h = refl
  conjuncts_same (c ∷ cs) h =
      ap₂ (λ (a b : Bool). a && b) (fits_same c (All-head (λ d. All (HasColumn copied) (condition_columns d)) c cs h))
      (conjuncts_same cs (All-tail (λ d. All (HasColumn copied) (condition_columns d)) c cs h))

  item_same : (i : Item ColumnPlace) → HasColumn copied (item_column i)
      → item_fits geometry_fits narrow own (moved_item copied i) ≡ item_fits geometry_fits wide of i
  item_same (items.Column place) m = ap is_some (same_type place m)
  item_same (items.AsText place) m = ap is_geometry (same_type place m)
  item_same (items.Dimension place) m = ap is_geometry (same_type place m)
  item_same (items.IsEmpty place) m = ap is_geometry (same_type place m)

  items_same : (list : List (Item ColumnPlace)) → All (λ i. HasColumn copied (item_column i)) list
      → list_all (item_fits geometry_fits narrow own) (map (moved_item copied) list) ≡ list_all (item_fits geometry_fits wide
      of) list
  items_same [] h = refl
  items_same (i ∷ list) h =
      ap₂ (λ (a b : Bool). a && b) (item_same i (All-head (λ j. HasColumn copied (item_column j)) i list h))
      (items_same list (All-tail (λ j. HasColumn copied (item_column j)) i list h))

-- ---- two tables

-- a column that is copied is that of the table
same_column : (table narrow : TableDef ColumnShape) (columns : List ℕ) → IsNarrow table narrow columns → (column : ℕ)
    → Contains columns column → slice_get narrow.columns (place_among columns column) ≡ slice_get table.columns column
same_column table narrow columns is column m =
    go (slice_get narrow.columns (place_among columns column))
    (sym (slice_get-map (λ (c : ColumnDef ColumnShape). Some c) narrow.columns (place_among columns column))
    ∙ ap (λ l. slice_get l (place_among columns column)) is.there
    ∙ at_its_place (slice_get table.columns) columns column m)
  where
    go : (o : Option (ColumnDef ColumnShape)) → option_map (λ (c : ColumnDef ColumnShape). Some c) o ≡ Some (slice_get
        table.columns column)
        → o ≡ slice_get table.columns column
    go None e = cc e
    go (Some c) e = same_Some (Some c) (slice_get table.columns column) e

-- the references to what is copied
abbrev pub narrow_references : Reference → Reference → List Reference
narrow_references one other = record { table = 0; name = one.name } ∷ record { table = 1; name = other.name } ∷ []

-- the query over what is copied
abbrev pub narrow_query : GeometryStatement → Reference → Reference → List (List ℕ) → GeometryStatement
narrow_query query one other copied = record {
  explain = query.explain;
  references = narrow_references one other;
  items = map (moved_item copied) query.items;
  on = option_map (moved_condition copied) query.on;
  condition = option_map (moved_condition copied) query.condition;
  counts = query.counts;
  limit = query.limit;
}

module _ (definitions : List (TableDef ColumnShape)) (query : GeometryStatement) (one other : Reference)
    (first first_narrow second second_narrow : TableDef ColumnShape) (first_copied second_copied : List ℕ)
    (bound : IsBound geometry_fits definitions (by_conjuncts query)) (references : query.references ≡ one ∷ other ∷ [])
    (first_narrowed : IsNarrow first first_narrow first_copied) (first_is : slice_get definitions one.table ≡ Some first)
    (second_narrowed : IsNarrow second second_narrow second_copied) (second_is : slice_get definitions other.table ≡ Some second)
    (conditions : All (λ c. All (HasColumn (first_copied ∷ second_copied ∷ [])) (condition_columns c)) (by_conjuncts
    query).conjuncts)
    (named_items : All (λ i. HasColumn (first_copied ∷ second_copied ∷ []) (item_column i)) query.items) where
  abbrev copied : List (List ℕ)
  copied = first_copied ∷ second_copied ∷ []

  abbrev narrow_definitions : List (TableDef ColumnShape)
  narrow_definitions = first_narrow ∷ second_narrow ∷ []

  pub is_narrowed : IsNarrowed query (narrow_query query one other copied) copied
  is_narrowed = record {
    count = ap (λ (l : List Reference). length l) (sym references);
    conditions = conditions;
    named_items = named_items;
    references = ap model.places_in (sym references);
    conjuncts =
        ap₂ (λ (a b : List (Cond Argument)). a ++ b) (in_moved copied query.on) (in_moved copied query.condition)
        ∙ sym (map-append (moved_condition copied) (conjuncts_in query.on) (conjuncts_in query.condition));
    items = refl;
    counts = refl;
    limit = refl;
  }

  same_at : (reference column : ℕ) → Contains (slice_index_or copied reference []) column
      → place_type narrow_definitions (narrow_references one other)
      (record { reference = reference; column = place_among (slice_index_or copied reference []) column })
      ≡ place_type definitions (one ∷ other ∷ []) (record { reference = reference; column = column })
  same_at zero column m =
      ap column_type (same_column first first_narrow first_copied first_narrowed column m
      ∙ sym (ap (λ o. slice_get (table_columns o) column) first_is))
  same_at (suc zero) column m =
      ap column_type (same_column second second_narrow second_copied second_narrowed column m
      ∙ sym (ap (λ o. slice_get (table_columns o) column) second_is))
  same_at (suc (suc reference)) column m = absurd (no_member column m)

  same_place : (place : ColumnPlace) → HasColumn copied place
      → place_type narrow_definitions (narrow_references one other) (moved copied place) ≡ place_type definitions (one ∷ other
      ∷ []) place
  same_place place m = same_at place.reference place.column m

  abbrev Within : Reference → Type 0
  Within r = r.table < length narrow_definitions

  -- it is bound to their definitions
  pub narrow_is_bound : IsBound geometry_fits narrow_definitions (by_conjuncts (narrow_query query one other copied))
  narrow_is_bound = record {
    references = record {
      few = inr refl;
      there = All-cons Within (record { table = 0; name = one.name }) (record { table = 1; name = other.name } ∷ [])
          (omega arith) (All-cons Within (record { table = 1; name = other.name }) [] (omega arith) (All-nil Within));
      differ = subst (λ (rs : List Reference). names_differ (map (λ r. r.name) rs) ≡ true) references bound.references.differ;
    };
    items = items_same definitions narrow_definitions (one ∷ other ∷ []) (narrow_references one other) copied same_place
        query.items named_items
        ∙ subst (λ rs. list_all (item_fits geometry_fits definitions rs) query.items ≡ true) references bound.items;
    conjuncts =
        ap (list_all (cond_fits geometry_fits narrow_definitions (narrow_references one other))) is_narrowed.conjuncts
        ∙ conjuncts_same definitions narrow_definitions (one ∷ other ∷ []) (narrow_references one other) copied same_place
        (by_conjuncts query).conjuncts conditions
        ∙ subst (λ rs. list_all (cond_fits geometry_fits definitions rs) (by_conjuncts query).conjuncts ≡ true) references
        bound.conjuncts;
    counted = λ counts. ap (map (moved_item copied)) (bound.counted counts);
  }
