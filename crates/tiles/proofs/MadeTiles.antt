-- A definition that is made column by column is that of tiles.
use Rattle.std.proofs.Common.{◌≡◌, ◌∙◌, ◌+◌, ◌<◌, ◌++◌, ◌==◌, ap, ap₂, arith, cond, eq-eqb, eqb-true, refl, subst, sym}
use Rattle.std.proofs.Common.{if◌then◌else◌, Bool, true, false, ℕ, zero, suc, List, [], ◌∷◌, get_or, length, map, Option, Some}
use Rattle.std.specs.Prelude.{option_map, slice_get, take}
use Rattle.std.specs.List.{slice_index_or}
use Rattle.std.proofs.lemmas.Bool.{false≢true}
use Rattle.std.proofs.lemmas.List.{length-map}
use Rattle.std.proofs.lemmas.Option.{get_or_from_slice_get, same_Some, slice_get-get_or, slice_get-map, slice_get_within}
use Rattle.basics.proofs.Options.{nothing_there}
use Rattle.table_laws.specs.ColumnLaws.{place_among}
use Rattle.table_model.specs.Definitions.{column_names}
use Rattle.table_model.specs.GeometryColumns.{ColumnShape}
use Rattle.table_model.specs.Texts.{same_name}
use Rattle.table_model.specs.declared.definitions.ColumnDef.{ColumnDef}
use Rattle.table_model.specs.declared.definitions.TableDef.{TableDef}
use Rattle.tiles.specs.MadeTiles.{IsMadeOf, MadeTilesAreMarked}
use Rattle.tiles.proofs.TileRows.{apart, itself}

-- two columns are behind the first ones
two_behind : (columns : List (ColumnDef ColumnShape)) (n : ℕ) (w s : ColumnDef ColumnShape) → length columns ≡ n + 2
    → slice_get columns n ≡ Some w → slice_get columns (n + 1) ≡ Some s → columns ≡ take n columns ++ w ∷ s ∷ []
two_behind [] n w s size at next = absurd (omega (arith, size))
two_behind (x ∷ []) n w s size at next = absurd (omega (arith, size))
two_behind (x ∷ y ∷ []) zero w s size at next =
    ap₂ (λ (a b : ColumnDef ColumnShape). a ∷ b ∷ []) (same_Some x w at) (same_Some y s next)
two_behind (x ∷ y ∷ z ∷ columns) zero w s size at next = absurd (omega (arith, size))
two_behind (x ∷ y ∷ columns) (suc n) w s size at next =
    let more : suc n + 1 ≡ suc (n + 1) = omega arith in
    ap (λ l. x ∷ l) (two_behind (y ∷ columns) n w s (omega (arith, size)) at
    (subst (λ k. slice_get (x ∷ y ∷ columns) k ≡ Some s) more next))

-- the first columns are those that are copied
firsts_are : (of made : List (ColumnDef ColumnShape)) (copied : List ℕ)
    → ((turn : ℕ) → turn < length copied
    → (c : ColumnDef ColumnShape) × (slice_get of (slice_index_or copied turn 0) ≡ Some c) × (slice_get made turn ≡ Some c))
    → map (λ (c : ColumnDef ColumnShape). Some c) (take (length copied) made) ≡ map (slice_get of) copied
firsts_are of made [] copies = refl
firsts_are of [] (k ∷ copied) copies = let first = copies 0 (omega arith) in nothing_there first.0 first.2
firsts_are of (x ∷ made) (k ∷ copied) copies =
    let first = copies 0 (omega arith) in
    ap₂ (λ (o : Option (ColumnDef ColumnShape)) (l : List (Option (ColumnDef ColumnShape))). o ∷ l)
    (first.2 ∙ sym first.1) (firsts_are of made copied (λ turn within. copies (suc turn) (omega (arith, within))))

-- a place that is the first of a column is that among what is copied
first_place : (copied : List ℕ) (column place : ℕ) → slice_get copied place ≡ Some column
    → ((earlier : ℕ) → earlier < place → slice_get copied earlier ≡ Some column → ⊥) → place ≡ place_among copied column
first_place [] column place at none = nothing_there column at
first_place (k ∷ copied) column zero at none =
    ap (λ b. if b then 0 else suc (place_among copied column)) (sym (eq-eqb k column (same_Some k column at)))
first_place (k ∷ copied) column (suc place) at none =
    go (first_place copied column place at (λ earlier before here. none (suc earlier) (omega (arith, before)) here)) (k == column) refl
  where
    go : place ≡ place_among copied column → (b : Bool) → (k == column) ≡ b
        → suc place ≡ cond b 0 (suc (place_among copied column))
    go rest true e = absurd (none 0 (omega arith) (ap (λ j. Some j) (eqb-true k column e)))
    go rest false e = ap suc rest

pub made_tiles_are_marked : MadeTilesAreMarked
made_tiles_are_marked table wide copied west south is = (
  record { name = wide.name; columns = take (length copied) wide.columns; key = wide.key },
  record {
    there = firsts_are table.columns wide.columns copied is.copies;
    key_copied = (wide.key, is.key_within, get_or_from_slice_get copied wide.key table.key table.key key_there);
    key = first_place copied table.key wide.key key_there earlier;
  },
  record {
    columns = two_behind wide.columns (length copied) west south is.count is.west_there is.south_there;
    key = refl;
    west = is.west_type;
    south = is.south_type;
  },
)
  where
    key_there : slice_get copied wide.key ≡ Some table.key
    key_there = slice_get-get_or copied wide.key 0 is.key_within ∙ ap (λ k. Some k) is.key

    name : ColumnDef ColumnShape → List ℕ
    name c = c.name

    names : List (List ℕ)
    names = column_names wide.columns

    -- the name at a place of what is copied is that of the table's column there
    named : (turn : ℕ) → turn < length copied → slice_get copied turn ≡ Some table.key → (c : ColumnDef ColumnShape)
        → slice_get table.columns table.key ≡ Some c → get_or names turn [] ≡ c.name
    named turn within at c there =
        let k = is.copies turn within in
        let place : slice_index_or copied turn 0 ≡ table.key = get_or_from_slice_get copied turn table.key 0 at in
        let same : k.0 ≡ c = same_Some k.0 c (sym k.1 ∙ ap (slice_get table.columns) place ∙ there) in
        get_or_from_slice_get names turn k.0.name [] (slice_get-map name wide.columns turn ∙ ap (option_map name) k.2)
        ∙ ap name same

    earlier : (turn : ℕ) → turn < wide.key → slice_get copied turn ≡ Some table.key → ⊥
    earlier turn before at =
        let own = is.copies wide.key is.key_within in
        let there : slice_get table.columns table.key ≡ Some own.0 = ap (slice_get table.columns) (sym is.key) ∙ own.1 in
        let first = named turn (omega (arith, before, is.key_within)) at own.0 there in
        let second = named wide.key is.key_within key_there own.0 there in
        let size : length names ≡ length copied + 2 = length-map wide.columns name ∙ is.count in
        let differ = apart names is.differ turn wide.key [] before (omega (arith, size, is.key_within)) in
        false≢true (sym differ ∙ ap₂ same_name second first ∙ itself own.0.name)
