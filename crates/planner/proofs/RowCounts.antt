-- The numbers of rows of some references, one after another.
use Rattle.std.specs.Prelude.{◌≡◌, ℕ, ◌<◌, ◌+◌, List, [], ◌∷◌, ◌++◌, length, map, take, slice_get, slice_index_or, Some, refl}
use Rattle.std.proofs.Common.{ap, ◌∙◌, get_or, sym}
use Rattle.std.proofs.lemmas.List.{map-append, take_more}
use Rattle.std.proofs.lemmas.Option.{get_or_from_slice_get}
use Rattle.table_model.specs.Meanings.{Table}
use Rattle.table_model.specs.Plans.{row_counts}
use Rattle.table_model.specs.declared.conditions.Reference.{Reference}

-- the number of rows of the table of a reference
abbrev count_of : {V : Type 0} → List (Table V) → Reference → ℕ
count_of tables r = length (slice_index_or tables r.table [])

-- the numbers of rows are those of the references' tables, in their order
all_counts : {V : Type 0} (tables : List (Table V)) (references : List Reference) → row_counts tables references ≡ map (count_of tables) references
all_counts tables [] = refl
all_counts tables (r ∷ more) = ap (λ ns. count_of tables r ∷ ns) (all_counts tables more)

-- the number of the next reference comes behind those before it
pub one_more_count : {V : Type 0} (tables : List (Table V)) (references : List Reference) (i : ℕ) (r : Reference) (table : Table V) → i < length references
    → r ≡ get_or references i r → slice_get tables r.table ≡ Some table
    → row_counts tables (take (i + 1) references) ≡ row_counts tables (take i references) ++ length table ∷ []
one_more_count tables references i r table within is there =
    let rows : slice_index_or tables r.table [] ≡ table = get_or_from_slice_get tables r.table table [] there in
    all_counts tables (take (i + 1) references)
    ∙ ap (map (count_of tables)) (take_more references i r within)
    ∙ map-append (count_of tables) (take i references) (get_or references i r ∷ [])
    ∙ ap (λ x. map (count_of tables) (take i references) ++ count_of tables x ∷ []) (sym is)
    ∙ ap (λ rows. map (count_of tables) (take i references) ++ length rows ∷ []) rows
    ∙ ap (λ ns. ns ++ length table ∷ []) (sym (all_counts tables (take i references)))
