-- Rows that are merged by their keys.
use Rattle.std.specs.Prelude.{◌||◌, ◌&&◌, if◌then◌else◌, ℕ, Bool, false, List, [], ◌∷◌, int_lt}
use Rattle.std.specs.Ordering.{int_eq}
use Rattle.geometry_model.specs.Geometries.{Geometry}
use Rattle.table_model.specs.Loading.{key_of}
use Rattle.table_model.specs.Meanings.{Row}

-- whether a choice of rows comes before another: where their keys first differ, its key is less (the order of an answer: by the first's
-- key, then the second's)
abbrev pub comes_before : List ℕ → List (Row Geometry) → List (Row Geometry) → Bool
comes_before [] rows others = false
comes_before (key ∷ keys) [] others = false
comes_before (key ∷ keys) (row ∷ rows) [] = false
comes_before (key ∷ keys) (row ∷ rows) (other ∷ others) =
    int_lt (key_of key row) (key_of key other) || (int_eq (key_of key row) (key_of key other) && comes_before keys rows others)

-- choices of rows with one more, which comes before the first that it is before
abbrev pub insert_by_keys : List ℕ → List (Row Geometry) → List (List (Row Geometry)) → List (List (Row Geometry))
insert_by_keys keys rows [] = rows ∷ []
insert_by_keys keys rows (others ∷ more) =
    if comes_before keys rows others then rows ∷ others ∷ more else others ∷ insert_by_keys keys rows more

-- choices of rows by ascending keys: so the answers of parts are merged (this project's choice)
unfoldable pub by_keys : List ℕ → List (List (Row Geometry)) → List (List (Row Geometry))
by_keys keys [] = []
by_keys keys (rows ∷ more) = insert_by_keys keys rows (by_keys keys more)
