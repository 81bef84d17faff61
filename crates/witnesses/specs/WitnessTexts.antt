-- The lines that show the cells of a matrix (06-103r4, 6.1.15.2; the words: this project's choice).
use Rattle.std.specs.Prelude.{ℕ, List, [], ◌∷◌, ◌++◌, map, codes}
use Rattle.std.specs.List.{concat}
use Rattle.geometry_model.specs.Patterns.{dimension_character}
use Rattle.geometry_model.specs.declared.point_sets.Location.{Location}
use Rattle.geometry_model.specs.declared.point_sets.Location.TheVariants.{Interior, Boundary, Exterior}
use Rattle.witnesses.specs.Shown.{shown_dimension}
use Rattle.witnesses.specs.declared.witness.Witness.{Witness}
use Rattle.witnesses.specs.declared.witness.Witness.TheVariants as kinds
use Rattle.witnesses.specs.PointTexts.{fractions_text}

-- the word for a part of the plane
abbrev pub location_text : Location → List ℕ
location_text Interior = codes "interior"
location_text Boundary = codes "boundary"
location_text Exterior = codes "exterior"

-- where a witness is, and nothing of no witness
abbrev pub witness_place_text : Witness → List ℕ
witness_place_text kinds.Nothing = []
witness_place_text (kinds.Point p) = codes " at " ++ fractions_text p
witness_place_text (kinds.Stretch p q) = codes " from " ++ fractions_text p ++ codes " to " ++ fractions_text q
witness_place_text (kinds.Around p) = codes " around " ++ fractions_text p

-- the dimension that a witness shows, and where it is
abbrev pub cell_text : Witness → List ℕ
cell_text w = dimension_character (shown_dimension w) ∷ witness_place_text w

-- the line of a part of the first geometry and a part of the second
abbrev pub witness_line : Location → Location → Witness → List ℕ
witness_line l k w = location_text l ++ codes " " ++ location_text k ++ codes " " ++ cell_text w ++ codes "\n"

-- the parts of the plane in the order of the matrix (06-103r4, 6.1.15.2)
abbrev pub locations : List Location
locations = Interior ∷ Boundary ∷ Exterior ∷ []

-- the lines of a part of the first geometry
abbrev pub row_text : (Location → Location → Witness) → Location → List ℕ
row_text w l = concat (map (λ k. witness_line l k (w l k)) locations)

-- the nine lines, by rows of the matrix (06-103r4, 6.1.15.2)
abbrev pub witnesses_text : (Location → Location → Witness) → List ℕ
witnesses_text w = concat (map (row_text w) locations)
