-- What is asked of kept geometries.
use Rattle.std.specs.Prelude.{◌≡◌, ◌⊎◌, ℕ, ℤ, nat_le, cond, Bool, List, [], ◌∷◌, Some, length}
use Rattle.std.specs.Option.{option_map_or}
use Rattle.fraction.specs.Ranges.{IsOnGrid}
use Rattle.geometry_model.specs.Dimensions.{IsMatrix, Matrix}
use Rattle.geometry_model.specs.Envelopes.{Envelope}
use Rattle.geometry_model.specs.Geometries.{Geometry, kind}
use Rattle.geometry_model.specs.Locations.{locate}
use Rattle.geometry_model.specs.Patterns.{matches, matrix_text, pattern_of_text}
use Rattle.geometry_model.specs.Points.{Position, point_at}
use Rattle.geometry_model.specs.declared.relations.Pattern.{Pattern}
use Rattle.library_calls.specs.Numbers.{location_number}
use Rattle.library_calls.specs.Refusals.{ok, too_small, unknown}
use Rattle.library_calls.specs.Relations.{relation_holds, relation_of}
use Rattle.library_calls.specs.declared.relations.Relation.{Relation}

-- the nine characters are those of the matrix of two geometries (06-103r4, 6.1.15.2)
pub record HasMatrix (one other : Geometry) (text : List ℕ) : Type 0 where
  pub matrix : Matrix
  pub is_matrix : IsMatrix one other matrix
  pub characters : text ≡ matrix_text matrix

-- the number is a relation's, and this is whether it holds of two geometries (06-103r4, 6.1.15.3)
pub record HasRelation (number : ℕ) (one other : Geometry) (answer : Bool) : Type 0 where
  pub relation : Relation
  pub matrix : Matrix
  pub is_relation : relation_of number ≡ Some relation
  pub is_matrix : IsMatrix one other matrix
  pub exact : answer ≡ relation_holds relation (kind one) (kind other) matrix

-- the text is a pattern, and this is whether the matrix of two geometries matches it (06-103r4, 6.1.15.2)
pub record Matches (text : List ℕ) (one other : Geometry) (answer : Bool) : Type 0 where
  pub pattern : Pattern
  pub matrix : Matrix
  pub is_pattern : pattern_of_text text ≡ Some pattern
  pub is_matrix : IsMatrix one other matrix
  pub exact : answer ≡ matches pattern matrix

-- the status of a relation's number where memory is enough
abbrev pub status_of_relation : ℕ → ℕ
status_of_relation number = option_map_or (λ _. ok) (relation_of number) unknown

-- the status of a pattern where memory is enough
abbrev pub status_of_pattern : List ℕ → ℕ
status_of_pattern text = option_map_or (λ _. ok) (pattern_of_text text) unknown

-- the status of writing items, as the bytes of a text, where the room is given
abbrev pub status_of_room : {A : Type 0} → List A → List A → ℕ
status_of_room items room = cond (nat_le (length items) (length room)) ok too_small

-- the position of two coordinates
abbrev pub position : ℤ → ℤ → Position
position x y = record { x = x; y = y }

-- the number is that of where the position lies in the geometry (06-103r4, 6.1.15.2)
abbrev pub LiesAt : Geometry → ℤ → ℤ → ℕ → Type 0
LiesAt g x y place = place ≡ location_number (locate g (point_at (position x y)))

-- the position is on the grid, or it isn't and the status says so (06-103r4, 6.1.4; the limit: this project's choice)
abbrev pub IsStatusOfPosition : ℤ → ℤ → ℕ → Type 0
IsStatusOfPosition x y status = (IsOnGrid (position x y) × (status ≡ ok)) ⊎ (¬ (IsOnGrid (position x y)) × (status ≡ unknown))

-- the four bounds of an envelope (06-103r4, 6.1.2.2: Envelope)
abbrev pub bounds_of : Envelope → List ℤ
bounds_of e = e.least_x ∷ e.greatest_x ∷ e.least_y ∷ e.greatest_y ∷ []
