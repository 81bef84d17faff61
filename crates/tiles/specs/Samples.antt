-- Samples of the least corners of the geometries in a column: of each so many rows with an envelope the first (this project's choice).
use Rattle.std.specs.Prelude.{◌≡◌, ◌⊎◌, ℕ, ◌+◌, ◌*◌, ◌^◌, ◌<◌, ◌≤◌, List, [], ◌∷◌, Option, None, Some, get_or, length, slice_get}
use Rattle.geometry_model.specs.Envelopes.{Envelope, envelope}
use Rattle.geometry_model.specs.Geometries.{Geometry}
use Rattle.geometry_model.specs.Points.{Position}
use Rattle.table_model.specs.declared.values.Value.{Value}
use Rattle.table_model.specs.declared.values.Value.TheVariants as value
use Rattle.tiles.specs.declared.sampling.Sampler.{Sampler}

-- the least corner of an envelope, if there is one
abbrev pub corner_of : Option Envelope → List Position
corner_of None = []
corner_of (Some e) = record { x = e.least_x; y = e.least_y } ∷ []

-- the least corner of the envelope of a geometry, if a field holds one that isn't empty
abbrev pub corner_in_field : Option (Value Geometry) → List Position
corner_in_field None = []
corner_in_field (Some value.Null) = []
corner_in_field (Some (value.Integer n)) = []
corner_in_field (Some (value.Text text)) = []
corner_in_field (Some (value.Geometry g)) = corner_of (envelope g)

-- the least corner of the envelope of the geometry in a column of a row, if there is one
abbrev pub corner_in_row : ℕ → List (Value Geometry) → List Position
corner_in_row column row = corner_in_field (slice_get row column)

-- of each `n` in a list the first is kept, and nothing else: place `i` of what is kept has what place `i * n` of the list has
pub record IsFirstOfEach {A : Type 0} (n : ℕ) (all kept : List A) : Type 0 where
  pub same : (i : ℕ) (d : A) → i < length kept → get_or kept i d ≡ get_or all (i * n) d
  pub reach : length all ≤ length kept * n
  pub none_more : length kept * n < length all + n

-- a number is a power of two
abbrev pub IsPowerOfTwo : ℕ → Type 0
IsPowerOfTwo n = (k : ℕ) × (n ≡ 2 ^ k)

-- a sampler has kept, of each `stride` of these corners, the first
pub record Samples (all : List Position) (sampler : Sampler) : Type 0 where
  pub power : IsPowerOfTwo sampler.stride
  pub kept : IsFirstOfEach sampler.stride all sampler.corners.items

-- a sampler has seen these corners, and is ready for more: it leaves out so many that the next one kept is the first of the next `stride`;
-- it keeps no more than 16,384, unless the stride can't be doubled
pub record IsSampleOf (all : List Position) (sampler : Sampler) : Type 0 where
  pub sampled : Samples all sampler
  pub left_out : length all + sampler.since ≡ length sampler.corners.items * sampler.stride
  pub few : (length sampler.corners.items ≤ 16384) ⊎ (2 ^ 63 ≤ sampler.stride)
