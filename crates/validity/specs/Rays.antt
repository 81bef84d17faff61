-- Rays from the first positions of rings and polygons, and which of these positions edges surround.
use Rattle.std.specs.Prelude.{◌≡◌, ◌≢◌, ℕ, pos, ◌-ℤ◌, Bool, true, false, List, [], ◌∷◌, map, Option, Some, None, slice_get, ℤ, count_by}
use Rattle.geometry_model.specs.Points.{Position, Point, point_at}
use Rattle.geometry_model.specs.Geometries.{Geometry, Edge, lines, elements}
use Rattle.geometry_model.specs.Crossings.{exactly_one, odd, spans, strictly_above}
use Rattle.geometry_model.specs.Envelopes.{Envelope, envelope_of_positions}
use Rattle.geometry_model.specs.WellKnownText.{coordinate_limit}
use Rattle.edge_boxes.specs.RingEdges.{is_odd_above}
use Rattle.validity.specs.declared.first_positions.Way.{Way}
use Rattle.validity.specs.declared.first_positions.Way.TheVariants.{Up, Down}

-- the y at which a ray ends
abbrev pub last_y : Way → ℤ
last_y Up = pos coordinate_limit
last_y Down = pos 0 -ℤ pos coordinate_limit

-- the last position of a ray from a position
abbrev pub far_end : Way → Position → Position
far_end way p = record { x = p.x; y = last_y way }

-- the envelope of the ray from a position, if there is one
abbrev pub ray : Way → Option Position → Option Envelope
ray way None = None
ray way (Some p) = envelope_of_positions (p ∷ far_end way p ∷ [])

-- the edge spans a position, and lies above it for a ray upwards, at it or below it for one downwards
abbrev pub faces : Way → Edge → Position → Bool
faces Up e p = strictly_above e (point_at p)
faces Down e p = exactly_one (spans e (point_at p)) (strictly_above e (point_at p))

-- an even number of the edges span each point, as the edges of closed rings do
abbrev pub SpanEvenly : List Edge → Type 0
SpanEvenly edges = (p : Point) → odd (count_by (λ e. spans e p) edges) ≡ false

-- the first position of a ring
abbrev pub first_of_ring : List Position → Option Position
first_of_ring [] = None
first_of_ring (p ∷ ps) = Some p

-- the first position of a polygon's outer ring
abbrev pub first_of_element : List (List Position) → Option Position
first_of_element [] = None
first_of_element (ring ∷ holes) = first_of_ring ring

-- the first positions of a geometry's lines or rings, by their numbers
abbrev pub line_firsts : Geometry → List (Option Position)
line_firsts g = map first_of_ring (lines g)

-- the first positions of an area's polygons, by their numbers
abbrev pub element_firsts : Geometry → List (Option Position)
element_firsts g = map first_of_element (elements g)

-- no position, but for that with one's own number, is inside a ring or polygon of these edges (06-103r4, 6.1.11.1 and 6.1.14)
abbrev pub SurroundNone : List Edge → List (Option Position) → ℕ → Type 0
SurroundNone edges firsts own = (number : ℕ) (p : Position) → number ≢ own → slice_get firsts number ≡ Some (Some p)
    → is_odd_above edges p ≡ false

-- no position that an edge faces is, but for one's own
abbrev pub SurroundNoneFaced : Way → Edge → List Edge → List (Option Position) → ℕ → Type 0
SurroundNoneFaced way edge edges firsts own = (number : ℕ) (p : Position) → number ≢ own → slice_get firsts number ≡ Some (Some p)
    → faces way edge p ≡ true → is_odd_above edges p ≡ false

-- no position with one of these numbers is, but for one's own
abbrev pub SurroundNoneAt : List Edge → List (Option Position) → ℕ → List ℕ → Type 0
SurroundNoneAt edges firsts own numbers = (place number : ℕ) (p : Position) → slice_get numbers place ≡ Some number
    → number ≢ own → slice_get firsts number ≡ Some (Some p) → is_odd_above edges p ≡ false
