-- Envelopes: the smallest rectangle along the axes that holds a geometry.
use Rattle.std.specs.Prelude.{Bool, true, false, ◌&&◌, List, [], ◌∷◌, Option, Some, None, ℤ, int_le}
use Rattle.std.specs.Int.{int_min, int_max}
use Rattle.geometry_model.specs.Points.{Position}
use Rattle.geometry_model.specs.Geometries.{Geometry, positions}

-- the least and the greatest x and y of some positions (06-103r4, 6.1.2.2: Envelope)
pub record Envelope : Type 0 where
  pub least_x : ℤ
  pub greatest_x : ℤ
  pub least_y : ℤ
  pub greatest_y : ℤ

-- the envelope of one position (06-103r4, 6.1.2.2: Envelope)
abbrev pub envelope_at : Position → Envelope
envelope_at a = record { least_x = a.x; greatest_x = a.x; least_y = a.y; greatest_y = a.y }

-- the smallest envelope that holds both (06-103r4, 6.1.2.2: Envelope)
abbrev pub joined : Envelope → Envelope → Envelope
joined e f = record {
  least_x = int_min e.least_x f.least_x;
  greatest_x = int_max e.greatest_x f.greatest_x;
  least_y = int_min e.least_y f.least_y;
  greatest_y = int_max e.greatest_y f.greatest_y;
}

-- the envelope of a position and of those in an envelope, if there is one (06-103r4, 6.1.2.2: Envelope)
abbrev pub with_position : Position → Option Envelope → Envelope
with_position a None = envelope_at a
with_position a (Some e) = joined (envelope_at a) e

-- the envelope of positions; of none it is absent (06-103r4, 6.1.2.2: Envelope)
abbrev pub envelope_of_positions : List Position → Option Envelope
envelope_of_positions [] = None
envelope_of_positions (a ∷ rest) = Some (with_position a (envelope_of_positions rest))

-- the envelope of a geometry; that of an empty one is absent (06-103r4, 6.1.2.2: Envelope)
abbrev pub envelope : Geometry → Option Envelope
envelope g = envelope_of_positions (positions g)

-- the rectangles share a point, be it on their sides
abbrev pub overlap : Envelope → Envelope → Bool
overlap e f =
    int_le e.least_x f.greatest_x
    && int_le f.least_x e.greatest_x
    && int_le e.least_y f.greatest_y
    && int_le f.least_y e.greatest_y

-- two envelopes meet: both are absent, or both are there and overlap
abbrev pub meets : Option Envelope → Option Envelope → Bool
meets None None = true
meets None (Some f) = false
meets (Some e) None = false
meets (Some e) (Some f) = overlap e f
