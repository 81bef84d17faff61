-- The limit of the number whose sign is a side.
use Rattle.std.specs.Prelude.{ℕ, ◌*◌}
use Rattle.geometry_model.specs.WellKnownText.{coordinate_limit}
use Rattle.fraction.specs.Ranges.{denominator_limit}

-- the greatest number whose sign is the side of a point: twice the product of a step and of what lies beyond its start
abbrev pub side_limit : ℕ
side_limit = 8 * coordinate_limit * coordinate_limit * denominator_limit
