-- The extent of positions, before there is a grid: the least and the greatest of the exact values of their doubles.
use Rattle.std.specs.Prelude.{ℤ, List, Option, Some, None}
use Rattle.std.specs.Int.{int_min, int_max}
use Rattle.std.specs.List.{fold}
use Rattle.wkb.specs.Doubles.{value}
use Rattle.wkb.specs.declared.extents.Extent.{Extent}
use Rattle.wkb.specs.declared.pairs.Pair.{Pair}

-- the least x, the greatest x, the least y and the greatest y, counted in the least double above 0
pub record Reach : Type 0 where
  pub least_x : ℤ
  pub greatest_x : ℤ
  pub least_y : ℤ
  pub greatest_y : ℤ

-- the values of four doubles
abbrev pub reach_in : Extent → Reach
reach_in e = record { least_x = value e.least_x; greatest_x = value e.greatest_x; least_y = value e.least_y; greatest_y = value e.greatest_y }

-- one position more, behind others or none
abbrev pub widened : Option Reach → Pair → Option Reach
widened None p = Some (record { least_x = value p.x; greatest_x = value p.x; least_y = value p.y; greatest_y = value p.y })
widened (Some r) p = Some (record {
  least_x = int_min r.least_x (value p.x);
  greatest_x = int_max r.greatest_x (value p.x);
  least_y = int_min r.least_y (value p.y);
  greatest_y = int_max r.greatest_y (value p.y);
})

-- so many positions more (06-103r4, 6.1.2.2: Envelope)
abbrev pub reach_with : Option Reach → List Pair → Option Reach
reach_with before ps = fold widened before ps
