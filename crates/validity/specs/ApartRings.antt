-- Rings that share no point.
use Rattle.std.specs.Prelude.{◌≡◌, false, List, [], ◌∷◌, map, Option, Some}
use Rattle.std.specs.List.{list_any}
use Rattle.geometry_model.specs.Points.{Position}
use Rattle.geometry_model.specs.Geometries.{Edge}
use Rattle.geometry_model.specs.Envelopes.{Envelope}
use Rattle.geometry_model.specs.FirstFaults.{rings_share}
use Rattle.edge_boxes.specs.RunLaws.{box_of}

-- no ring shares a point with a later one (06-103r4, 6.1.11.1 and 6.1.14)
abbrev pub AreApart : List (List Position) → Type 0
AreApart [] = Unit {0}
AreApart (r ∷ rs) = (list_any (rings_share r) rs ≡ false) × AreApart rs

-- the envelopes of some edges (06-103r4, 6.1.2.2: Envelope)
abbrev pub edge_envelopes : List Edge → List (Option Envelope)
edge_envelopes edges = map (λ e. Some (box_of e)) edges
