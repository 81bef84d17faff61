-- What the tests of runs of edges say of rings and polygons.
use Rattle.std.specs.Prelude.{◌≡◌, true, List, ◌∷◌}
use Rattle.geometry_model.specs.Points.{Position}
use Rattle.geometry_model.specs.Geometries.{Edge, edges_of_line, edges_of_lines}
use Rattle.geometry_model.specs.Envelopes.{Envelope, envelope_at, joined, overlap}
use Rattle.geometry_model.specs.Validity.{inside, inside_element}
use Rattle.geometry_model.specs.FirstFaults.{share_point, is_not_simple, rings_share, elements_share}
use Rattle.edge_boxes.specs.RingEdges.{edges_share, edges_clash, is_odd_above}

-- a ring is simple, and two rings share a point, by their edges (06-103r4, 6.1.7 and 6.1.11.1)
abbrev pub RingsByTheirEdges : Type 0
RingsByTheirEdges = (r s : List Position) → (is_not_simple r ≡ edges_clash (edges_of_line r)) × (rings_share r s ≡ edges_share (edges_of_line r) (edges_of_line s))

-- two polygons share a point of their rings by all their edges (06-103r4, 6.1.14)
abbrev pub PolygonsByTheirEdges : Type 0
PolygonsByTheirEdges = (d e : List (List Position)) → elements_share d e ≡ edges_share (edges_of_lines d) (edges_of_lines e)

-- a ring is inside another, and a polygon inside another, by its first position and the other's edges (06-103r4, 6.1.11.1 and 6.1.14)
abbrev pub InsideByEdges : Type 0
InsideByEdges = (p : Position) (ps outer : List Position) (holes other : List (List Position)) → (inside outer (p ∷ ps) ≡ is_odd_above (edges_of_line outer) p)
    × (inside_element other ((p ∷ ps) ∷ holes) ≡ is_odd_above (edges_of_lines other) p)

-- the smallest rectangle along the axes that holds an edge (06-103r4, 6.1.2.2: Envelope)
abbrev pub box_of : Edge → Envelope
box_of e = joined (envelope_at e.start) (envelope_at e.end)

-- edges that share a point have rectangles that overlap
abbrev pub SharingBoxesOverlap : Type 0
SharingBoxesOverlap = (e f : Edge) → share_point e f ≡ true → overlap (box_of e) (box_of f) ≡ true
