-- Edges near an envelope.
use Rattle.std.specs.Prelude.{ℕ, Bool, List}
use Rattle.geometry_model.specs.Geometries.{Edge}
use Rattle.geometry_model.specs.Envelopes.{Envelope, overlap}
use Rattle.edge_boxes.specs.RunLaws.{box_of}
use Rattle.edge_boxes.specs.EdgeTests.{EndsPassing}

-- the edge's rectangle overlaps the envelope
abbrev pub is_near : Envelope → Edge → Bool
is_near around e = overlap (box_of e) around

-- the edge before this place is near
abbrev pub EndsNear : Envelope → List Edge → ℕ → Type 0
EndsNear around = EndsPassing (is_near around)
