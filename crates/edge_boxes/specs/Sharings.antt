-- The places of edges that share a point with another.
use Rattle.std.specs.Prelude.{◌≡◌, ℕ, suc, ◌+◌, ◌<◌, Bool, ◌&&◌, cond, List, [], ◌∷◌, ◌++◌, length, drop, reverse, nat_le}
use Rattle.geometry_model.specs.Geometries.{Edge}
use Rattle.geometry_model.specs.FirstFaults.{share_point}
use Rattle.edge_boxes.specs.RunLaws.{box_of}
use Rattle.edge_boxes.specs.BoxLists.{covered}
use Rattle.edge_boxes.specs.declared.boxes.EdgeBox.{EdgeBox}
use Rattle.edge_boxes.specs.declared.sharing_edges.Asked.{Asked}

-- the edge at this place is asked for: it isn't before the first one, and it shares a point with the one asked about
abbrev pub is_asked : Asked → ℕ → Edge → Bool
is_asked asked place e = nat_le asked.from place && share_point asked.edge e

-- the places of the edges asked for, ascending, where the first of these edges is at this place
abbrev pub places_asked : Asked → ℕ → List Edge → List ℕ
places_asked asked place [] = []
places_asked asked place (e ∷ es) = cond (is_asked asked place e) (place ∷ places_asked asked (suc place) es) (places_asked asked (suc place) es)

-- the places, from this one on, of the edges that share a point with an edge, ascending
abbrev pub places_sharing : Edge → ℕ → List Edge → List ℕ
places_sharing e from edges = places_asked (record { edge = e; bounds = box_of e; from = from }) 0 edges

-- a step to an earlier place adds the places between that are asked for, descending
pub record IsAskedStep (boxes : List EdgeBox) (edges : List Edge) (asked : Asked) (place next : ℕ) (old new : List ℕ) : Type 0 where
  pub earlier : next < place
  pub own : List Edge
  pub split : drop (covered boxes next) edges ≡ own ++ drop (covered boxes place) edges
  pub count : covered boxes next + length own ≡ covered boxes place
  pub found : new ≡ old ++ reverse (places_asked asked (covered boxes next) own)
