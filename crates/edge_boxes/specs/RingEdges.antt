-- Tests of runs of edges: those of a ring, of a polygon, or of a part of one.
use Rattle.std.specs.Prelude.{ℕ, Bool, List, length, drop, count_by}
use Rattle.std.specs.List.{list_any, enumerate_from}
use Rattle.geometry_model.specs.Points.{Position, point_at}
use Rattle.geometry_model.specs.Geometries.{Edge}
use Rattle.geometry_model.specs.Crossings.{odd, strictly_above}
use Rattle.edge_boxes.specs.EdgeTests.{EndsPassing}
use Rattle.geometry_model.specs.FirstFaults.{share_point, clash, any_pair}

-- an edge of the one run and one of the other share a point (06-103r4, 6.1.11.1 and 6.1.14)
abbrev pub edges_share : List Edge → List Edge → Bool
edges_share r s = list_any (λ e. list_any (share_point e) s) r

-- the edge before this place shares a point with one of the others
abbrev pub EndsSharing : List Edge → List Edge → ℕ → Type 0
EndsSharing others = EndsPassing (λ e. list_any (share_point e) others)

-- an odd number of the edges lie strictly above the position (06-103r4, 6.1.11.1: inside)
abbrev pub is_odd_above : List Edge → Position → Bool
is_odd_above edges at = odd (count_by (λ e. strictly_above e (point_at at)) edges)

-- the edge with this number clashes with one from a place on
abbrev pub clashes_after : List Edge → ℕ → Edge → ℕ → Bool
clashes_after edges i e from = list_any (clash (length edges) (i, e)) (enumerate_from from (drop from edges))

-- two of the edges from a place on clash
abbrev pub clash_after : List Edge → ℕ → Bool
clash_after edges from = any_pair (clash (length edges)) (enumerate_from from (drop from edges))

-- two of the edges of a ring clash (06-103r4, 6.1.6.1: simple)
abbrev pub edges_clash : List Edge → Bool
edges_clash edges = any_pair (clash (length edges)) (enumerate_from 0 edges)
