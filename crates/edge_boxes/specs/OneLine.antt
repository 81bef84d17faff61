-- Edges that share a stretch with an edge, on one line with it.
use Rattle.std.specs.Prelude.{ℕ, Bool, not, ◌&&◌, ◌||◌, List}
use Rattle.std.specs.List.{list_any}
use Rattle.geometry_model.specs.Points.{Position}
use Rattle.geometry_model.specs.Geometries.{Edge}
use Rattle.geometry_model.specs.WellKnownText.{same_position}
use Rattle.geometry_model.specs.Sides.{on_one_line}
use Rattle.geometry_model.specs.FirstFaults.{share_point, share_other}
use Rattle.edge_boxes.specs.EdgeTests.{NonePasses, EndsPassing}
use Rattle.edge_boxes.specs.declared.kept_runs.Run.{Run}

-- the position is an end of the second edge, and the edges share no other point; it is an end of the first edge too
abbrev pub touch_at : Position → Edge → Edge → Bool
touch_at c e f = (same_position c f.start || same_position c f.end) && not (share_other c e f)

-- two edges share a common end and no other point
abbrev pub touch : Edge → Edge → Bool
touch e f = touch_at e.start e f || touch_at e.end e f

-- two edges are on one line and share more than a common end
abbrev pub overlap_on_one_line : Edge → Edge → Bool
overlap_on_one_line e f = on_one_line e f && share_point e f && not (touch e f)

-- an edge of the one list overlaps one of the other
abbrev pub edges_overlap : List Edge → List Edge → Bool
edges_overlap r s = list_any (λ e. list_any (overlap_on_one_line e) s) r

-- the edge before this place overlaps one of the others
abbrev pub EndsOverlapping : List Edge → List Edge → ℕ → Type 0
EndsOverlapping others = EndsPassing (λ e. list_any (overlap_on_one_line e) others)

-- the edge shares no point with any edge of the run, whatever these are
abbrev pub SharesNone : Run → Edge → Type 0
SharesNone run e = NonePasses (share_point e) run
