-- Lists of boxes while they are built.
use Rattle.std.specs.Prelude.{◌≡◌, ◌⊎◌, ℕ, ◌-◌, ◌<◌, ◌≤◌, List, length, Option, Some, IfSome, slice_get, slice_range}
use Rattle.geometry_model.specs.Geometries.{Edge}
use Rattle.edge_boxes.specs.BoxLists.{AreBoxes, IsBoxAt, IsRun, covered}
use Rattle.edge_boxes.specs.Strips.{IsStripOf}
use Rattle.edge_boxes.specs.declared.kept_runs.Run.{Run}
use Rattle.edge_boxes.specs.declared.strips.Strip.{Strip}
use Rattle.edge_boxes.specs.declared.boxes.EdgeBox.{EdgeBox}

-- the place of the first edge that no box is over
abbrev pub covered_by_all : List EdgeBox → ℕ
covered_by_all boxes = covered boxes (length boxes)

-- what were boxes of some edges still are, and they are over the same edges
abbrev pub KeepsBoxes : List EdgeBox → List EdgeBox → Type 0
KeepsBoxes old new = (edges : List Edge) → AreBoxes old edges → AreBoxes new edges × (covered_by_all new ≡ covered_by_all old)

-- the next leaf begins where the boxes end, or there are no more
pub record IsNextFirst (boxes : List EdgeBox) (edges : List Edge) (first next : ℕ) : Type 0 where
  pub later : first < next
  pub from : (covered_by_all boxes ≡ next) ⊎ (length edges ≡ next)
  pub within : next ≤ length edges

-- the box may follow these boxes, and is over no further edge
abbrev pub IsNextBox : List EdgeBox → EdgeBox → Type 0
IsNextBox boxes b = (edges : List Edge) → AreBoxes boxes edges → IsBoxAt edges boxes (length boxes) b × (b.end ≡ covered_by_all boxes)

-- the run sums up the edges of the boxes from a place on
abbrev pub IsRunFrom : List EdgeBox → Run → ℕ → Type 0
IsRunFrom boxes run place = (edges : List Edge) → AreBoxes boxes edges → IsRun edges run (covered boxes place) (covered_by_all boxes)

-- the strip, if there is one, is that of the edges of the box at this place
abbrev pub IsStripAt : List EdgeBox → List Edge → ℕ → Option Strip → Type 0
IsStripAt boxes edges place strip = (b : EdgeBox) → slice_get boxes place ≡ Some b → IfSome strip (λ s. IsStripOf s (slice_range edges (covered boxes (place - b.size)) b.end))
