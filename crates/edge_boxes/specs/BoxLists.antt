-- Lists of boxes over consecutive edges. Each box comes after the boxes of its subtree, and has their number.
use Rattle.std.specs.Prelude.{◌≡◌, ◌⊎◌, ℕ, zero, suc, ◌-◌, ◌≤◌, List, [], ◌++◌, length, drop}
use Rattle.std.specs.Prelude.{Option, Some, None, IfSome, IsPermutation, slice_get}
use Rattle.geometry_model.specs.Geometries.{Edge}
use Rattle.edge_boxes.specs.EdgeRuns.{SumsUp}
use Rattle.edge_boxes.specs.Chains.{AreBreaks}
use Rattle.edge_boxes.specs.declared.kept_runs.Run.{Run}
use Rattle.edge_boxes.specs.declared.boxes.EdgeBox.{EdgeBox}
use Rattle.edge_boxes.specs.declared.boxes.EdgeBoxes.{EdgeBoxes}
use Rattle.edge_boxes.specs.declared.reordering.Reordered.{Reordered}
use Rattle.edge_boxes.specs.declared.parts.Parts.{Parts}
use Rattle.edge_boxes.specs.declared.parts.Parts.TheVariants as parts

-- where a box's run ends
abbrev pub end_of : Option EdgeBox → ℕ
end_of None = 0
end_of (Some b) = b.end

-- the place of the first edge that no box before this place is over
abbrev pub covered : List EdgeBox → ℕ → ℕ
covered boxes zero = 0
covered boxes (suc place) = end_of (slice_get boxes place)

-- the run sums up the edges from one place to before another
pub record IsRun (edges : List Edge) (run : Run) (first end : ℕ) : Type 0 where
  pub own : List Edge
  pub split : drop first edges ≡ own ++ drop end edges
  pub sums : SumsUp run own
  pub ordered : first ≤ end
  pub within : end ≤ length edges

-- the box comes right after its subtree, and its run is that of all edges of the subtree
pub record IsBoxAt (edges : List Edge) (boxes : List EdgeBox) (place : ℕ) (b : EdgeBox) : Type 0 where
  pub subtree : b.size ≤ place
  pub run : IsRun edges b.run (covered boxes (place - b.size)) b.end
  pub last : (b.size ≡ 0) ⊎ (covered boxes place ≡ b.end)

-- each box is one of the edges' runs
abbrev pub AreBoxes : List EdgeBox → List Edge → Type 0
AreBoxes boxes edges = (place : ℕ) (b : EdgeBox) → slice_get boxes place ≡ Some b → IsBoxAt edges boxes place b

-- the copy has these edges, in some order, and its boxes are over them in this order
pub record IsReordered (r : Reordered) (edges : List Edge) : Type 0 where
  pub moved : IsPermutation edges r.edges.items
  pub boxes : AreBoxes r.boxes.items r.edges.items

-- the places of the edges that don't start where the edge before them ends
abbrev pub breaks_in : Parts → List ℕ
breaks_in parts.One = []
breaks_in (parts.Several several) = several.value.breaks.items

-- a copy in another order, if there is one, is of these edges
abbrev pub AreReordered : Parts → List Edge → Type 0
AreReordered parts.One edges = Unit {0}
AreReordered (parts.Several several) edges = IfSome several.value.reordered (λ r. IsReordered r edges)

-- the boxes are those of the edges, and so are the breaks and the copy in another order
pub record BoxesOf (s : EdgeBoxes) (edges : List Edge) : Type 0 where
  pub boxes : AreBoxes s.boxes.items edges
  pub breaks : AreBreaks (breaks_in s.parts) edges
  pub reordered : AreReordered s.parts edges
