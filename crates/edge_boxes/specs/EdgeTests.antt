-- Tests of edges, and walks through a list of boxes that look for an edge that passes one.
use Rattle.std.specs.Prelude.{◌≡◌, ℕ, ◌-◌, ◌<◌, ◌≤◌, Bool, true, false, List, ◌++◌, drop, get_or, slice_range}
use Rattle.std.specs.List.{list_any}
use Rattle.geometry_model.specs.Geometries.{Edge}
use Rattle.edge_boxes.specs.BoxLists.{covered}
use Rattle.edge_boxes.specs.EdgeRuns.{SumsUp}
use Rattle.edge_boxes.specs.declared.boxes.EdgeBox.{EdgeBox}
use Rattle.edge_boxes.specs.declared.kept_runs.Run.{Run}

-- no edge of the run passes the test, whatever these are
abbrev pub NonePasses : (Edge → Bool) → Run → Type 0
NonePasses test run = (es : List Edge) → SumsUp run es → list_any test es ≡ false

-- a step to an earlier place returns whether one of the edges between passes the test
pub record IsTestStep (boxes : List EdgeBox) (edges : List Edge) (test : Edge → Bool) (place next : ℕ) (found : Bool) : Type 0 where
  pub earlier : next < place
  pub own : List Edge
  pub split : drop (covered boxes next) edges ≡ own ++ drop (covered boxes place) edges
  pub said : found ≡ list_any test own

-- the edge before this place passes the test
abbrev pub EndsPassing : (Edge → Bool) → List Edge → ℕ → Type 0
EndsPassing test edges place = (e : Edge) → e ≡ get_or edges (place - 1) e → test e ≡ true

-- a step to an earlier place leads back over edges that don't pass, up to one that does or to where the boxes before that place end
pub record IsStepBack (boxes : List EdgeBox) (edges : List Edge) (test : Edge → Bool) (place left next before : ℕ) : Type 0 where
  pub earlier : next < place
  pub back : before ≤ left
  pub none : list_any test (slice_range edges before left) ≡ false
  pub last : covered boxes next < before → EndsPassing test edges before
