-- Runs of edges none of which shares a stretch with an edge of the other geometry.
use Rattle.std.proofs.Common.{◌≡◌, false, ℕ, List}
use Rattle.std.specs.Prelude.{slice_range}
use Rattle.std.specs.List.{All, Contains, list_any}
use Rattle.std.proofs.lemmas.List.Elements.{All-weaker, All-contains, All-contains_itself}
use Rattle.geometry_model.specs.Geometries.{Edge, Geometry, kind, edges}
use Rattle.geometry_model.specs.Dimensions.{Matrix}
use Rattle.geometry_model.specs.Validity.{IsValid}
use Rattle.geometry_model.specs.declared.point_sets.Dimension.TheVariants.{Zero}
use Rattle.geometry_laws.proofs.Each.{each_at, none_passed}
use Rattle.geometry_laws.proofs.Cuts.{contains_of_among}
use Rattle.edge_boxes.specs.OneLine.{overlap_on_one_line}
use Rattle.edge_boxes.specs.OneLine.{edges_overlap}
use Rattle.noding.proofs.Shared.{none_shares}
use Rattle.validity.specs.ValidGeometries.{HasLength}
use Rattle.matrix_laws.specs.Cells.{Covers, Shows}
use Rattle.matrix_laws.specs.Gaps.{of_own_edges}
use Rattle.matrix_laws.specs.Covering.{ShowsEnds}
use Rattle.matrix_laws.specs.CoveringLaws.{IsFullOff}
use Rattle.matrix_laws.proofs.CoveringTheorems.{full_off_covers}
use Rattle.matrix_laws.proofs.MatrixLists.{among_from_contains}
use Rattle.de9im.proofs.OutsideEdges.{from_part}

-- a matrix that shows all that gaps off the other's edges can show, and that both geometries' edges meet, covers each of them
pub no_stretch_covers : (a b : Geometry) → IsValid a → IsValid b → All HasLength (edges a) → (m : Matrix) → ShowsEnds a b m
    → ((e : Edge) → IsFullOff a b m e) → Shows m (of_own_edges (kind a)) (of_own_edges (kind b)) Zero → (first end : ℕ)
    → edges_overlap (slice_range (edges a) first end) (edges b) ≡ false → All (Covers a b m) (slice_range (edges a) first end)
no_stretch_covers a b va vb long m t full meets first end none = All-weaker (Contains part) (Covers a b m) covered part
    (All-contains_itself part)
  where
    part : List Edge
    part = slice_range (edges a) first end

    covered : (e : Edge) → Contains part e → Covers a b m e
    covered e own =
        let among = among_from_contains part e own in
        let in_all = contains_of_among e (edges a) (from_part (edges a) first end e among) in
        full_off_covers a b va vb e in_all (All-contains HasLength (edges a) e long in_all) m t (full e) meets
        (none_shares e (edges b) (each_at (λ d. list_any (overlap_on_one_line d) (edges b) ≡ false) part e
        (none_passed (λ d. list_any (overlap_on_one_line d) (edges b)) part none) among))
