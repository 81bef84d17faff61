-- Edges that share no point don't overlap.
use Rattle.std.proofs.Common.{◌≡◌, refl, ap, ap₂, Bool, false, not, ◌&&◌, ◌||◌, List, [], ◌∷◌}
use Rattle.std.specs.List.{list_any}
use Rattle.std.proofs.lemmas.Bool.{and_right, or_parts}
use Rattle.geometry_model.specs.Geometries.{Edge}
use Rattle.geometry_model.specs.Sides.{on_one_line}
use Rattle.geometry_model.specs.FirstFaults.{share_point}
use Rattle.edge_boxes.specs.OneLine.{touch, overlap_on_one_line, edges_overlap}
use Rattle.edge_boxes.specs.RingEdges.{edges_share}

-- edges that share no point with an edge don't overlap it
pub none_on_line : (e : Edge) (es : List Edge) → list_any (share_point e) es ≡ false
    → list_any (overlap_on_one_line e) es ≡ false
none_on_line e [] h = refl
none_on_line e (f ∷ fs) h =
    let parts = or_parts (share_point e f) (list_any (share_point e) fs) h in
    ap₂ (λ (x y : Bool). x || y) (ap (λ (b : Bool). b && not (touch e f)) (and_right (on_one_line e f) (share_point e f) parts.0))
    (none_on_line e fs parts.1)

-- nor do several such edges
pub none_overlap : (es others : List Edge) → edges_share es others ≡ false → edges_overlap es others ≡ false
none_overlap [] others h = refl
none_overlap (e ∷ es) others h =
    let parts = or_parts (list_any (share_point e) others) (edges_share es others) h in
    ap₂ (λ (x y : Bool). x || y) (none_on_line e others parts.0) (none_overlap es others parts.1)
