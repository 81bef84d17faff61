-- An edge whose ends are both left of a position, or both right of it, shows nothing of it.
use Rattle.std.proofs.Common.{◌≡◌, ◌⊎◌, inl, inr, true, false, ◌&&◌, ◌||◌, refl, ◌∙◌, [], ◌∷◌, pos, int_lt}
use Rattle.std.proofs.lemmas.Bool.{and_parts, or_cases}
use Rattle.basics.proofs.Signs.{less_from, at_most_no}
use Rattle.geometry_model.specs.Points.{Position, point_at}
use Rattle.geometry_model.specs.Geometries.{Edge}
use Rattle.edge_boxes.specs.EdgeCrossings.{AreCrossings}
use Rattle.edge_boxes.proofs.EdgeSides.{IsOff, off_left, off_right}
use Rattle.edge_boxes.proofs.Floors.{floor_over_one, ceiling_over_one}
use Rattle.edge_boxes.proofs.Saying.{none_found}

pub beside_says : (e : Edge) (at : Position)
    → (int_lt e.start.x at.x && int_lt e.end.x at.x || int_lt at.x e.start.x && int_lt at.x e.end.x) ≡ true
    → AreCrossings (record { on = false; odd_above = false; odd_at_or_above = false }) (e ∷ []) (point_at at)
beside_says e at h = none_found (e ∷ []) (point_at at)
    (off (or_cases (int_lt e.start.x at.x && int_lt e.end.x at.x) (int_lt at.x e.start.x && int_lt at.x e.end.x) h), tt)
  where
    off : ((int_lt e.start.x at.x && int_lt e.end.x at.x) ≡ true) ⊎ ((int_lt at.x e.start.x && int_lt at.x e.end.x) ≡ true)
        → IsOff (point_at at) e
    off (inl k) =
        let both = and_parts (int_lt e.start.x at.x) (int_lt e.end.x at.x) k in
        let one = ceiling_over_one at.x (pos 1) at.x refl refl in
        off_left e (point_at at) (one e.start.x ∙ at_most_no at.x e.start.x (less_from e.start.x at.x both.0))
        (one e.end.x ∙ at_most_no at.x e.end.x (less_from e.end.x at.x both.1))
    off (inr k) =
        let both = and_parts (int_lt at.x e.start.x) (int_lt at.x e.end.x) k in
        let one = floor_over_one at.x (pos 1) at.x refl refl in
        off_right e (point_at at) (one e.start.x ∙ at_most_no e.start.x at.x (less_from at.x e.start.x both.0))
        (one e.end.x ∙ at_most_no e.end.x at.x (less_from at.x e.end.x both.1))
