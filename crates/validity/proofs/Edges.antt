-- The edges of a line, one after another.
use Rattle.std.proofs.Common.{◌≡◌, ◌≢◌, subst, ℕ, ◌+◌, ◌<◌, drop, get_or, length, List, [], ◌∷◌, ◌++◌, append_assoc, ◌∙◌}
use Rattle.std.specs.List.{All}
use Rattle.std.proofs.lemmas.List.Elements.{All-head, All-tail}
use Rattle.geometry_model.specs.Points.{Position}
use Rattle.geometry_model.specs.Geometries.{Edge, edges_of_line}
use Rattle.edge_boxes.proofs.Rests.{at_index}
use Rattle.validity.specs.Runs.{HasLength}

-- one edge more is kept: together with the edges that are still to come they stay all edges of the line
pub edge_more : (kept : List Edge) (more : List Position) (all : List Edge) (i : ℕ) (d start end : Position) → i < length more → end ≡ get_or more i d
    → kept ++ edges_of_line (start ∷ drop i more) ≡ all → (kept ++ record { start = start; end = end } ∷ []) ++ edges_of_line (end ∷ drop (i + 1) more) ≡ all
edge_more kept more all i d start end within is before =
    append_assoc kept (record { start = start; end = end } ∷ []) (edges_of_line (end ∷ drop (i + 1) more))
    ∙ subst (λ l. kept ++ edges_of_line (start ∷ l) ≡ all) (at_index more i d end within is) before

-- where the edges that are left all have length, so has the next one, and so have those behind it
pub edge_has_length : (more : List Position) (i : ℕ) (d start end : Position) → i < length more → end ≡ get_or more i d
    → All HasLength (edges_of_line (start ∷ drop i more)) → (start ≢ end) × All HasLength (edges_of_line (end ∷ drop (i + 1) more))
edge_has_length more i d start end within is long =
    let edge : Edge = record { start = start; end = end } in
    let rest = edges_of_line (end ∷ drop (i + 1) more) in
    let all = subst (λ l. All HasLength (edges_of_line (start ∷ l))) (at_index more i d end within is) long in
    (All-head HasLength edge rest all, All-tail HasLength edge rest all)
