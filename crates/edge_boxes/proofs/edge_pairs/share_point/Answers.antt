use Rattle.std.proofs.Common.{◌≡◌, ◌&&◌, ◌||◌, Bool, true, false, not, ℤ, pos, int_lt, sym, ap, ◌∙◌}
use Rattle.std.proofs.lemmas.Int.{to_z-of_z}
use mir.Syntax.{w64}
use mir.Val.{SFits}
use Rattle.geometry_model.specs.Points.{Position, point_at}
use Rattle.geometry_model.specs.Geometries.{Edge}
use Rattle.geometry_model.specs.Sides.{side}
use Rattle.geometry_model.specs.FirstFaults.{share_point}
use Rattle.edge_boxes.proofs.Beside.{beside_from, none_beside}
use Rattle.edge_boxes.proofs.edge_pairs.share_point.Goals as goal

-- where the test of the sides holds, no point is shared
by_beside : (r : Bool) (s t : ℤ) (e f : Edge) → s ≡ side e.start e.end (point_at f.start) → t ≡ side e.start e.end (point_at f.end) → r ≡ true → r ≡ ((int_lt (pos 0) s && int_lt (pos 0) t) || (int_lt s (pos 0) && int_lt t (pos 0)))
    → not r ≡ share_point e f
by_beside false s t e f start end k h = absurd (let n : false ≡ true = k in cc)
by_beside true s t e f start end k h =
    let a : ℤ = side e.start e.end (point_at f.start) in
    let b : ℤ = side e.start e.end (point_at f.end) in
    let said : true ≡ ((int_lt (pos 0) a && int_lt (pos 0) b) || (int_lt a (pos 0) && int_lt b (pos 0))) = rw (← start, ← end) h in
    sym (none_beside e f (beside_from a b (sym said)))

pub returns-else-not-are_beside : goal.returns-else-not-are_beside
returns-else-not-are_beside c =
    let f1 : SFits w64 c.side_number-start.result = record { sfits = c.side_number-start.type_inv } in
    let f2 : SFits w64 c.side_number-end.result = record { sfits = c.side_number-end.type_inv } in
    let side_of = λ (e : Edge) (q : Position). side e.start e.end (point_at q) in
    by_beside c.are_beside.result c.side_number-start.result c.side_number-end.result c.args.e.now c.args.f.now
    (c.side_number-start.ensures.value ∙ ap (side_of c.args.e.now) c.start.ensures) (c.side_number-end.ensures.value ∙ ap (side_of c.args.e.now) c.end.ensures.value)
    c.if-not-are_beside.false (simp to_z-of_z at c.are_beside.ensures)
