use Rattle.std.proofs.Common.{◌≡◌, ◌&&◌, ◌||◌, Bool, true, false, ℤ, refl, sym, ap, ◌∙◌}
use Rattle.std.proofs.lemmas.Int.{to_z-of_z}
use mir.Syntax.{w64}
use mir.Val.{SFits}
use Rattle.geometry_model.specs.Points.{Position, point_at}
use Rattle.geometry_model.specs.Geometries.{Edge}
use Rattle.geometry_model.specs.Sides.{side, on}
use Rattle.geometry_model.specs.FirstFaults.{opposite}
use Rattle.edge_boxes.proofs.edge_pairs.share_by_sides.Goals as goal
use Rattle.edge_boxes.proofs.edge_pairs.share_by_sides.Goals.{then-meets_end, else-meets_end}

-- where no end is on the other edge, what is left decides
none_met : (a b c d x : Bool) → (a || b) ≡ false → (c || d) ≡ false → x ≡ (a || b || c || d || x)
none_met true b c d x e f = cc
none_met false true c d x e f = cc
none_met false false true d x e f = cc
none_met false false false true x e f = cc
none_met false false false false x e f = refl

by_crossing : (r a b c d : Bool) (s1 s2 s3 s4 a1 a2 a3 a4 : ℤ) → s1 ≡ a1 → s2 ≡ a2 → s3 ≡ a3 → s4 ≡ a4 → (a || b) ≡ false → (c || d) ≡ false → r ≡ (opposite s1 s2 && opposite s3 s4)
    → r ≡ (a || b || c || d || (opposite a1 a2 && opposite a3 a4))
by_crossing r a b c d s1 s2 s3 s4 a1 a2 a3 a4 e1 e2 e3 e4 first second h =
    let crossed : r ≡ (opposite a1 a2 && opposite a3 a4) = rw (← e1, ← e2, ← e3, ← e4) h in
    crossed ∙ none_met a b c d (opposite a1 a2 && opposite a3 a4) first second

pub returns-else-meets_end-2 : goal.returns-else-meets_end-2
returns-else-meets_end-2 c =
    let f1 : SFits w64 c.args.start = c.ranges.start in
    let f2 : SFits w64 c.args.end = c.ranges.end in
    let f3 : SFits w64 c.side_number-back_start.result = record { sfits = c.side_number-back_start.type_inv } in
    let f4 : SFits w64 c.side_number-back_end.result = record { sfits = c.side_number-back_end.type_inv } in
    let side_of = λ (e : Edge) (q : Position). side e.start e.end (point_at q) in
    let e = c.args.e.now in
    let f = c.args.f.now in
    elim c.if-meets_end.branch [
      | then-meets_end w ↦ let met : c.if-meets_end.value ≡ true = w.value-is ∙ w.if-meets_end.true in absurd cc
      | else-meets_end w ↦
          by_crossing c.cross.result (on e (point_at f.start)) (on e (point_at f.end)) (on f (point_at e.start)) (on f (point_at e.end))
          c.args.start c.args.end c.side_number-back_start.result c.side_number-back_end.result
          (side_of e f.start) (side_of e f.end) (side_of f e.start) (side_of f e.end)
          c.requires.start c.requires.end
          (c.side_number-back_start.ensures.value ∙ ap (side_of f) c.start.ensures) (c.side_number-back_end.ensures.value ∙ ap (side_of f) c.end.ensures.value)
          (sym c.meets_end.ensures ∙ w.if-meets_end.false)
          (sym w.meets_end-else-meets_end.ensures ∙ (sym w.value-is ∙ c.if-meets_end-2.false))
          (simp to_z-of_z at c.cross.ensures)
    ]
