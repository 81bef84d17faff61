use Rattle.std.proofs.Common.{◌≡◌, ◌&&◌, Bool, true, ℤ, ◌∙◌, ap}
use Rattle.std.proofs.lemmas.Int.{to_z-of_z}
use mir.Syntax.{w32, w64, w128}
use mir.Val.{SFits}
use Rattle.geometry_model.specs.Points.{Position}
use Rattle.geometry_model.specs.Sides.{between}
use Rattle.orient.proofs.sides.is_within_ends.Goals as goal

-- where the first coordinate lies between, the second decides
by_second : (first second : Bool) (sx tx nx sy ty ny w s t n s' t' n' d : ℤ) → sx ≡ s → tx ≡ t → nx ≡ n → sy ≡ s' → ty ≡ t' → ny ≡ n' → w ≡ d
    → first ≡ true → first ≡ between sx tx nx w → second ≡ between sy ty ny w → second ≡ (between s t n d && between s' t' n' d)
by_second first second sx tx nx sy ty ny w s t n s' t' n' d a b e f g h i l j k = rw (← a, ← b, ← e, ← f, ← g, ← h, ← i, ← j, l) k

pub returns-then-is_between : goal.returns-then-is_between
returns-then-is_between c =
    let sx : SFits w32 c.x.result = record { sfits = c.x.type_inv } in
    let tx : SFits w32 c.x-2.result = record { sfits = c.x-2.type_inv } in
    let sy : SFits w32 c.y.result = record { sfits = c.y.type_inv } in
    let ty : SFits w32 c.y-then-is_between.result = record { sfits = c.y-then-is_between.type_inv } in
    let nx : SFits w128 c.numerator_x.result = record { sfits = c.numerator_x.type_inv } in
    let ny : SFits w128 c.numerator_y.result = record { sfits = c.numerator_y.type_inv } in
    let w : SFits w64 c.denominator-w.result = record { sfits = c.denominator-w.type_inv } in
    let x_of = λ (a : Position). a.x in
    let y_of = λ (a : Position). a.y in
    by_second c.is_between.result c.is_between-then-is_between.result c.x.result c.x-2.result c.numerator_x.result c.y.result c.y-then-is_between.result c.numerator_y.result c.denominator-w.result
    c.args.segment.now.start.x c.args.segment.now.end.x c.args.p.now.X c.args.segment.now.start.y c.args.segment.now.end.y c.args.p.now.Y c.args.p.now.W
    (c.x.ensures.value ∙ ap x_of c.start-start.ensures) (c.x-2.ensures.value ∙ ap x_of c.end-end.ensures.value) c.numerator_x.ensures.value
    (c.y.ensures.value ∙ ap y_of c.start-start.ensures) (c.y-then-is_between.ensures.value ∙ ap y_of c.end-end.ensures.value) c.numerator_y.ensures.value
    c.denominator-w.ensures.value c.if-is_between.true (simp to_z-of_z at c.is_between.ensures) (simp to_z-of_z at c.is_between-then-is_between.ensures)
