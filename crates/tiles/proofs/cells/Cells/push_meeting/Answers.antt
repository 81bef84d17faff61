use Rattle.std.proofs.Common.{◌≡◌, ◌∙◌, ◌++◌, ◌∷◌, [], Some, true, false, ap, sym}
use Rattle.geometry_model.specs.Envelopes.{overlap}
use Rattle.rtree.specs.Found.{meeting_places}
use Rattle.table_laws.specs.Cells.{cells_of}
use Rattle.tiles.specs.Lines.{whole}
use Rattle.tiles.proofs.TreeLemmas.{absent_met, tree_met, tree_missed}
use Rattle.tiles.proofs.cells.Cells.push_meeting.Goals as goal

pub returns-in_ok-push-in-None : goal.returns-in_ok-push-in-None
returns-in_ok-push-in-None c =
    c.in_ok-push-in-None.ensures.items ∙ ap (λ l. l ++ 0 ∷ []) c.requires ∙ absent_met c.args.self.now ∙ ap (meeting_places (cells_of c.args.self.now)) (sym c.in-None.is)

pub returns-in_ok-push_meeting-in-Some : goal.returns-in_ok-push_meeting-in-Some
returns-in_ok-push_meeting-in-Some c =
    let view : c.args.self.now ≡ c.self.inside.boxes.items = cc in
    let met : overlap whole c.in-Some.asked ≡ true = ap (λ box. overlap box c.in-Some.asked) (sym c.self.invariant.0) ∙ sym c.meets.ensures ∙ c.if-meets.true in
    tree_met c.self.inside.tree whole c.self.inside.boxes.items c.in-Some.asked c.args.numbers.now.items c.push_meeting.new.numbers.items c.self.invariant.2 c.self.invariant.1 c.requires met c.in_ok-push_meeting-in-Some.ensures
    ∙ ap (λ boxes. meeting_places (cells_of boxes) (Some c.in-Some.asked)) (sym view) ∙ ap (meeting_places (cells_of c.args.self.now)) (sym c.in-Some.is)

pub returns-else-meets : goal.returns-else-meets
returns-else-meets c =
    let view : c.args.self.now ≡ c.self.inside.boxes.items = cc in
    let missed : overlap whole c.in-Some.asked ≡ false = ap (λ box. overlap box c.in-Some.asked) (sym c.self.invariant.0) ∙ sym c.meets.ensures ∙ c.if-meets.false in
    tree_missed c.self.inside.tree whole c.self.inside.boxes.items c.in-Some.asked c.args.numbers.now.items c.self.invariant.2 c.self.invariant.1 c.requires missed
    ∙ ap (λ boxes. meeting_places (cells_of boxes) (Some c.in-Some.asked)) (sym view) ∙ ap (meeting_places (cells_of c.args.self.now)) (sym c.in-Some.is)
