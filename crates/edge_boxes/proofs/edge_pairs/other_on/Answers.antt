use Rattle.std.proofs.Common.{◌≡◌, ◌&&◌, Bool, true, false, sym, ◌∙◌}
use Rattle.edge_boxes.proofs.edge_pairs.other_on.Goals as goal

-- where the second of two tests passes, the first decides, and where it fails, so do both
first_decides : (t s u : Bool) → u ≡ true → t ≡ s → t ≡ (s && u)
first_decides t false u h e = e
first_decides t true u h e = e ∙ sym h

both_fail : (t s u : Bool) → u ≡ false → t ≡ false → t ≡ (s && u)
both_fail t false u h e = e
both_fail t true u h e = e ∙ sym h

pub returns-then-ne : goal.returns-then-ne
returns-then-ne c = first_decides _ _ _ (sym c.ne.ensures ∙ c.if-ne.true) c.position_on.ensures

pub returns-else-ne : goal.returns-else-ne
returns-else-ne c = both_fail _ _ _ (sym c.ne.ensures ∙ c.if-ne.false) c.if-ne.false
