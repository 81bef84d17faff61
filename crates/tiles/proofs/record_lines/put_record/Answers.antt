use Rattle.std.proofs.Common.{ℕ, List, ◌∙◌, subst}
use Rattle.tiles.specs.RecordLines.{line_of}
use Rattle.tiles.specs.Texts.{Grow, in_cell}
use Rattle.tiles.proofs.record_lines.put_record.Goals as goal

pub returns-clause-texts : goal.returns-clause-texts
unfolding line_of
returns-clause-texts g c =
    subst (λ (l : List ℕ). Grow (g.T.CellTexts.texts c.args.texts.now) (g.T.CellTexts.texts c.put.new.self) (in_cell c.args.cell l))
    (c.as_slice.ensures.value ∙ c.in_ok-push_line.ensures) c.in_ok-put.ensures.texts
