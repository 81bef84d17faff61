-- The two words, the cell and the line feed, one after another.
use Rattle.std.proofs.Common.{◌∙◌, ap, codes}
use Rattle.streams.proofs.PartLemmas.{last-put, last-front}
use Rattle.witnesses.specs.WitnessTexts.{cell_text, witness_line}
use Rattle.witnesses.proofs.TextLemmas.{first-front, second-front, line_parts}
use Rattle.witnesses.specs.Shown.{witness_at}
use Rattle.witnesses.proofs.witness_lines.put_line.Goals as goal

pub returns-in_err-put_locations-clause-front : goal.returns-in_err-put_locations-clause-front
returns-in_err-put_locations-clause-front g c =
    let witness = witness_at c.args.witnesses.now c.args.first c.args.second in
    first-front c.from_residual.result _ _ _ (cell_text witness) (codes "\n") _
    (line_parts c.args.first c.args.second witness _ _ c.word.ensures c.word-2.ensures) c.in_err-put_locations.ensures.front

pub returns-in_err-put_cell-clause-front : goal.returns-in_err-put_cell-clause-front
returns-in_err-put_cell-clause-front g c =
    second-front c.from_residual-in_err-put_cell.result _ (g.S.Sink.taken c.put_locations.new.sink) _ _ (cell_text c.at.result) (codes "\n") _
    (line_parts c.args.first c.args.second c.at.result _ _ c.word.ensures c.word-2.ensures ∙ ap (witness_line c.args.first c.args.second) c.at.ensures)
    c.in_ok-put_locations.ensures.ok c.in_err-put_cell.ensures.front

pub returns-clause-ok : goal.returns-clause-ok
returns-clause-ok g c =
    last-put c.put_all.result _ (g.S.Sink.taken c.put_locations.new.sink) (g.S.Sink.taken c.put_cell.new.sink) _ _ (cell_text c.at.result) (codes "\n") _
    (line_parts c.args.first c.args.second c.at.result _ _ c.word.ensures c.word-2.ensures ∙ ap (witness_line c.args.first c.args.second) c.at.ensures)
    c.in_ok-put_locations.ensures.ok c.in_ok-put_cell.ensures.ok c.put_all.ensures.ok

pub returns-clause-front : goal.returns-clause-front
returns-clause-front g c =
    last-front c.put_all.result _ (g.S.Sink.taken c.put_locations.new.sink) (g.S.Sink.taken c.put_cell.new.sink) _ _ (cell_text c.at.result) (codes "\n") _
    (line_parts c.args.first c.args.second c.at.result _ _ c.word.ensures c.word-2.ensures ∙ ap (witness_line c.args.first c.args.second) c.at.ensures)
    c.in_ok-put_locations.ensures.ok c.in_ok-put_cell.ensures.ok c.put_all.ensures.front
