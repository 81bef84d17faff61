use Rattle.std.proofs.Common.{◌++◌, ◌∷◌, [], OnOk, Option, None, ap, ap₂, sym, subst, unwrap_or, ◌∙◌}
use Rattle.csv.specs.Records.{fields_of}
use Rattle.table_model.specs.Loading.{Record}
use Rattle.table_laws.specs.Cells.{Cell}
use Rattle.tiles.specs.RecordLines.{line_of, mark_fields, mark_text}
use Rattle.tiles.specs.Texts.{Grow, in_cell}
use Rattle.tiles.proofs.copying.put_row.Goals as goal

pub returns-clause-texts : goal.returns-clause-texts
returns-clause-texts g c =
    let e = c.args.envelope.now in
    let marks = ap₂ (λ w s. mark_text w ∷ mark_text s ∷ []) c.of-marks.ensures.west c.of-marks.ensures.south in
    let here = ap (λ (o : Option Cell). mark_fields (unwrap_or o None) e) (sym c.cell.ensures) in
    let fields = c.in_ok-push_marks.ensures ∙ ap (λ (l : Record). fields_of c.args.line.now ++ l) (marks ∙ here) in
    subst (λ (l : Record). OnOk c.put_record.result (Grow (g.T.CellTexts.texts c.args.texts.now) (g.T.CellTexts.texts c.put_record.new.texts) (in_cell c.args.number (line_of l))))
    fields c.put_record.ensures.texts
