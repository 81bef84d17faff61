use Rattle.std.proofs.Common.{◌∙◌, get_or, map, refl, subst}
use Rattle.csv.specs.Records.{fields_of}
use Rattle.table_model.specs.Loading.{Record}
use Rattle.tiles.specs.RecordLines.{field_in, marked_line}
use Rattle.tiles.specs.Texts.{Grow, in_cell}
use Rattle.tiles.proofs.TextLemmas.{grow_more}
use Rattle.tiles.proofs.copying.put_rows.Goals as goal

pub loop-number-preserved : goal.loop-number-preserved
loop-number-preserved g c =
    let row = marked_line c.args.cells.now c.args.envelope.now in
    let copied = map (field_in c.args.places.now (fields_of c.args.fields.now)) c.args.columns.now in
    let texts = g.T.CellTexts.texts in
    record {
      texts = grow_more (texts c.args.texts.now) (texts c.loop-number.texts) (texts c.put_row.new.texts) (row copied) c.args.numbers.now c.loop-number.number-index (get_or c.args.numbers.now c.loop-number.number-index 0) 0
          c.loop-number-test.true refl c.loop-number.invariant.texts
          (subst (λ (l : Record). Grow (texts c.loop-number.texts) (texts c.put_row.new.texts) (in_cell (get_or c.args.numbers.now c.loop-number.number-index 0) (row l (get_or c.args.numbers.now c.loop-number.number-index 0)))) c.in_ok-copied_fields.ensures.fields c.in_ok-put_row.ensures.texts);
      same = c.in_ok-put_row.ensures.same ∙ c.loop-number.invariant.same;
    }
