use Rattle.std.proofs.Common.{◌≡◌, map, take}
use Rattle.csv.specs.Records.{fields_of}
use Rattle.tiles.specs.RecordLines.{field_in, marked_line}
use Rattle.tiles.specs.Texts.{Grow, gets_of}
use Rattle.tiles.proofs.copying.put_rows.Given as goal

-- the cells of the numbers so far have their row, and no put has failed
abbrev pub invariant-loop-number : goal.invariant-loop-number
invariant-loop-number g l = record {
  texts : Grow (g.T.CellTexts.texts l.fn.texts) (g.T.CellTexts.texts l.texts)
      (gets_of (marked_line l.cells l.envelope (map (field_in l.places (fields_of l.fields)) l.columns)) (take l.number-index l.numbers));
  same : g.T.CellTexts.failures l.texts ≡ g.T.CellTexts.failures l.fn.texts;
}
