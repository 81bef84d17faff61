use Rattle.std.proofs.Common.{◌≡◌, [], if◌then◌else◌, replicate}
use Rattle.std.specs.Prelude.{nat_lt}
use Rattle.csv.specs.Records.{fields_of}
use Rattle.tiles.specs.RecordLines.{line_of}
use Rattle.tiles.specs.Texts.{Grow}
use Rattle.tiles.proofs.copying.put_headers.Given as goal

-- each cell so far has the header and a count of no record, and no put has failed
abbrev pub invariant-loop-cell : goal.invariant-loop-cell
invariant-loop-cell g l = record {
  counts : l.counts.items ≡ replicate l.cell 0;
  same : g.T.CellTexts.failures l.texts ≡ g.T.CellTexts.failures l.fn.texts;
  texts : Grow (g.T.CellTexts.texts l.fn.texts) (g.T.CellTexts.texts l.texts) (λ k. if nat_lt k l.cell then line_of (fields_of l.header) else []);
}
