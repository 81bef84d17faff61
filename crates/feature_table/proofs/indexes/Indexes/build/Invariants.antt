use Rattle.std.proofs.Common.{◌≡◌, length}
use Rattle.feature_table.proofs.IndexLemmas.{EachKept, IsOwnIndex}
use Rattle.feature_table.proofs.indexes.Indexes.build.Given as goal

abbrev pub invariant-loop-place : goal.invariant-loop-place
invariant-loop-place g l = record {
  count : length l.own.items ≡ l.place;
  kept : EachKept (IsOwnIndex g.I.EnvelopeIndex.indexed l.fn.table l.fn.rows) l.own.items;
}
