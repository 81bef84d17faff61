use Rattle.std.proofs.Common.{◌≡◌, length, map, vec_len}
use Rattle.feature_table.proofs.DatabaseLemmas.{HaveLoaded}
use Rattle.feature_table.specs.GeometryFields.{reading}
use Rattle.feature_table.proofs.databases.load_tables.Given as goal

abbrev pub invariant-loop-place : goal.invariant-loop-place
invariant-loop-place g l = record {
  count : vec_len l.tables ≡ length l.yielded;
  loaded : HaveLoaded reading l.schema (map g.R.Read.remaining l.fn.readers.items) (length l.yielded) l.tables.items;
}
