use Rattle.csv.specs.Records.{fields_of}
use Rattle.table_model.specs.Texts.{same_name}
use Rattle.feature_table.proofs.HeaderLemmas.{IsFound}
use Rattle.feature_table.proofs.headers.place_of.Given as goal

abbrev pub invariant-loop-place : goal.invariant-loop-place
invariant-loop-place l = IsFound (same_name l.name) (fields_of l.header) l.place l.found
