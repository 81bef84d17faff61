use Rattle.std.proofs.Common.{◌≡◌, drop}
use Rattle.table_model.specs.QueryReading.{bad_place}
use Rattle.sql_text.proofs.select_reader.bad_place.Given as goal

abbrev pub invariant-loop-token : goal.invariant-loop-token
invariant-loop-token l = bad_place (drop l.token-index l.tokens) ≡ bad_place l.tokens
