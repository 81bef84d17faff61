use Rattle.std.proofs.Common.{◌≡◌, drop, map}
use Rattle.table_model.specs.Definitions.{names_differ}
use Rattle.sql_text.proofs.schemas.tables_differ.Given as goal

abbrev pub invariant-loop-place : goal.invariant-loop-place
invariant-loop-place l = names_differ (map (λ t. t.name) (drop l.place l.tables)) ≡ names_differ (map (λ t. t.name) l.tables)
