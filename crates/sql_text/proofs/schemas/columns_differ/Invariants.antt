use Rattle.std.proofs.Common.{◌≡◌, drop, map}
use Rattle.table_model.specs.Definitions.{names_differ}
use Rattle.sql_text.proofs.schemas.columns_differ.Given as goal

abbrev pub invariant-loop-place : goal.invariant-loop-place
invariant-loop-place l = names_differ (map (λ c. c.name) (drop l.place l.columns)) ≡ names_differ (map (λ c. c.name) l.columns)
