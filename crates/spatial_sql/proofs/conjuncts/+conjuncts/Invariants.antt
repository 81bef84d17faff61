use Rattle.std.proofs.Common.{◌≡◌, map, drop}
use Rattle.grammar_laws.specs.FilterLaws.{joined_in_order}
use Rattle.spatial_sql.specs.Scopes.{conjuncts_in}
use Rattle.spatial_sql.proofs.Outcomes.{behind}
use Rattle.spatial_sql.proofs.conjuncts.+conjuncts.Given as goal

abbrev pub invariant-joined-loop-part : goal.invariant-joined-loop-part
invariant-joined-loop-part l =
    behind l.bound (joined_in_order (map (conjuncts_in l.scope) (drop l.part-index l.parts))) ≡ joined_in_order (map (conjuncts_in l.scope) l.parts)
