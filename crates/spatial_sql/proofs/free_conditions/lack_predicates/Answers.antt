use Rattle.std.proofs.Common.{◌∙◌, eqb-true, sum_by, sym}
use Rattle.spatial_sql.proofs.FreeConditionLemmas.{none_computed}
use Rattle.table_model.specs.Plans.{predicate_count}
use Rattle.spatial_sql.proofs.free_conditions.lack_predicates.Goals as goal

pub returns : goal.returns
returns c = λ e.
    none_computed c.args.conditions.now
    (eqb-true (sum_by predicate_count c.args.conditions.now) 0 (sym c.all_lack_predicates.ensures ∙ e))
