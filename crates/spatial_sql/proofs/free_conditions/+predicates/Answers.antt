use Rattle.std.proofs.Common.{◌==◌, ◌∙◌, ap, sym, sum_by}
use Rattle.spatial_sql.proofs.FreeConditionLemmas.{count_and, count_or}
use Rattle.table_model.specs.Plans.{predicate_count}
use Rattle.spatial_sql.proofs.free_conditions.+predicates.Goals as goal

pub lacks_predicates-returns-in-Or : goal.lacks_predicates-returns-in-Or
lacks_predicates-returns-in-Or t c =
    c.all_lack_predicates.ensures
    ∙ ap (λ n. n == 0) (ap (sum_by predicate_count) c.as_slice.ensures ∙ sym (count_or c.in-Or.parts)
    ∙ sym (ap predicate_count c.in-Or.is))

pub lacks_predicates-returns-in-And : goal.lacks_predicates-returns-in-And
lacks_predicates-returns-in-And t c =
    c.all_lack_predicates-in-And.ensures
    ∙ ap (λ n. n == 0) (ap (sum_by predicate_count) c.as_slice-in-And.ensures ∙ sym (count_and c.in-And.parts)
    ∙ sym (ap predicate_count c.in-And.is))
