use Rattle.std.proofs.Common.{◌∙◌, ap}
use Rattle.table_model.specs.Truths.{truth_of}
use Rattle.spatial_sql.proofs.Parts.{holds_by_every}
use Rattle.spatial_sql.proofs.relation_values.related.Goals as goal

pub returns-clause-truth : goal.returns-clause-truth
returns-clause-truth c =
    λ matrix gives.
    c.truth_of.ensures
    ∙ ap truth_of (holds_by_every matrix gives _ _ _ _ c.geometry-first.ensures.valid c.geometry-second.ensures.valid
    c.in_ok-answer.ensures.point_sets)
