use Rattle.std.proofs.Common.{sym, ap, ◌∙◌}
use Rattle.geometry_model.specs.declared.point_sets.Dimension.TheVariants.{One}
use Rattle.matrix_laws.specs.Gaps.{of_own_edges}
use Rattle.matrix_laws.proofs.Growing.{shows_at}
use Rattle.de9im.proofs.fullness.is_full_along.Goals as goal

pub returns-then-is_upright : goal.returns-then-is_upright
returns-then-is_upright c = λ _. record {
  piece = shows_at c.args.matrix.now One _ _ _ _ (c.of_own_edges.ensures ∙ ap of_own_edges c.kind.ensures) (c.of_own_edges-2.ensures ∙ ap of_own_edges c.kind-2.ensures) (sym c.shows-shows_gap.ensures ∙ c.if-shows_gap.true);
  sides = λ n. absurd (n (c.is_upright.ensures.0 c.if-is_upright.true));
}

pub returns-else-is_upright : goal.returns-else-is_upright
returns-else-is_upright c = λ full. record {
  piece = (c.is_full_on.ensures full).piece;
  sides = λ _. c.is_full_on.ensures full;
}
