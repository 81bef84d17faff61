use Rattle.std.proofs.Common.{ap, sym, ◌∙◌}
use Rattle.std.proofs.lemmas.Option.{IfSome_then}
use Rattle.geometry_model.specs.Geometries.{kind}
use Rattle.geometry_model.specs.Labels.{labelled_matrix}
use Rattle.geometry_model.specs.Predicates.{holds}
use Rattle.matrix_laws.proofs.Matrices.{labels_give_matrix}
use Rattle.de9im.proofs.deciding.answer_by_kinds.Goals as goal

pub returns : goal.returns
returns c =
    let a = c.args.first.now in
    let b = c.args.second.now in
    let m = labelled_matrix a b in
    IfSome_then c.for_kinds.result c.for_kinds.ensures
    (λ answer known. record {
      matrix = m;
      is_matrix = labels_give_matrix a b c.geometry-first.ensures.valid c.geometry-second.ensures.valid;
      exact =
          sym (sym (ap (λ k. holds c.args.predicate k c.kind-2.result m) c.kind.ensures
          ∙ ap (λ k. holds c.args.predicate (kind a) k m) c.kind-2.ensures) ∙ known m);
    })
