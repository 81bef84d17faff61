use Rattle.std.proofs.Common.{◌<◌, ◌∙◌, ap, ap₂, sym, length, subst}
use Rattle.std.specs.List.{slice_get}
use Rattle.wkt.specs.Cuts.{cut_at}
use Rattle.wkt.proofs.CutFacts.{cut_count}
use Rattle.wkt.proofs.polygons.Polygons.get.Goals as goal

pub part-requires-clause-within : goal.part-requires-clause-within
part-requires-clause-within c =
    rw c.as_slice-2.ensures.value
    (subst (λ n. c.args.index < n) (ap length (sym c.self.view_is) ∙ cut_count 0 c.self.inside.ends.items c.self.inside.rings.items) c.requires)

pub returns : goal.returns
returns c =
    ap (λ parts. slice_get parts c.args.index)
    (sym c.self.view_is ∙ ap₂ (λ ends rings. cut_at 0 ends rings) (sym c.as_slice-2.ensures.value) (sym c.as_slice.ensures.value))
    ∙ c.part.ensures
