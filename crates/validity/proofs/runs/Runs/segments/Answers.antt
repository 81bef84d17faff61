use Rattle.std.proofs.Common.{◌∙◌, ap, sym}
use Rattle.std.specs.List.{flat_map}
use Rattle.wkt.proofs.CutFacts.{cut_joined}
use Rattle.validity.proofs.runs.Runs.segments.Goals as goal

pub returns : goal.returns
returns c =
    c.as_slice.ensures.value ∙ (sym (cut_joined 0 c.self.inside.ends.items c.self.inside.segments.items c.self.invariant) ∙ ap (flat_map (λ run. run)) c.self.view_is)
