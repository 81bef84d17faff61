use Rattle.std.proofs.Common.{subst, sym, ap, ◌∙◌, List, get_or}
use Rattle.geometry_model.specs.Geometries.{Edge}
use Rattle.de9im.specs.Raising.{LiesOff}
use Rattle.de9im.proofs.apart.start_in_part.Goals as goal

pub returns-clause-known : goal.returns-clause-known
returns-clause-known c =
    let left = c.left_of_chain-left.result in
    let edge = c.index-segments-left.result in
    subst (LiesOff c.args.second.now c.args.part) (sym c.start-at.ensures)
    (c.left_of_chain-left.ensures.part edge
    (c.index-segments-left.is ∙ ap (λ (es : List Edge). get_or es left edge) c.segments.ensures))
