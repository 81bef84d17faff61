-- One place more.
use Rattle.std.proofs.Common.{◌∙◌, ◌++◌, ◌∷◌, [], ap, sym}
use Rattle.sfq_tiles.proofs.WordLemmas.{one_more_number}
use Rattle.sfq_tiles.proofs.parts.all_columns.Goals as goal

pub loop-place-preserved : goal.loop-place-preserved
loop-place-preserved c =
    c.in_ok-push.ensures.items ∙ ap (λ t. t ++ c.loop-place.place ∷ []) c.loop-place.invariant
    ∙ sym (one_more_number c.loop-place.place)
