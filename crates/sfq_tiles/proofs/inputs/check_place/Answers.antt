-- The table at the place is checked.
use Rattle.sfq_tiles.proofs.SplitLemmas.{done_with}
use Rattle.sfq_tiles.proofs.inputs.check_place.Goals as goal

pub returns-clause-checked : goal.returns-clause-checked
returns-clause-checked g c =
    done_with c.check_table.result (λ h. (c.table.result.now, c.table.ensures.value, h)) c.check_table.ensures.checked
