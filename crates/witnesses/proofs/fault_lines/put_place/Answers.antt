-- The text of each kind of place.
use Rattle.std.proofs.Common.{◌∙◌, ap, sym}
use Rattle.streams.proofs.PartLemmas.{front-same}
use Rattle.witnesses.specs.FaultTexts.{place_text}
use Rattle.witnesses.proofs.FaultTextLemmas.{open_parts}
use Rattle.witnesses.proofs.fault_lines.put_place.Goals as goal

pub returns-in-Open-clause-front : goal.returns-in-Open-clause-front
returns-in-Open-clause-front g c = front-same c.put_pieces.result _ _ _ _ (open_parts c.in-Open.first c.in-Open.last ∙ ap place_text (sym c.in-Open.is)) c.put_pieces.ensures.front

pub returns-in-Shared-clause-front : goal.returns-in-Shared-clause-front
returns-in-Shared-clause-front g c = front-same c.put_shared.result _ _ _ _ (ap place_text (sym c.in-Shared.is)) c.put_shared.ensures.front
