-- The pieces joined are the text.
use Rattle.std.proofs.Common.{◌∙◌, ap, sym, codes, append-nil}
use Rattle.streams.proofs.PartLemmas.{front-same}
use Rattle.witnesses.specs.FaultTexts.{meet_text}
use Rattle.witnesses.specs.PointTexts.{fractions_text}
use Rattle.witnesses.proofs.TextLemmas.{three_parts}
use Rattle.witnesses.proofs.fault_lines.put_meet.Goals as goal

pub returns-in-Apart-clause-front : goal.returns-in-Apart-clause-front
returns-in-Apart-clause-front g c = front-same c.put_all.result _ _ _ _ (ap meet_text (sym c.in-Apart.is)) c.put_all.ensures.front

pub returns-in-At-clause-front : goal.returns-in-At-clause-front
returns-in-At-clause-front g c = front-same c.put_pieces.result _ _ _ _ (append-nil (fractions_text c.in-At.p) ∙ ap meet_text (sym c.in-At.is)) c.put_pieces.ensures.front

pub returns-in-Along-clause-front : goal.returns-in-Along-clause-front
returns-in-Along-clause-front g c =
    front-same c.put_pieces-in-Along.result _ _ _ _ (three_parts (fractions_text c.in-Along.p) (codes " to ") (fractions_text c.in-Along.q) ∙ ap meet_text (sym c.in-Along.is)) c.put_pieces-in-Along.ensures.front
