-- The pieces of each kind of witness, joined, are its text.
use Rattle.std.proofs.Common.{◌∙◌, ap, sym}
use Rattle.streams.proofs.PartLemmas.{front-same}
use Rattle.witnesses.specs.WitnessTexts.{cell_text}
use Rattle.witnesses.proofs.TextLemmas.{face_cell, point_cell}
use Rattle.witnesses.proofs.witness_lines.put_cell.Goals as goal

pub returns-in-Point-clause-front : goal.returns-in-Point-clause-front
returns-in-Point-clause-front g c = front-same c.put_pieces.result _ _ _ _ (point_cell c.in-Point.p ∙ ap cell_text (sym c.in-Point.is)) c.put_pieces.ensures.front

pub returns-in-Stretch-clause-front : goal.returns-in-Stretch-clause-front
returns-in-Stretch-clause-front g c = front-same c.put_stretch.result _ _ _ _ (ap cell_text (sym c.in-Stretch.is)) c.put_stretch.ensures.front

pub returns-in-Around-clause-front : goal.returns-in-Around-clause-front
returns-in-Around-clause-front g c =
    front-same c.put_pieces-in-Around.result _ _ _ _ (face_cell c.in-Around.p ∙ ap cell_text (sym c.in-Around.is)) c.put_pieces-in-Around.ensures.front
