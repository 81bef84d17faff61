use Rattle.std.proofs.Common.{◌∙◌, sym}
use Rattle.noding.specs.Nodings.{piece_of}
use Rattle.side_labels.proofs.SampleLabels.{sides_same}
use Rattle.side_labels.proofs.labelling.side_labels.Goals as goal

pub returns : goal.returns
returns c = sides_same c.args.first.now c.args.second.now c.sample_of-p.result (piece_of c.args.piece.now) c.sides_at-of_first.result.lower c.sides_at-of_second.result.lower c.sides_at-of_first.result.upper c.sides_at-of_second.result.upper
    c.requires c.sample_of-p.ensures.point c.sample_of-p.ensures.same (sym c.is_upright.ensures ∙ c.if-is_upright.false) c.sides_at-of_first.ensures.lower c.sides_at-of_second.ensures.lower c.sides_at-of_first.ensures.upper c.sides_at-of_second.ensures.upper
