use Rattle.std.proofs.Common.{◌∙◌, [], ap, refl}
use Rattle.std.proofs.lemmas.List.{append-nil}
use Rattle.geometry_model.specs.Envelopes.{envelope_of_positions}
use Rattle.rtree.proofs.envelopes.Envelope.of_positions.Goals as goal

pub returns : goal.returns
returns c = c.with_positions.ensures [] refl ∙ ap envelope_of_positions (append-nil c.args.positions.now)
