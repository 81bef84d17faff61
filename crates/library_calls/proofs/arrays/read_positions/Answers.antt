use Rattle.std.proofs.Common.{sym, ◌∙◌}
use Rattle.library_calls.specs.Written.{written_as}
use Rattle.library_calls.proofs.ArrayFacts.{is_taken}
use Rattle.library_calls.proofs.arrays.read_positions.Goals as goal

pub returns-in-Ok-clause-made : goal.returns-in-Ok-clause-made
returns-in-Ok-clause-made c =
    is_taken c.read_is_spelled.ensures c.arrays_are_as_texts.ensures (written_as c.args.geometry_type c.args.positions.now c.args.lines.now c.args.polygons.now) c.in-Ok.valid (sym c.in_ok-valid.ensures ∙ c.in-Ok.is)
