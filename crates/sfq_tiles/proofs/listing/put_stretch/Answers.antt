-- The parts joined are the line.
use Rattle.std.proofs.Common.{◌∙◌}
use Rattle.streams.proofs.PartLemmas.{front-same}
use Rattle.sfq_tiles.proofs.ListLemmas.{stretch_parts}
use Rattle.sfq_tiles.proofs.listing.put_stretch.Goals as goal

pub returns-clause-front : goal.returns-clause-front
returns-clause-front g c =
    front-same c.put_parts.result _ _ _ _
    (stretch_parts c.as_bytes.result.now c.as_bytes-2.result.now c.as_bytes-3.result.now c.args.name.now c.args.number c.args.rows c.as_bytes.ensures.value
    (c.as_bytes-2.ensures.value ∙ c.format.ensures.text) (c.as_bytes-3.ensures.value ∙ c.format-2.ensures.text))
    c.put_parts.ensures.front
