-- The parts joined are the span.
use Rattle.std.proofs.Common.{◌∙◌, ap, w32}
use Rattle.std.specs.Fmt.{signed_decimal}
use Rattle.std.proofs.lemmas.Int.{to_z-of_z}
use Rattle.streams.proofs.PartLemmas.{front-same}
use Rattle.sfq_tiles.proofs.ListLemmas.{span_parts}
use Rattle.sfq_tiles.proofs.listing.put_span.Goals as goal

pub returns-clause-front : goal.returns-clause-front
returns-clause-front g c =
    front-same c.put_parts.result _ _ _ _
    (span_parts c.as_bytes.result.now c.as_bytes-2.result.now c.args.least c.args.greatest
    (c.as_bytes.ensures.value ∙ c.format.ensures.text ∙ ap signed_decimal (to_z-of_z w32 c.args.least c.ranges.least))
    (c.as_bytes-2.ensures.value ∙ c.format-2.ensures.text ∙ ap signed_decimal (to_z-of_z w32 c.args.greatest c.ranges.greatest)))
    c.put_parts.ensures.front
