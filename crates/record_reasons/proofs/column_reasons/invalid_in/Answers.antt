-- A field that spells no geometry, or one without the fault, has no reason.
use Rattle.std.proofs.Common.{◌∙◌, sym}
use Rattle.record_reasons.proofs.FieldLemmas.{no-fault, no-invalid}
use Rattle.record_reasons.proofs.column_reasons.invalid_in.Goals as goal

pub returns-in_default-clause-finds : goal.returns-in_default-clause-finds
returns-in_default-clause-finds c =
    no-invalid c.args.column.now c.args.field.now c.args.fault (λ g spelled. c.in_default.not-Ok g (c.in_ok-geometry.ensures.only g spelled))

pub returns-in_default-place_of-clause-finds : goal.returns-in_default-place_of-clause-finds
returns-in_default-place_of-clause-finds c =
    no-fault c.args.column.now c.args.field.now c.args.fault c.in-Ok.geometry (λ g spelled. sym c.in-Ok.is ∙ c.in_ok-geometry.ensures.only g spelled)
    c.in_default-place_of.ensures.none
