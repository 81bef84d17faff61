-- A field that spells no geometry, or one of the type that is wanted, has no reason.
use Rattle.std.proofs.Common.{◌∙◌, Some, ap, sym}
use Rattle.record_reasons.proofs.FieldLemmas.{no-type, same-type}
use Rattle.table_model.specs.GeometryColumns.{takes_type}
use Rattle.record_reasons.proofs.column_reasons.other_type_in.Goals as goal

pub returns-in_default-clause-finds : goal.returns-in_default-clause-finds
returns-in_default-clause-finds c =
    no-type c.args.column.now c.args.wanted c.args.field.now (λ g spelled. c.in_default.not-Ok g (c.in_ok-geometry.ensures.only g spelled))

pub returns-then-eq-clause-finds : goal.returns-then-eq-clause-finds
returns-then-eq-clause-finds c =
    same-type c.args.column.now c.args.wanted c.args.field.now c.in-Ok.geometry (λ g spelled. sym c.in-Ok.is ∙ c.in_ok-geometry.ensures.only g spelled)
    (ap (λ t. takes_type (Some c.args.wanted) t) (sym c.geometry_type-found.ensures) ∙ sym c.if-eq.ensures)
