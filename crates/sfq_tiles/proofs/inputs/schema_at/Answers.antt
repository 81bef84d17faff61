-- What a schema's text gives, as far as the file was read, is what the file's text gives.
use Rattle.std.proofs.Common.{◌∙◌, Err, ap, subst, sym}
use Rattle.sfq_tiles.specs.Checks.{IsRead, ReadsSchema}
use Rattle.sfq_tiles.proofs.SplitLemmas.{schema_refused}
use Rattle.table_model.specs.GeometryColumns.{shape_named}
use Rattle.table_model.specs.SchemaReading.{schema_of}
use Rattle.sfq_tiles.proofs.inputs.schema_at.Goals as goal

pub returns-in-Ok : goal.returns-in-Ok
returns-in-Ok g c = (
  c.in_ok-text.text.items,
  subst (λ known. IsRead known c.in_ok-text.text.items) c.in-Some.ensures c.in_ok-text.ensures.text,
  ap (schema_of shape_named) (sym c.as_slice.ensures.value) ∙ c.in-Ok.ensures.exact,
)

pub returns : goal.returns
returns g c =
    let known = g.I.Sources.bytes c.args.sources.now c.args.path.now in
    subst (λ x. ReadsSchema known (Err x)) (sym c.schema_failure.ensures)
    (schema_refused known c.in_ok-text.text.items c.in-Err.fault
    (subst (λ bytes. IsRead bytes c.in_ok-text.text.items) c.in-Some.ensures c.in_ok-text.ensures.text)
    (λ other. ap (schema_of shape_named) (sym c.as_slice.ensures.value) ∙ c.in-Err.ensures.exact other))
