-- Memory ran out before the field was added.
use Rattle.std.proofs.Common.{refl}
use Rattle.geometry_model.specs.CanonicalText.{canonical_text}
use Rattle.streams.proofs.WriterLemmas.{field-refused, holds-begun}
use Rattle.streams.specs.declared.put_fault.PutFault.TheVariants as put
use Rattle.query_runs.proofs.record_fields.put_geometry.Goals as goal

pub returns-in_err-text : goal.returns-in_err-text
returns-in_err-text g c =
    let text = canonical_text c.args.geometry.now in
    field-refused c.from_residual.result put.Memory text c.args.writer.now c.args.writer.now _ _ _ _ c.from_residual.ensures.1
    (λ fields start held. holds-begun c.args.writer.now fields text start _ held) refl
