-- The field is added to the line, and then the line may be written.
use Rattle.std.proofs.Common.{◌++◌, ◌∷◌, [], refl}
use Rattle.streams.proofs.WriterLemmas.{field-refused, holds-added, holds-begun}
use Rattle.streams.specs.declared.put_fault.PutFault.TheVariants as put
use Rattle.streams.proofs.record_writer.RecordWriter.put_field.Goals as goal

pub returns-in_err-push_text : goal.returns-in_err-push_text
returns-in_err-push_text g c =
    field-refused c.from_residual.result put.Memory c.args.field.now c.args.self.now c.push_text.new.self _ _ _ _
    c.from_residual.ensures.1
    (λ fields start held. holds-begun c.args.self.now fields c.args.field.now start _ held) refl

pub returns-in_err-write_long : goal.returns-in_err-write_long
returns-in_err-write_long g c =
    field-refused c.from_residual-in_err-write_long.result put.Sink c.args.field.now c.args.self.now c.write_long.new.self _ _ _ _
    c.from_residual-in_err-write_long.ensures.1
    (λ fields start held. c.in_err-write_long.ensures.front (fields ++ c.args.field.now ∷ []) start
    (holds-added c.args.self.now c.push_text.new.self fields c.args.field.now start _
    c.in_ok-push_text.ensures.line c.in_ok-push_text.ensures.some c.push_text.ensures.begun held))
    c.in_err-write_long.ensures.failures

pub returns : goal.returns
returns g c = record {
  added = λ fields start held. c.in_ok-write_long.ensures.held (fields ++ c.args.field.now ∷ []) start
      (holds-added c.args.self.now c.push_text.new.self fields c.args.field.now start _
      c.in_ok-push_text.ensures.line c.in_ok-push_text.ensures.some c.push_text.ensures.begun held);
  front = λ fields start held. tt;
  failures = c.in_ok-write_long.ensures.failures;
}
