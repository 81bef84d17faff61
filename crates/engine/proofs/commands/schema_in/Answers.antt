-- What a schema's text gives, as far as the file was read, is what the file's text gives.
use Rattle.std.proofs.Common.{◌∙◌, Err, ap, refl, subst, sym}
use Rattle.engine.specs.Commands.{MayExplainSchema, ReadsSchema}
use Rattle.engine.proofs.ExplanationLemmas.{of-file}
use Rattle.engine.proofs.FileLemmas.{read-schema, refused-schema}
use Rattle.engine.specs.declared.commands.TheConstants.{SCHEMA_BYTES}
use Rattle.table_model.specs.GeometryColumns.{shape_named}
use Rattle.table_model.specs.SchemaReading.{schema_of}
use Rattle.engine.proofs.commands.schema_in.Goals as goal

pub returns-in-Ok-clause-reads : goal.returns-in-Ok-clause-reads
returns-in-Ok-clause-reads g c =
    read-schema g.R.Read.remaining c.args.file c.in-Some.file SCHEMA_BYTES c.in_ok-text.text.items c.in-Ok.schema c.in-Some.is refl c.in_ok-text.ensures.text
    (ap (schema_of shape_named) (sym c.as_slice.ensures.value) ∙ c.in-Ok.ensures.exact)

pub returns-clause-reads : goal.returns-clause-reads
returns-clause-reads g c =
    subst (λ x. ReadsSchema g.R.Read.remaining c.args.file (Err x)) (sym c.schema_failure-failure.ensures)
    (refused-schema g.R.Read.remaining c.args.file c.in-Some.file SCHEMA_BYTES c.in_ok-text.text.items c.in-Err.fault c.in-Some.is refl c.in_ok-text.ensures.text
    (λ other. ap (schema_of shape_named) (sym c.as_slice.ensures.value) ∙ c.in-Err.ensures.exact other))

pub returns-clause-explains : goal.returns-clause-explains
returns-clause-explains g c =
    let M = g.M.Sink in
    let failure = c.schema_failure-failure.result in
    of-file g.R.Read.remaining M.taken M.failures c.args.more.now c.explain_schema.new.more c.args.file c.in-Some.file
    c.in_ok-text.text.items failure c.in-Some.is c.in_ok-text.ensures.text
    (subst (λ text. MayExplainSchema M.taken M.failures c.args.more.now c.explain_schema.new.more text failure)
    c.as_slice-in-Err.ensures.value c.explain_schema.ensures.explains)
