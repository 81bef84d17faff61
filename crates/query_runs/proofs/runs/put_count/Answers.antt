-- The header, or a front of it, is a front of the text; the record of the number comes after it, but under LIMIT 0.
use Rattle.std.proofs.Common.{ap, ◌≢◌, ◌∷◌, ◌++◌, ◌∙◌, [], Some, codes, rules}
use Rattle.query_runs.specs.RecordTexts.{record_text}
use Rattle.query_runs.proofs.PutLemmas.{first-begun, put-same, put-then}
use Rattle.query_runs.proofs.RunLemmas.{number-text}
use Rattle.query_runs.proofs.runs.put_count.Goals as goal

pub returns-in_err-put_field : goal.returns-in_err-put_field
returns-in_err-put_field g c =
    first-begun c.from_residual.result c.in_err-put_field.field-0.0 (record_text (codes "COUNT(*)" ∷ [])) _ _ _ _ _
    c.from_residual.ensures.1 c.in_err-put_field.ensures.puts.front c.in_err-put_field.ensures.puts.failures

pub returns : goal.returns
returns g c =
    let other : c.args.limit ≢ Some 0 = search rules in
    put-same c.put_field-2.result _ _ _ _ _ _
    (ap (λ digits. record_text (codes "COUNT(*)" ∷ []) ++ record_text (digits ∷ [])) (c.as_bytes.ensures.value ∙ c.format.ensures.text)
    ∙ number-text c.args.limit c.args.count other)
    (put-then c.put_field-2.result (record_text (codes "COUNT(*)" ∷ [])) (record_text (c.as_bytes.result.now ∷ []))
    (g.S.Sink.taken c.args.sink.now) (g.S.Sink.taken c.put_field.new.sink) _ (g.S.Sink.failures c.args.sink.now) (g.S.Sink.failures c.put_field.new.sink) _
    c.in_ok-put_field.ensures.puts.whole c.in_ok-put_field.ensures.puts.failures c.put_field-2.ensures.puts)
