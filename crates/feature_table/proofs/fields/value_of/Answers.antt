use Rattle.std.proofs.Common.{◌∙◌, Ok, ap, sym}
use Rattle.feature_table.proofs.FieldLemmas.{no_text_value, text_value}
use Rattle.table_model.specs.declared.values.Value.TheVariants as value
use Rattle.feature_table.proofs.fields.value_of.Goals as goal

pub returns-in_ok-copy_of-in-Ok-clause-value : goal.returns-in_ok-copy_of-in-Ok-clause-value
returns-in_ok-copy_of-in-Ok-clause-value c =
    let same = c.in_ok-copy_of-in-Ok.ensures ∙ c.in-Ok.ensures.cases.0 in
    text_value _ c.args.number c.args.required c.args.column_type.now c.args.field.now c.in-Text.is c.if-is_empty.ensures c.in-Ok.ensures.cases.1
    ∙ ap (λ bytes. Ok (value.Text bytes)) (sym same)

pub returns-in-Err-clause-value : goal.returns-in-Err-clause-value
returns-in-Err-clause-value c other =
    no_text_value _ c.args.number c.args.required c.args.column_type.now c.args.field.now c.in-Text.is c.if-is_empty.ensures c.in-Err.ensures.cases.0
