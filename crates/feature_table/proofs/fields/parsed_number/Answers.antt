use Rattle.std.proofs.Common.{◌∙◌}
use Rattle.feature_table.proofs.FieldLemmas.{no_number, parsed}
use Rattle.feature_table.proofs.fields.parsed_number.Goals as goal

pub returns-in-Ok : goal.returns-in-Ok
returns-in-Ok c = c.ok.ensures.value ∙ parsed c.args.text.now c.parse.result (rw c.in-Ok.ensures.cases.0 at c.parse.ensures.value.0)

pub returns-in-Err : goal.returns-in-Err
returns-in-Err c = no_number c.args.text.now c.in-Err.ensures.cases.0
