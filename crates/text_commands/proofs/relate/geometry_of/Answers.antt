-- The fault of reading is that of the text; what was read is tested, and its fault is that of the text then.
use Rattle.std.proofs.Common.{Result, sym, subst}
use Rattle.geometry_model.specs.CheckedTexts.{tested}
use Rattle.geometry_model.specs.Geometries.{Geometry}
use Rattle.geometry_model.specs.TextReading.{read_text}
use Rattle.geometry_model.specs.declared.text_faults.TextFault.{TextFault}
use Rattle.text_commands.specs.Relations.{IsFailureOf, or_refused}
use Rattle.text_commands.proofs.relate.geometry_of.Goals as goal

pub returns-in-Err-clause-failure : goal.returns-in-Err-clause-failure
returns-in-Err-clause-failure c = c.text_failure.ensures.failure (read_text c.args.text.now) c.in-Err.ensures.fault

pub returns-in-Err-check-clause-failure : goal.returns-in-Err-check-clause-failure
returns-in-Err-check-clause-failure c =
    subst (λ (r : Result Geometry TextFault). IsFailureOf (or_refused c.args.word (tested r)) c.validity_failure.result) (sym c.in-Ok.ensures.ok)
    (c.validity_failure.ensures.failure c.in-Ok.geometry c.in-Err-check.ensures.fault)
