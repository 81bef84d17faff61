-- The geometry of the text, or its first fault.
use Rattle.geometry_model.specs.CheckedTexts.{tested}
use Rattle.geometry_model.specs.TextReading.{read_text}
use Rattle.text_commands.proofs.ExplanationLemmas.{first-fault, spelled}
use Rattle.text_commands.proofs.fault_explanations.fault_of.Goals as goal

pub returns-in-Ok : goal.returns-in-Ok
returns-in-Ok c = (c.in-Ok._valid, spelled (tested (read_text c.args.text.now)) c.in-Ok._valid c.in-Ok.ensures.ok)

pub returns-in-Some : goal.returns-in-Some
returns-in-Some c =
    first-fault c.args.text.now c.in-Err.failure c.in-Some.refused.0 c.in-Some.refused.1 c.in-Some.ensures.of
    c.in-Err.ensures.failure
