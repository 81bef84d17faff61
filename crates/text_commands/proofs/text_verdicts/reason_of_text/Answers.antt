-- The fault of reading is that of the text.
use Rattle.wkt.specs.TextFaults.{text_fault}
use Rattle.text_commands.proofs.VerdictLemmas.{unread}
use Rattle.text_commands.proofs.text_verdicts.reason_of_text.Goals as goal

pub returns-in-Err-clause-failure : goal.returns-in-Err-clause-failure
returns-in-Err-clause-failure c = unread c.args.text.now (text_fault c.in-Err.fault) c.text_failure.result c.in-Err.ensures.fault c.text_failure.ensures.exact
