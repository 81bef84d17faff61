-- A text that spells a geometry is read as it.
use Rattle.std.proofs.Common.{Ok, ap, sym}
use Rattle.record_reasons.proofs.FieldLemmas.{unspelled}
use Rattle.record_reasons.proofs.column_reasons.geometry_in.Goals as goal

pub returns-in-Ok-clause-only : goal.returns-in-Ok-clause-only
returns-in-Ok-clause-only c = λ g spelled. ap Ok (c.in-Ok.ensures.read g spelled)

pub returns-in-Some-clause-only : goal.returns-in-Some-clause-only
returns-in-Some-clause-only c = λ g spelled. absurd (unspelled c.in-Err.error c.in-Some.fault (c.in-Err.ensures.read g spelled) (sym c.in-Some.ensures))
