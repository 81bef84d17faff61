-- The line of a verdict (the words: this project's choice).
use Rattle.std.specs.Prelude.{ℕ, List, codes}
use Rattle.witnesses.specs.FaultTexts.{reason_text}
use Rattle.witnesses.specs.declared.verdict.Verdict.{Verdict}
use Rattle.witnesses.specs.declared.verdict.Verdict.TheVariants as verdicts

-- the line of a verdict: `valid`, or the fault and its place
abbrev pub verdict_text : Verdict → List ℕ
verdict_text verdicts.Valid = codes "valid\n"
verdict_text (verdicts.Faulty fault place) = reason_text fault place
