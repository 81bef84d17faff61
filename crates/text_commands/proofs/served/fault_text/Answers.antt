-- The page of the last code explains the words.
use Rattle.std.proofs.Common.{Bor, List, map, subst, ℕ}
use Rattle.std.specs.Prelude.{IfSome}
use Rattle.std.specs.String.{string_bytes}
use Rattle.text_commands.specs.FaultPages.{IsLastOf, IsPageOf}
use Rattle.text_commands.specs.declared.fault_codes.FaultCode.{FaultCode}
use Rattle.text_commands.proofs.FaultEndLemmas.{page-explains}
use Rattle.text_commands.proofs.served.fault_text.Goals as goal

pub returns-in-Ok-Some-clause-text : goal.returns-in-Ok-Some-clause-text
returns-in-Ok-Some-clause-text c =
    let words = map string_bytes c.args.words.now in
    page-explains words c.in-Ok-Some.page.now
    (subst (λ shown. IfSome shown (λ (page : Bor (List ℕ)). (found : FaultCode) × IsLastOf words found × IsPageOf found page.now))
    c.in-Ok-Some.field-0-is c.in-Ok-Some.ensures.page)
