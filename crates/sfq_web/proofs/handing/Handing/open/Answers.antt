-- The file that is found is the one that is opened, and what is said of it changes none of those that are handed in.
use Rattle.std.proofs.Common.{subst, sym}
use Rattle.sfq_web.proofs.ServingFacts.{opened_file}
use Rattle.sfq_web.specs.HandedFiles.{OpensAs}
use Rattle.sfq_web.specs.Servings.{handed}
use Rattle.sfq_web.proofs.handing.Handing.open.Goals as goal

pub returns-in-Some-clause-opens : goal.returns-in-Some-clause-opens
returns-in-Some-clause-opens c =
    let files = handed c.args.self.now in
    subst (λ after. OpensAs files c.args.file c.opened.result after) (sym c.say_closed.ensures.files)
    (opened_file files c.args.file c.path.result.now c.in-Some.found c.opened.result c.is_standard.result c.is_standard.ensures
    c.if-is_standard.false c.path.ensures c.in-Some.ensures c.opened.ensures.opens)
