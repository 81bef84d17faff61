-- The order of the words is done, or `clap` says why they are none.
use Rattle.std.proofs.Common.{map}
use Rattle.sfq_web.specs.Servings.{handed}
use Rattle.sfq_web.proofs.ServingFacts.{is_misused, is_served}
use Rattle.sfq_web.proofs.served.serve_words.Goals as goal

pub returns-in-Ok : goal.returns-in-Ok
returns-in-Ok c =
    is_served (map (λ word. word.now) c.args.words.now) c.args.asks c.in-Ok.order c.asked.result (handed c.args.handing.now)
    c.serve_asked.result c.in-Ok.ensures.ok c.asked.ensures c.serve_asked.ensures

pub returns-in-Err : goal.returns-in-Err
returns-in-Err c =
    is_misused (map (λ word. word.now) c.args.words.now) c.args.asks c.in-Err.misuse (handed c.args.handing.now)
    c.misused.result c.in-Err.ensures.refused c.misused.ensures
