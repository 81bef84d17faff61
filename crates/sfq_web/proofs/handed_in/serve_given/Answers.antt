-- What came of the words is over the files that are handed in, and over standard input if that was found.
use Rattle.std.proofs.Common.{ap, rules, ◌∙◌}
use Rattle.sfq_web.proofs.ServingFacts.{served_over}
use Rattle.sfq_web.specs.Servings.{input_of}
use Rattle.sfq_web.proofs.handed_in.serve_given.Goals as goal

pub returns-clause-served : goal.returns-clause-served
returns-clause-served c =
    served_over c.args.handed.now c.in_ok-files.files.items c.of-input.result.text c.in_ok-served.served (search rules)
    (c.of-input.ensures.text ∙ ap (λ found. input_of found c.args.handed.now.input.now) c.of.ensures) (search rules)
