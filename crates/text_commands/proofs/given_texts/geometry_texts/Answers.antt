-- Each exit: the first word gives no text, the second one doesn't, or both do.
use Rattle.std.proofs.Common.{inl, inr, IfErr}
use Rattle.text_commands.proofs.WordLemmas.{handed-on}
use Rattle.text_commands.specs.Files.{OpensFile}
use Rattle.text_commands.specs.GivenTexts.{GivesNotBoth}
use Rattle.text_commands.proofs.given_texts.geometry_texts.Goals as goal

pub returns-in_err-first-clause-failure : goal.returns-in_err-first-clause-failure
returns-in_err-first-clause-failure g c =
    handed-on c.from_residual.result c.in_err-first.field-0.0 c.from_residual.ensures.1
    (λ r. IfErr r (GivesNotBoth (OpensFile g.F.FnMut) g.R.Read.remaining c.args.opener c.args.first.now c.args.second.now))
    (inl (c.geometry_text.new.opener, c.in_err-first.ensures.failure))

pub returns-in_err-second-clause-failure : goal.returns-in_err-second-clause-failure
returns-in_err-second-clause-failure g c =
    handed-on c.from_residual-in_err-second.result c.in_err-second.field-0.0 c.from_residual-in_err-second.ensures.1
    (λ r. IfErr r (GivesNotBoth (OpensFile g.F.FnMut) g.R.Read.remaining c.args.opener c.args.first.now c.args.second.now))
    (inr (
      c.geometry_text.new.opener,
      c.geometry_text-2.new.opener,
      c.in_ok-first.first.items,
      c.in_ok-first.ensures.text,
      c.in_err-second.ensures.failure,
    ))

pub returns-clause-texts : goal.returns-clause-texts
returns-clause-texts g c =
    (c.geometry_text.new.opener, c.geometry_text-2.new.opener, c.in_ok-first.ensures.text, c.in_ok-second.ensures.text)
