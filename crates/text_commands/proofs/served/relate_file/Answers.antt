-- The two exits over a file that could be opened: what the run over its pairs returned.
use Rattle.std.proofs.Common.{Err, Ok, inr, refl, subst, sym}
use Rattle.text_commands.specs.TextCommands.{RelatesReader}
use Rattle.text_commands.proofs.PairNoteLemmas.{notes_end}
use Rattle.text_commands.proofs.served.relate_file.Goals as goal

pub returns-in-Ok-clause-relates : goal.returns-in-Ok-clause-relates
returns-in-Ok-clause-relates g c =
    subst (λ file. RelatesReader g.R.Read.remaining g.S.Sink.taken g.S.Sink.failures c.args.out.now c.relate_noted.new.sink
    g.M.Sink.taken g.M.Sink.failures c.args.more.now c.relate_noted.new.more file c.end_of.result) (sym c.in-Some.is) (
      record {
        result = Ok c.in-Ok.pairs;
        records = c.in-Ok.ensures.relates.0;
        read = c.in-Ok.ensures.relates.1;
        relates = c.in-Ok.ensures.relates.2;
        failures = c.in-Ok.ensures.failures;
        ended = c.end_of.ensures;
      },
      inr (notes_end _ (Ok c.in-Ok.pairs) c.end_of.result _ _ _ _ c.end_of.ensures c.in-Ok.ensures.notes),
    )

pub returns-in-Err-clause-relates : goal.returns-in-Err-clause-relates
returns-in-Err-clause-relates g c =
    subst (λ file. RelatesReader g.R.Read.remaining g.S.Sink.taken g.S.Sink.failures c.args.out.now c.relate_noted.new.sink
    g.M.Sink.taken g.M.Sink.failures c.args.more.now c.relate_noted.new.more file (Err c.in-Err.failure)) (sym c.in-Some.is) (
      record {
        result = Err c.in-Err.failure;
        records = c.in-Err.ensures.relates.0;
        read = c.in-Err.ensures.relates.1;
        relates = c.in-Err.ensures.relates.2;
        failures = c.in-Err.ensures.failures;
        ended = refl;
      },
      inr (notes_end _ (Err c.in-Err.failure) (Err c.in-Err.failure) _ _ _ _ refl c.in-Err.ensures.notes),
    )
