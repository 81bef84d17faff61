-- Each exit: a word gives no text, or the command goes on with both.
use Rattle.std.proofs.Common.{ℕ, List, Err, refl, subst}
use Rattle.failures.specs.Ends.{End}
use Rattle.text_commands.specs.Explanations.{MayExplainTexts}
use Rattle.text_commands.specs.Files.{OpensFile}
use Rattle.text_commands.specs.Reasons.{ShowsCells}
use Rattle.text_commands.proofs.WordLemmas.{over-both, over-not-both}
use Rattle.text_commands.proofs.explained.serve_witnesses.Goals as goal

pub returns-in-Err-clause-serves : goal.returns-in-Err-clause-serves
returns-in-Err-clause-serves g c =
    let Ends : List ℕ → List ℕ → End → Type 0 = λ first second end.
    ShowsCells g.S.Sink.taken g.S.Sink.failures c.args.out.now c.args.out.now first second end
    × MayExplainTexts g.M.Sink.taken g.M.Sink.failures c.args.more.now c.args.more.now first second end in
    record {
      end = Err c.in-Err.failure;
      ends = over-not-both (OpensFile g.F.FnMut) g.R.Read.remaining Ends _ c.args.opener c.args.first.now c.args.second.now
          c.in-Err.failure c.in-Err.ensures.failure (refl, refl);
      returned = c.failed.ensures.status;
      reported = c.failed.ensures.line;
    }

pub returns-clause-serves : goal.returns-clause-serves
returns-clause-serves g c =
    let Ends : List ℕ → List ℕ → End → Type 0 = λ first second end.
    ShowsCells g.S.Sink.taken g.S.Sink.failures c.args.out.now c.show_cells.new.out first second end
    × MayExplainTexts g.M.Sink.taken g.M.Sink.failures c.args.more.now c.show_cells.new.more first second end in
    let shown = c.show_cells.ensures.serves in
    let texts = c.in-Ok.texts in
    record {
      end = shown.end;
      ends = over-both (OpensFile g.F.FnMut) g.R.Read.remaining Ends _ c.args.opener c.args.first.now c.args.second.now
          texts.first.items texts.second.items shown.end
          c.in-Ok.ensures.texts
          (subst (λ other. Ends texts.first.items other shown.end) c.as_slice-2.ensures.value
          (subst (λ one. Ends one c.as_slice-2.result.now shown.end) c.as_slice.ensures.value shown.ends));
      returned = shown.returned;
      reported = shown.reported;
    }
