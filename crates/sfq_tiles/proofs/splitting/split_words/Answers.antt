-- The number of rows is read first.
use Rattle.std.proofs.Common.{◌≤◌, ◌∙◌, Err, ap, inl, inr, refl, subst, sym}
use Rattle.sfq_tiles.proofs.SplitLemmas.{no_rows, said_ending}
use Rattle.sfq_tiles.proofs.splitting.split_words.Goals as goal

pub returns-in-Ok : goal.returns-in-Ok
returns-in-Ok g c =
    let h = c.split_files.ensures in
    let number = c.in-Ok.ensures.number in
    record {
      end = h.end;
      ends = inr (
        c.in-Ok.rows,
        (number.0.0, subst (λ n. 1 ≤ n) (sym number.1) number.0.1, subst (λ n. n ≤ 100000) (sym number.1) number.0.2, number.1),
        h.ends,
      );
      returned = h.returned;
      reported = h.reported;
    }

pub returns-in-Err : goal.returns-in-Err
returns-in-Err g c =
    let said = said_ending c.in-Err.mistake c.in-Err.ensures.said in
    record {
      end = Err c.from.result;
      ends = inl (
        said.0,
        (ap Err (c.from.ensures ∙ said.1), refl, refl),
        no_rows c.args.words.now.rows.now c.in-Err.ensures.number,
      );
      returned = c.ended.ensures.status;
      reported = c.ended.ensures.line;
    }
