-- Once splitting is done, what was written answers queries as the whole tables do.
use Rattle.sfq_tiles.proofs.TileAnswers.{gives_answers}
use Rattle.sfq_tiles.proofs.splitting.split.Goals as goal

pub returns : goal.returns
returns g c =
    let h = c.split_words.ensures in
    record { splits = h; answers = λ zero. gives_answers _ _ _ _ _ _ _ _ _ _ _ _ _ c.args.words.now _ _ _ _ _ h zero }
