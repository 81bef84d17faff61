use Rattle.std.proofs.Common.{rules}
use Rattle.std.proofs.lemmas.Bool.{false≢true}
use Rattle.tiles.proofs.SamplerLemmas.{corner_on_grid}
use Rattle.tiles.proofs.sampling.SamplerRowWatcher.saw.Goals as goal

pub returns-in-None-clause-sample : goal.returns-in-None-clause-sample
returns-in-None-clause-sample c all on s =
    let g = corner_on_grid c.args.self.now.column c.args.row.now c.in-Some-Geometry.geometry c.in-Some.envelope
    (search rules) (search rules) on in
    absurd (false≢true (c.in-None.ensures.taken.1 (search rules)))
