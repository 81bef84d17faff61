use Rattle.std.proofs.Common.{subst, take, drop}
use Rattle.std.proofs.lemmas.List.Sorted.{IsPermutation-trans}
use Rattle.tiles.specs.Cuts.{HasOneCoordinate, IsMedian}
use Rattle.tiles.specs.declared.lines.Axis.{Axis}
use Rattle.tiles.proofs.Medians.{along_both, one_coordinate}
use Rattle.tiles.proofs.MedianCuts.{moved_within, none_then}
use Rattle.tiles.proofs.cuts.halved.Goals as goal

pub halved_along-requires-in-None-clause-inside : goal.halved_along-requires-in-None-clause-inside
halved_along-requires-in-None-clause-inside c =
    moved_within c.args.sample.now c.halved_along.new.sample c.args.region.now c.halved_along.ensures.moved c.requires.inside

pub returns-in-None-clause-moved : goal.returns-in-None-clause-moved
returns-in-None-clause-moved c =
    IsPermutation-trans c.args.sample.now c.halved_along.new.sample c.halved_along-in-None.new.sample c.halved_along.ensures.moved c.halved_along-in-None.ensures.moved

pub returns-in-None-clause-median : goal.returns-in-None-clause-median
returns-in-None-clause-median c =
    let sample = c.args.sample.now in
    let sorted = c.halved_along-in-None.new.sample in
    none_then c.halved_along-in-None.result (HasOneCoordinate c.other.result c.halved_along.new.sample) ((axis : Axis) → HasOneCoordinate axis sample)
    (λ halves. IsMedian halves.line (take halves.before sorted) (drop halves.before sorted))
    (λ h. along_both c.longer_axis-longer.result sample c.in-None.ensures.median
    (subst (λ a. HasOneCoordinate a sample) c.other.ensures (one_coordinate c.other.result sample c.halved_along.new.sample c.halved_along.ensures.moved h)))
    c.halved_along-in-None.ensures.median
