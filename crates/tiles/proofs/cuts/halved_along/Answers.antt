use Rattle.std.proofs.Common.{sym, subst, take, drop, MatchOption}
use Rattle.tiles.specs.Cuts.{HasOneCoordinate, IsMedian}
use Rattle.tiles.proofs.Bounds.{parts_once}
use Rattle.tiles.proofs.Medians.{one_coordinate}
use Rattle.tiles.proofs.MedianCuts.{median_passes}
use Rattle.tiles.proofs.cuts.halved_along.Goals as goal

pub returns-in_err-line-clause-median : goal.returns-in_err-line-clause-median
returns-in_err-line-clause-median c =
    let sorted = c.median_line.new.sample in
    subst (λ r. MatchOption r (HasOneCoordinate c.args.axis c.args.sample.now) (λ halves. IsMedian halves.line (take halves.before sorted) (drop halves.before sorted))) (sym c.from_residual.ensures)
    (one_coordinate c.args.axis c.args.sample.now sorted c.median_line.ensures.moved c.in_err-line.ensures.median)

pub parted-low-requires-clause-passes : goal.parted-low-requires-clause-passes
parted-low-requires-clause-passes c =
    median_passes c.in_ok-line.line c.args.region.now c.args.sample.now c.median_line.new.sample c.requires.inside c.median_line.ensures.moved c.in_ok-line.ensures.median.1

pub returns-clause-once : goal.returns-clause-once
returns-clause-once c p = parts_once c.in_ok-line.line c.args.region.now c.parted-low.result.0 c.parted-low.result.1 c.parted-low.ensures p

pub returns-clause-median : goal.returns-clause-median
returns-clause-median c = c.in_ok-line.ensures.median.0
