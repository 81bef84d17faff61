use Rattle.std.proofs.Common.{◌≡◌, ◌-◌, ◌+◌, sym, ap, take, arith}
use Rattle.std.proofs.lemmas.List.{take_all}
use Rattle.std.proofs.lemmas.List.Elements.{All-same}
use Rattle.geometry_model.specs.Pieces.{stretches}
use Rattle.de9im.specs.Raising.{ShowsGapIn}
use Rattle.de9im.proofs.Growth.{grows_through}
use Rattle.de9im.proofs.GapCells.{gap_at, gap_grows, gaps_more, gaps_full}
use Rattle.de9im.proofs.gap_cells.raise_gaps.Goals as goal

pub loop-place-preserved : goal.loop-place-preserved
loop-place-preserved c =
    let before : c.loop-place.place ≡ (c.loop-place.place - 1) + 1 = omega (arith, c.loop-place.auto.place, c.loop-place-test.true) in
    let p = c.index-stops-place.result in
    let q = c.index-stops-place-in-loop-place.result in
    record {
      grows = grows_through c.args.first.now c.args.second.now c.args.matrix.now c.loop-place.matrix c.raise_at.new.matrix c.loop-place.invariant.grows
          (gap_grows c.args.pass c.args.first.now c.args.second.now c.args.edge.now p q c.mediant-sample.result c.loop-place.matrix c.raise_at.new.matrix c.requires.own c.requires.length
          (gap_at c.args.edge.now c.args.second.now c.args.stops.now (c.loop-place.place - 1) c.loop-place.place p q before c.loop-place-test.true c.index-stops-place.is c.index-stops-place-in-loop-place.is c.requires.gaps)
          c.mediant-sample.ensures.exact c.raise_at.ensures);
      shows = gaps_more c.args.pass c.args.first.now c.args.second.now c.args.edge.now c.args.stops.now (c.loop-place.place - 1) c.loop-place.place p q c.mediant-sample.result c.loop-place.matrix c.raise_at.new.matrix
          before c.loop-place-test.true c.index-stops-place.is c.index-stops-place-in-loop-place.is c.requires.gaps c.mediant-sample.ensures.exact c.raise_at.ensures c.loop-place.invariant.shows;
    }

pub returns-then-is_done-clause-shows : goal.returns-then-is_done-clause-shows
returns-then-is_done-clause-shows c = gaps_full c.args.pass c.args.first.now c.args.second.now c.args.edge.now c.args.stops.now c.loop-place.matrix (c.is_done.ensures c.if-is_done.true) c.requires.gaps

pub returns-clause-shows : goal.returns-clause-shows
returns-clause-shows c = All-same (λ k. ShowsGapIn c.args.pass c.args.first.now c.args.second.now c.loop-place.matrix c.args.edge.now k.lesser k.greater) (stretches c.args.stops.now) (stretches (take c.loop-place.place c.args.stops.now))
    (ap stretches (sym (take_all c.loop-place.place c.args.stops.now c.loop-place-test.false))) c.loop-place.invariant.shows
