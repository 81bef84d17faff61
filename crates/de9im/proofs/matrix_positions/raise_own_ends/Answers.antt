use Rattle.de9im.proofs.Growth.{grows_through, covered_kept}
use Rattle.geometry_model.specs.Geometries.{listed}
use Rattle.de9im.proofs.matrix_positions.raise_own_ends.Goals as goal

pub returns-clause-grows : goal.returns-clause-grows
returns-clause-grows c = grows_through c.args.first.now c.args.second.now c.args.matrix.now c.raise_listed.new.matrix c.raise_odd_ends.new.matrix
    c.raise_listed.ensures.grows c.raise_odd_ends.ensures.grows

pub returns-clause-shows : goal.returns-clause-shows
returns-clause-shows c = record {
  positions = covered_kept c.args.first.now c.args.second.now (listed c.args.first.now) c.raise_listed.new.matrix c.raise_odd_ends.new.matrix
      c.raise_odd_ends.ensures.grows.grown c.raise_listed.ensures.shows;
  odd_ends = c.raise_odd_ends.ensures.shows;
}
