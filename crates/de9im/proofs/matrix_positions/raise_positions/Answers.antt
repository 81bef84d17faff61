use Rattle.std.proofs.Common.{refl, subst}
use Rattle.std.specs.List.{All}
use Rattle.geometry_model.specs.Geometries.{Geometry}
use Rattle.matrix_laws.specs.Cells.{CoversPosition}
use Rattle.de9im.specs.Raising.{LiesIn, ShowsRow}
use Rattle.de9im.proofs.Growth.{grows_through, covers_more, all_taken}
use Rattle.de9im.proofs.ListedPositions.{lies_at, row_covers}
use Rattle.de9im.proofs.matrix_positions.raise_positions.Goals as goal

pub loop-position-preserved : goal.loop-position-preserved
loop-position-preserved c =
    let b = c.args.second.now in
    let ps = c.args.positions.now in
    let i = c.loop-position.position-index in
    let p = c.position-item.result in
    let m = c.loop-position.matrix in
    let n = c.raise_position.new.matrix in
    let lies : (a : Geometry) → All (LiesIn c.args.part a) ps → LiesIn c.args.part a p = λ a all. lies_at a c.args.part ps i p c.loop-position-test.true c.position-item.is all in
    record {
      grows = λ a all. grows_through a b c.args.matrix.now m n (c.loop-position.invariant.grows a all) (c.raise_position.ensures.grows a (lies a all));
      shows = λ a all. covers_more a b ps i p m n c.loop-position-test.true c.position-item.is (c.raise_position.ensures.grows a (lies a all)).grown
          (c.loop-position.invariant.shows a all) (c.raise_position.ensures.shows a (lies a all));
    }

pub returns-then-shows_row-clause-shows : goal.returns-then-shows_row-clause-shows
returns-then-shows_row-clause-shows c = λ a all. row_covers a c.args.second.now c.args.part c.args.positions.now c.loop-position.matrix
    (subst (λ k. ShowsRow c.args.part k c.loop-position.matrix) c.kind.ensures (c.shows_row.ensures c.if-shows_row.true)) all

pub returns-clause-shows : goal.returns-clause-shows
returns-clause-shows c = λ a all. all_taken (CoversPosition a c.args.second.now c.loop-position.matrix) c.args.positions.now c.args.positions.now
    c.loop-position.position-index c.loop-position-test.false refl (c.loop-position.invariant.shows a all)
