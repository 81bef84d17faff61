use Rattle.std.specs.Int.{w32}
use Rattle.std.proofs.lemmas.Int.{to_z-of_z}
use Rattle.tiles.proofs.Bounds.{as_spanned}
use Rattle.tiles.proofs.lines.spanned.Goals as goal

pub returns : goal.returns
returns c =
    let a = rw (to_z-of_z w32 c.args.least_x c.ranges.least_x, to_z-of_z w32 c.args.least_y c.ranges.least_y) at (rw c.unwrap-least.ensures at c.new.ensures.value) in
    let b = rw (to_z-of_z w32 c.args.greatest_x c.ranges.greatest_x, to_z-of_z w32 c.args.greatest_y c.ranges.greatest_y) at (rw c.unwrap-greatest.ensures at c.new-2.ensures.value) in
    as_spanned c.of_positions.result c.unwrap.result c.unwrap-least.result c.unwrap-greatest.result c.args.least_x c.args.greatest_x c.args.least_y c.args.greatest_y
    c.of_positions.ensures c.unwrap.ensures a b c.requires.across c.requires.up
