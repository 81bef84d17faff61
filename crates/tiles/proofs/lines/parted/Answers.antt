use Rattle.std.proofs.Common.{pos, ◌-ℤ◌, rules}
use Rattle.std.specs.Int.{w32}
use mir.Val.{SFits}
use Rattle.std.proofs.lemmas.Int.{to_z-of_z}
use Rattle.tiles.proofs.Bounds.{parts_x, parts_y}
use Rattle.tiles.proofs.lines.parted.Goals as goal

pub returns-in-X : goal.returns-in-X
returns-in-X c =
    let f : SFits w32 c.least_x-least_x.result = search rules in
    let f2 : SFits w32 c.greatest_x-greatest_x.result = search rules in
    let f3 : SFits w32 c.least_y-least_y.result = search rules in
    let f4 : SFits w32 c.greatest_y-greatest_y.result = search rules in
    let f5 : SFits w32 c.args.line.at = search rules in
    let f6 : SFits w32 (c.args.line.at -ℤ pos 1) = search rules in
    let low = simp to_z-of_z at c.spanned.ensures in
    let high = simp to_z-of_z at c.spanned-in-X.ensures in
    parts_x c.args.line c.args.region.now c.spanned.result c.spanned-in-X.result c.least_x-least_x.result c.greatest_x-greatest_x.result c.least_y-least_y.result c.greatest_y-greatest_y.result c.in-X.is
    c.least_x-least_x.ensures.value c.greatest_x-greatest_x.ensures c.least_y-least_y.ensures.value c.greatest_y-greatest_y.ensures c.requires.passes low high

pub returns-in-Y : goal.returns-in-Y
returns-in-Y c =
    let f : SFits w32 c.least_x-least_x.result = search rules in
    let f2 : SFits w32 c.greatest_x-greatest_x.result = search rules in
    let f3 : SFits w32 c.least_y-least_y.result = search rules in
    let f4 : SFits w32 c.greatest_y-greatest_y.result = search rules in
    let f5 : SFits w32 c.args.line.at = search rules in
    let f6 : SFits w32 (c.args.line.at -ℤ pos 1) = search rules in
    let low = simp to_z-of_z at c.spanned-in-Y.ensures in
    let high = simp to_z-of_z at c.spanned-in-Y-2.ensures in
    parts_y c.args.line c.args.region.now c.spanned-in-Y.result c.spanned-in-Y-2.result c.least_x-least_x.result c.greatest_x-greatest_x.result c.least_y-least_y.result c.greatest_y-greatest_y.result c.in-Y.is
    c.least_x-least_x.ensures.value c.greatest_x-greatest_x.ensures c.least_y-least_y.ensures.value c.greatest_y-greatest_y.ensures c.requires.passes low high
