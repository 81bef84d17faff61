-- What was found is what the bytes are; a refusal is that of the bytes.
use Rattle.std.proofs.Common.{◌≡◌, Err, rules, arith}
use Rattle.std.proofs.lemmas.Grind.{common_steps}
use Rattle.wkb.proofs.Outcomes.{found_is, refused_is}
use Rattle.wkb.proofs.reading.read.Goals as goal

pub returns-in_err-shape-clause-refused : goal.returns-in_err-shape-clause-refused
returns-in_err-shape-clause-refused c =
    let is : c.from_residual.result ≡ Err c.in_err-shape.field-0.0 = first_of (search rules, grind (arith, common_steps)) in
    rw is (refused_is c.args.grid.now c.args.bytes.now c.in_err-shape.field-0.0
    (rw c.new-cursor.ensures at c.in_err-shape.ensures.read))

pub returns-clause-ok : goal.returns-clause-ok
returns-clause-ok c =
    rw (c.kept-geometry.ensures, c.rounding-rounding.ensures)
    (found_is c.args.grid.now c.args.bytes.now _ c.in_ok-shape.system c.whole.new.cursor
    (rw c.new-cursor.ensures at c.in_ok-shape.ensures.read))
