-- What was found is what the bytes have; a refusal is that of the bytes.
use Rattle.std.proofs.Common.{◌≡◌, Err, rules, arith}
use Rattle.std.proofs.lemmas.Grind.{common_steps}
use Rattle.wkb.proofs.Outcomes.{apart_is, apart_refused}
use Rattle.wkb.proofs.apart.take_apart.Goals as goal

pub returns-in_err-shape-clause-refused : goal.returns-in_err-shape-clause-refused
returns-in_err-shape-clause-refused c =
    let is : c.from_residual.result ≡ Err c.in_err-shape.field-0.0 = first_of (search rules, grind (arith, common_steps)) in
    rw is (apart_refused c.args.bytes.now c.in_err-shape.field-0.0 (rw c.new-cursor.ensures at c.in_err-shape.ensures))

pub returns-clause-ok : goal.returns-clause-ok
returns-clause-ok c =
    apart_is c.args.bytes.now _ c.whole_pieces.new.cursor (rw c.new-cursor.ensures at c.in_ok-shape.ensures)
