-- The line of the outer access, and that of the inner one after it.
use Rattle.std.proofs.Common.{rules, ◌≢◌, length}
use Rattle.explain.proofs.PutLemmas.{puts-then}
use Rattle.explain.proofs.TextLemmas.{both_put, outer_begun}
use Rattle.explain.proofs.access_lines.put_accesses.Goals as goal

pub returns-in_err-put_access : goal.returns-in_err-put_access
returns-in_err-put_access g c =
    let some : length c.args.accesses.now ≢ 0 = search rules in
    outer_begun c.from_residual.result c.args.references.now c.args.accesses.now _ some c.in_err-put_access.ensures
    c.from_residual.ensures.1

pub returns : goal.returns
returns g c =
    let some : length c.args.accesses.now ≢ 0 = search rules in
    both_put c.args.references.now c.args.accesses.now _ _ some c.if-accesses-eq1.false
    (puts-then c.in_ok-put_access.ensures c.put_access-2.ensures)
