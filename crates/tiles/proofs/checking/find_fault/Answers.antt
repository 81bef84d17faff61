use Rattle.std.proofs.Common.{◌≡◌, inr, length, refl, rules, sym, vec_len}
use Rattle.std.proofs.lemmas.Result.{err_from_is_err_and}
use Rattle.feature_table.specs.GeometryFields.{reading}
use Rattle.tiles.proofs.CheckLemmas.{counts, doubles, fails}
use Rattle.tiles.proofs.checking.find_fault.Goals as goal

pub returns-in_err-keys-clause-rows : goal.returns-in_err-keys-clause-rows
returns-in_err-keys-clause-rows g c known all =
    let found = c.in_err-keys.ensures.keys known all in
    let p = err_from_is_err_and c.from_residual.result c.from_residual.ensures.1 in
    rw (p.1, p.2) (found.0, found.1, λ other. fails reading c.args.table.now found.0 c.in_err-keys.field-0.0 (found.2 other))

pub returns-in_err-number-clause-rows : goal.returns-in_err-number-clause-rows
returns-in_err-number-clause-rows g c known all =
    let found = c.in_ok-keys.ensures.keys known all in
    let p = err_from_is_err_and c.from_residual-in_err-number.result c.from_residual-in_err-number.ensures.1 in
    rw (p.1, p.2) (found.0, found.1, λ other. absurd (other (inr refl)))

pub returns-in-Some-clause-rows : goal.returns-in-Some-clause-rows
returns-in-Some-clause-rows g c known all =
    let found = c.in_ok-keys.ensures.keys known all in
    let keys = c.in_ok-keys.keys.items in
    let some = rw (c.in-Some.is, c.as_slice.ensures.value) at c.in_ok-number.ensures in
    (found.0, found.1, λ other. doubles reading c.args.table.now found.0 keys c.in-Some.number found.2 (sym some))

pub returns-clause-rows : goal.returns-clause-rows
returns-clause-rows g c known all =
    let found = c.in_ok-keys.ensures.keys known all in
    let keys = c.in_ok-keys.keys.items in
    let none = rw (c.in-None.is, c.as_slice.ensures.value) at c.in_ok-number.ensures in
    let size : vec_len c.in_ok-keys.keys ≡ length keys = search rules in
    (found.0, found.1, rw (c.len.ensures, size) (counts reading c.args.table.now found.0 keys found.2 (sym none)))
