use Rattle.std.proofs.lemmas.Result.{err_from_is_err_and}
use Rattle.feature_table.specs.GeometryFields.{reading}
use Rattle.tiles.proofs.CheckLemmas.{seen_to_differ}
use Rattle.tiles.proofs.checking.check_records.Goals as goal

pub returns-in_err-keys-clause-counts : goal.returns-in_err-keys-clause-counts
returns-in_err-keys-clause-counts g c known all =
    let found = c.in_err-keys.ensures.keys known all in
    let p = err_from_is_err_and c.from_residual.result c.from_residual.ensures.1 in
    rw (p.1, p.2) (found.0, found.1, found.2)

pub returns-clause-counts : goal.returns-clause-counts
returns-clause-counts g c known all =
    let found = c.in_ok-keys.ensures.keys known all in
    (found.0, found.1, seen_to_differ reading c.args.table.now found.0 c.in_ok-keys.keys.items c.differing.result found.2 c.differing.ensures.count c.differing.ensures.differ c.differing.ensures.double)
