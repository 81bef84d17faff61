use Rattle.std.proofs.Common.{[], ◌∙◌, ◌∷◌, ap, inr}
use Rattle.std.proofs.lemmas.Result.{err_from_is_err_and}
use Rattle.csv.specs.Records.{fields_of}
use Rattle.feature_table.specs.GeometryFields.{reading}
use Rattle.table_model.specs.declared.faults.LoadFault.TheVariants as fault
use Rattle.tiles.proofs.CheckLemmas.{header_fails, header_passes, no_records, fault_of_known, of_known}
use Rattle.tiles.specs.Checks.{keys_of_table}
use Rattle.tiles.proofs.checking.keys_in.Goals as goal

pub returns-in_err-found-clause-keys : goal.returns-in_err-found-clause-keys
returns-in_err-found-clause-keys g c known all =
    let p = err_from_is_err_and c.from_residual.result c.from_residual.ensures.1 in
    rw (p.1, p.2)
    (fault_of_known known c.in_err-found.field-0.0 (keys_of_table reading c.args.table.now)
    (λ text is other. absurd (other c.in_err-found.ensures.fails)) ([], λ other. absurd (other c.in_err-found.ensures.fails)))

pub returns-then-not-found-clause-keys : goal.returns-then-not-found-clause-keys
returns-then-not-found-clause-keys g c known all =
    let table = c.args.table.now in
    fault_of_known known fault.MissingColumn (keys_of_table reading table)
    (λ text is other. let none = rw c.if-not-found.true at (c.in_ok-found.ensures.takes _ (all text is)) in
    ap (keys_of_table reading table) none ∙ no_records reading table c.requires.lawful)
    ([], λ other. no_records reading table c.requires.lawful)

pub returns-in_err-layout-clause-keys : goal.returns-in_err-layout-clause-keys
returns-in_err-layout-clause-keys g c known all =
    let table = c.args.table.now in
    let header = fields_of c.read.new.fields in
    let p = err_from_is_err_and c.from_residual-in_err-layout.result c.from_residual-in_err-layout.ensures.1 in
    let f = c.in_err-layout.field-0.0 in
    rw (p.1, p.2)
    (fault_of_known known f (keys_of_table reading table)
    (λ text is other. let took = rw c.if-not-found.false at (c.in_ok-found.ensures.takes _ (all text is)) in
    ap (keys_of_table reading table) took.2 ∙ header_fails reading table header took.0 f (rw c.as_slice.ensures at (c.in_err-layout.ensures.fault (λ e. other (inr e)))))
    (header ∷ [], λ other. header_fails reading table header [] f (rw c.as_slice.ensures at (c.in_err-layout.ensures.fault (λ e. other (inr e))))))

pub returns-clause-keys : goal.returns-clause-keys
returns-clause-keys g c known all =
    let table = c.args.table.now in
    let header = fields_of c.read.new.fields in
    let layout = rw c.as_slice.ensures at c.in_ok-layout.ensures.ok in
    let some = c.keys_after.ensures.some header layout.1 in
    of_known known c.keys_after.result (λ keys. keys.items) (keys_of_table reading table)
    (λ text is. let took = rw c.if-not-found.false at (c.in_ok-found.ensures.takes _ (all text is)) in
    rw (took.2, header_passes reading table header took.0 layout.0) (c.keys_after.ensures.loads header took.0 layout.1 took.1))
    (header ∷ some.0, rw (header_passes reading table header some.0 layout.0) some.1)
