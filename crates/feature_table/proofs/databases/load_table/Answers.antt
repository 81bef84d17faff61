-- The definition lent is that at the place.
use Rattle.std.proofs.Common.{ap}
use Rattle.std.proofs.lemmas.Option.{get_or_from_slice_get}
use Rattle.table_model.specs.Databases.{at_table}
use Rattle.feature_table.proofs.databases.load_table.Goals as goal

pub returns-in-Ok-clause-loads : goal.returns-in-Ok-clause-loads
returns-in-Ok-clause-loads g c text d known =
    let here = get_or_from_slice_get c.args.schema.now c.args.place c.table.result.now d c.table.ensures.value in
    rw here (ap (at_table c.args.place) (c.in-Ok.ensures.loads text known))

pub returns-in-Ok-clause-records : goal.returns-in-Ok-clause-records
returns-in-Ok-clause-records g c d =
    let here = get_or_from_slice_get c.args.schema.now c.args.place c.table.result.now d c.table.ensures.value in
    let some = c.in-Ok.ensures.records in
    (some.0, some.1, rw here (ap (at_table c.args.place) some.2), tt)

pub returns-in-Err-clause-loads : goal.returns-in-Err-clause-loads
returns-in-Err-clause-loads g c text d known other =
    let here = get_or_from_slice_get c.args.schema.now c.args.place c.table.result.now d c.table.ensures.value in
    rw here (ap (at_table c.args.place) (c.in-Err.ensures.loads text known other))

pub returns-in-Err-clause-records : goal.returns-in-Err-clause-records
returns-in-Err-clause-records g c d =
    let here = get_or_from_slice_get c.args.schema.now c.args.place c.table.result.now d c.table.ensures.value in
    let some = c.in-Err.ensures.records in
    (some.0, some.1, λ other. rw here (ap (at_table c.args.place) (some.2 other)), some.3)
