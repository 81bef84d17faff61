-- The tables are those of some records, and where the texts are known these are the records of the texts.
use Rattle.std.proofs.Common.{◌≡◌, arith, length, map}
use Rattle.std.proofs.lemmas.List.{length-map}
use Rattle.std.proofs.lemmas.Result.{err_from_is_err_and}
use Rattle.feature_table.proofs.DatabaseLemmas.{loads_texts}
use Rattle.feature_table.proofs.GeometryFieldLemmas.{tables_database}
use Rattle.feature_table.proofs.ReaderRecords.{length-each}
use Rattle.feature_table.specs.GeometryFields.{reading}
use Rattle.feature_table.proofs.databases.Database.load_into.Goals as goal

pub invariant_of-result : goal.invariant_of-result
invariant_of-result g c =
    let readers = c.args.readers.items in
    let known = map g.R.Read.remaining readers in
    let many : length known ≡ length readers = simp length-map in
    let some = c.in_ok-tables.ensures.records.0 in
    let count : length some.records ≡ length c.args.schema.now = omega (arith, length-each known some.records some.are_of, many, c.requires) in
    tables_database c.args.schema.now some.records c.in_ok-tables.tables.items c.tables-definitions.ensures.lawful count some.loads

pub returns-in_err-tables-clause-loads : goal.returns-in_err-tables-clause-loads
returns-in_err-tables-clause-loads g c texts known =
    let p = err_from_is_err_and c.from_residual.result c.from_residual.ensures.1 in
    rw (p.1, p.2) (loads_texts reading c.args.schema.now _ _ _ texts c.in_err-tables.ensures.records.0 known).0

pub returns-in_err-tables-clause-earlier : goal.returns-in_err-tables-clause-earlier
returns-in_err-tables-clause-earlier g c texts known =
    let p = err_from_is_err_and c.from_residual.result c.from_residual.ensures.1 in
    rw (p.1, p.2) (loads_texts reading c.args.schema.now _ _ _ texts c.in_err-tables.ensures.records.0 known).1

pub returns-in_err-tables-clause-records : goal.returns-in_err-tables-clause-records
returns-in_err-tables-clause-records g c =
    let all = c.in_err-tables.ensures.records in
    let some = all.0 in
    let p = err_from_is_err_and c.from_residual.result c.from_residual.ensures.1 in
    rw (p.1, p.2) (record { records = some.records; are_of = some.are_of; loads = some.loads; earlier = some.earlier }, all.1)

pub returns-clause-loads : goal.returns-clause-loads
returns-clause-loads g c texts known = (loads_texts reading c.args.schema.now _ _ _ texts c.in_ok-tables.ensures.records.0 known).0

pub returns-clause-records : goal.returns-clause-records
returns-clause-records g c =
    let some = c.in_ok-tables.ensures.records.0 in
    (record { records = some.records; are_of = some.are_of; loads = some.loads; earlier = some.earlier }, tt)

pub returns-clause-database : goal.returns-clause-database
returns-clause-database g c =
    let readers = c.args.readers.items in
    let known = map g.R.Read.remaining readers in
    let many : length known ≡ length readers = simp length-map in
    let some = c.in_ok-tables.ensures.records.0 in
    let count : length some.records ≡ length c.args.schema.now = omega (arith, length-each known some.records some.are_of, many, c.requires) in
    tables_database c.args.schema.now some.records c.in_ok-tables.tables.items c.tables-definitions.ensures.lawful count some.loads
