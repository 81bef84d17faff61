use Rattle.std.proofs.Common.{inl, sym}
use Rattle.std.proofs.lemmas.Result.{err_from_is_err_and}
use Rattle.csv.specs.Records.{fields_of}
use Rattle.tiles.proofs.CopyLemmas.{header_read}
use Rattle.tiles.proofs.FaultLemmas.{failed_read, header_fails, reason_of_load}
use Rattle.tiles.specs.PlainRecords.{HasNoneLeft}
use Rattle.tiles.proofs.reading.read_layout.Goals as goal

pub returns-in_err-read_header-clause-fault : goal.returns-in_err-read_header-clause-fault
returns-in_err-read_header-clause-fault g c =
    let p = err_from_is_err_and c.from_residual.result c.from_residual.ensures.1 in
    rw (p.1, p.2)
    (inl (failed_read c.read_header.new.self (HasNoneLeft g.R.Read.remaining c.args.records.now) c.in_err-read_header.field-0.0 c.in_err-read_header.ensures.fault))

pub returns-in_err-read_header-clause-read_failed : goal.returns-in_err-read_header-clause-read_failed
returns-in_err-read_header-clause-read_failed g c =
    let p = err_from_is_err_and c.from_residual.result c.from_residual.ensures.1 in
    rw (p.1, p.2)
    (reason_of_load c.read_header.new.self (HasNoneLeft g.R.Read.remaining c.args.records.now) c.in_err-read_header.field-0.0 c.in_err-read_header.ensures.fault)

pub returns-clause-header : goal.returns-clause-header
returns-clause-header g c =
    header_read g.R.Read.remaining c.args.records.now c.read_header.new.self c.args.table.now.columns (fields_of c.read_header.new.fields) c.layout_of.result
    (rw c.as_slice.ensures at c.layout_of.ensures.ok) (λ rest gives. c.in_ok-read_header.ensures.takes rest gives)

pub returns-clause-fault : goal.returns-clause-fault
returns-clause-fault g c =
    header_fails g.R.Read.remaining c.args.records.now c.read_header.new.self c.args.table.now.columns (fields_of c.read_header.new.fields) c.layout_of.result
    (rw c.as_slice.ensures at c.layout_of.ensures.fault) (λ rest gives. c.in_ok-read_header.ensures.takes rest gives)
