use Rattle.std.proofs.Common.{◌≡◌, ◌≢◌, ◌⊎◌, ◌∙◌, ap, length, refl, sym, true}
use Rattle.table_model.specs.Loading.{Record}
use Rattle.csv.specs.Records.{fields_of}
use Rattle.tiles.specs.Faults.{AreSpoilt, IsCopyFault, IsTableFault, IsUneven, is_copy_of_reading}
use Rattle.tiles.specs.PlainRecords.{HasLeft}
use Rattle.tiles.specs.RecordLines.{names_of}
use Rattle.tiles.specs.declared.faults.CopyFault.TheVariants as copy
use Rattle.tiles.proofs.CopyLemmas.{stretches_of_table}
use Rattle.tiles.proofs.FaultLemmas.{left_spoilt, none_spoilt, of_header, other_reason, result_of_read, result_reason, returned}
use Rattle.tiles.proofs.stretching.write_stretches.Goals as goal

pub returns-clause-stretches : goal.returns-clause-stretches
returns-clause-stretches g c known all =
    let h = c.in_ok-layout.ensures.header in
    let table = c.args.part.now.table.now in
    let columns = c.args.part.now.columns.now in
    let named = c.in_ok-names.ensures.fields ∙ ap (λ cs. names_of cs columns) c.as_slice.ensures in
    stretches_of_table g.R.Read.remaining known c.args.records.now c.read_layout.new.records table.columns h.0 c.in_ok-layout.layout.width
    c.in_ok-layout.layout.places.items columns c.at_least_one.result c.args.most (fields_of c.names.new.line)
    (names_of table.columns columns)
    (g.T.CellTexts.texts c.args.texts.now) (g.T.CellTexts.texts c.copy_stretches.new.texts) (λ v. v.items) c.copy_stretches.result
    all h.3 h.2 h.1.width h.1.places c.at_least_one.ensures.size named c.copy_stretches.ensures.written

pub returns-in_err-layout-clause-fault : goal.returns-in_err-layout-clause-fault
returns-in_err-layout-clause-fault g c known all =
    let columns = c.args.part.now.table.now.columns in
    let failures = g.T.CellTexts.failures c.args.texts.now in
    returned (IsCopyFault (IsTableFault known columns) failures failures) c.from_residual.result
    (copy.Load c.in_err-layout.field-0.0) c.from_residual.ensures.1
    (refl, of_header g.R.Read.remaining known c.args.records.now columns c.in_err-layout.field-0.0 all c.in_err-layout.ensures.fault)

pub returns-clause-fault : goal.returns-clause-fault
returns-clause-fault g c known all =
    result_of_read c.copy_stretches.new.records (HasLeft g.R.Read.remaining c.read_layout.new.records
    (λ fields. length fields ≢ c.in_ok-layout.layout.width)) known c.args.part.now.table.now.columns
    (g.T.CellTexts.failures c.args.texts.now) (g.T.CellTexts.failures c.copy_stretches.new.texts) c.copy_stretches.result
    c.copy_stretches.ensures.fault

pub returns-in_err-layout-clause-read_failed : goal.returns-in_err-layout-clause-read_failed
returns-in_err-layout-clause-read_failed g c known all =
    returned (λ f. is_copy_of_reading f ≡ true → (c.read_layout.new.records.read_failed ≡ true) ⊎ AreSpoilt IsUneven known)
    c.from_residual.result (copy.Load c.in_err-layout.field-0.0) c.from_residual.ensures.1
    (λ reading. other_reason c.read_layout.new.records (none_spoilt g.R.Read.remaining known c.args.records.now IsUneven all)
    (c.in_err-layout.ensures.read_failed reading))

pub returns-clause-read_failed : goal.returns-clause-read_failed
returns-clause-read_failed g c known all =
    let h = c.in_ok-layout.ensures.header in
    let width = c.in_ok-layout.layout.width in
    let Left : Record → Type 0 = λ fields. length fields ≢ width in
    let turn : (fields : Record) → Left fields → IsUneven h.0 fields = λ fields bad. rw (sym h.1.width) bad in
    result_reason c.copy_stretches.new.records (HasLeft g.R.Read.remaining c.read_layout.new.records Left)
    (AreSpoilt IsUneven known)
    (g.T.CellTexts.failures c.args.texts.now) (g.T.CellTexts.failures c.copy_stretches.new.texts) c.copy_stretches.result
    (left_spoilt g.R.Read.remaining known c.args.records.now c.read_layout.new.records h.0 Left IsUneven turn all h.3)
    c.copy_stretches.ensures.fault
