use Rattle.std.proofs.Common.{refl, ◌≡◌, ◌≢◌, ◌⊎◌, sym, true, ◌∷◌, ◌++◌, ◌+◌, [], ℕ, List, ap, arith, if◌then◌else◌, length, map}
use Rattle.std.proofs.Common.{subst}
use Rattle.std.specs.Prelude.{nat_lt}
use Rattle.table_model.specs.Loading.{Record}
use Rattle.tiles.specs.Copies.{AreWritten, tiles}
use Rattle.tiles.specs.Faults.{AreSpoilt, IsCopyFault, IsTableFault, IsUntiled, is_copy_of_reading}
use Rattle.tiles.specs.PlainRecords.{HasLeft}
use Rattle.tiles.specs.RecordLines.{SpellsNoGeometry, field_in, line_of, names_of}
use Rattle.tiles.specs.Texts.{Grow}
use Rattle.tiles.specs.declared.faults.CopyFault.TheVariants as copy
use Rattle.tiles.proofs.CopyLemmas.{of_table, tables_written, tiles_size}
use Rattle.tiles.proofs.FaultLemmas.{fails_later, left_spoilt, other_reason, memory_is_no_reading, none_spoilt, of_header}
use Rattle.tiles.proofs.FaultLemmas.{of_memory, of_read, reason, returned}
use Rattle.tiles.proofs.copying.write_tiles.Goals as goal

-- a record that isn't written: it isn't as long as the header, or its text in the column isn't that of a geometry
abbrev left_bad : ℕ → List ℕ → ℕ → Record → Type 0
left_bad width places column fields = (length fields ≢ width) ⊎ SpellsNoGeometry (field_in places fields column)

pub returns-clause-tiles : goal.returns-clause-tiles
returns-clause-tiles g c known all =
    let h = c.in_ok-layout.ensures.header in
    let r = c.in_ok-copy_records.ensures.added in
    let part = c.args.part.now in
    let header = names_of part.table.now.columns part.columns.now ++ map (λ mark. mark.now) part.marks in
    let cells = c.args.cells.now in
    let places = c.in_ok-layout.layout.places.items in
    let old = g.T.CellTexts.texts c.args.texts.now in
    let mid = g.T.CellTexts.texts c.put_headers.new.texts in
    let new = g.T.CellTexts.texts c.copy_records.new.texts in
    let n = length c.boxes.result.now + 1 in
    let count = tiles_size cells places c.args.column part.columns.now r.0 in
    let boxes = ap length c.boxes.ensures in
    let size : length (tiles cells places c.args.column part.columns.now r.0) ≡ n = omega (arith, count, boxes) in
    let headers = subst (λ (l : Record). Grow old mid
    (λ k. if nat_lt k n then line_of l else [])) c.in_ok-marked_names.ensures c.in_ok-counts.ensures.texts in (
      h.0 ∷ r.0,
      of_table g.R.Read.remaining known c.args.records.now c.read_layout.new.records part.table.now.columns h.0 c.in_ok-layout.layout.width r.0
          all h.3 h.2 h.1.width r.1,
      subst (λ (p : List ℕ). AreWritten old new header
          (tiles cells p c.args.column part.columns.now r.0) c.copy_records.new.counts.items) h.1.places
          (tables_written old mid new header
          (tiles cells places c.args.column part.columns.now r.0) c.copy_records.new.counts.items n size headers r.2),
    )

pub returns-in_err-layout-clause-fault : goal.returns-in_err-layout-clause-fault
returns-in_err-layout-clause-fault g c known all =
    let columns = c.args.part.now.table.now.columns in
    let failures = g.T.CellTexts.failures c.args.texts.now in
    returned (IsCopyFault (IsTableFault known columns) failures failures) c.from_residual.result
    (copy.Load c.in_err-layout.field-0.0) c.from_residual.ensures.1
    (refl, of_header g.R.Read.remaining known c.args.records.now columns c.in_err-layout.field-0.0 all c.in_err-layout.ensures.fault)

pub returns-in_err-counts-clause-fault : goal.returns-in_err-counts-clause-fault
returns-in_err-counts-clause-fault g c known all =
    let columns = c.args.part.now.table.now.columns in
    let old = g.T.CellTexts.failures c.args.texts.now in
    let new = g.T.CellTexts.failures c.put_headers.new.texts in
    returned (IsCopyFault
    (IsTableFault known columns) old new) c.from_residual-in_err-counts.result c.in_err-counts.field-0.0 c.from_residual-in_err-counts.ensures.1
    (of_memory known columns old new c.in_err-counts.field-0.0 c.in_err-counts.ensures.fault)

pub returns-in_err-copy_records-clause-fault : goal.returns-in_err-copy_records-clause-fault
returns-in_err-copy_records-clause-fault g c known all =
    let columns = c.args.part.now.table.now.columns in
    let old = g.T.CellTexts.failures c.args.texts.now in
    let mid = g.T.CellTexts.failures c.put_headers.new.texts in
    let new = g.T.CellTexts.failures c.copy_records.new.texts in
    let fault = c.in_err-copy_records.field-0.0 in
    returned (IsCopyFault
    (IsTableFault known columns) old new) c.from_residual-in_err-copy_records.result fault c.from_residual-in_err-copy_records.ensures.1
    (fails_later (IsTableFault known columns) old mid new fault c.in_ok-counts.ensures.same
    (of_read c.copy_records.new.records (HasLeft g.R.Read.remaining c.read_layout.new.records
    (left_bad c.in_ok-layout.layout.width c.in_ok-layout.layout.places.items c.args.column)) known columns mid new fault c.in_err-copy_records.ensures.fault))

pub returns-in_err-layout-clause-read_failed : goal.returns-in_err-layout-clause-read_failed
returns-in_err-layout-clause-read_failed g c known all =
    let columns = c.args.part.now.table.now.columns in
    let Bad : Record → Record → Type 0 = IsUntiled columns c.args.column in
    returned (λ f. is_copy_of_reading f ≡ true → (c.read_layout.new.records.read_failed ≡ true) ⊎ AreSpoilt Bad known)
    c.from_residual.result (copy.Load c.in_err-layout.field-0.0) c.from_residual.ensures.1
    (λ reading. other_reason c.read_layout.new.records (none_spoilt g.R.Read.remaining known c.args.records.now Bad all)
    (c.in_err-layout.ensures.read_failed reading))

pub returns-in_err-counts-clause-read_failed : goal.returns-in_err-counts-clause-read_failed
returns-in_err-counts-clause-read_failed g c known all =
    let columns = c.args.part.now.table.now.columns in
    let old = g.T.CellTexts.failures c.args.texts.now in
    let new = g.T.CellTexts.failures c.put_headers.new.texts in
    returned (λ f. is_copy_of_reading f ≡ true → (c.read_layout.new.records.read_failed ≡ true) ⊎ AreSpoilt
    (IsUntiled columns c.args.column) known)
    c.from_residual-in_err-counts.result c.in_err-counts.field-0.0 c.from_residual-in_err-counts.ensures.1
    (λ reading. memory_is_no_reading old new c.in_err-counts.field-0.0 c.in_err-counts.ensures.fault reading)

pub returns-in_err-copy_records-clause-read_failed : goal.returns-in_err-copy_records-clause-read_failed
returns-in_err-copy_records-clause-read_failed g c known all =
    let columns = c.args.part.now.table.now.columns in
    let column = c.args.column in
    let mid = g.T.CellTexts.failures c.put_headers.new.texts in
    let new = g.T.CellTexts.failures c.copy_records.new.texts in
    let fault = c.in_err-copy_records.field-0.0 in
    let layout = c.in_ok-layout.layout in
    let h = c.in_ok-layout.ensures.header in
    let Bad : Record → Record → Type 0 = IsUntiled columns column in
    let Left : Record → Type 0 = left_bad layout.width layout.places.items column in
    let turn : (fields : Record) → Left fields → Bad h.0 fields =
    λ fields bad. subst (λ p. (length fields ≢ length h.0) ⊎ SpellsNoGeometry (field_in p fields column)) h.1.places
    (subst (λ (n : ℕ). (length fields ≢ n) ⊎ SpellsNoGeometry (field_in layout.places.items fields column)) h.1.width bad) in
    returned (λ f. is_copy_of_reading f ≡ true → (c.copy_records.new.records.read_failed ≡ true) ⊎ AreSpoilt Bad known)
    c.from_residual-in_err-copy_records.result fault c.from_residual-in_err-copy_records.ensures.1
    (reason c.copy_records.new.records (HasLeft g.R.Read.remaining c.read_layout.new.records Left)
    (AreSpoilt Bad known) mid new fault
    (left_spoilt g.R.Read.remaining known c.args.records.now c.read_layout.new.records h.0 Left Bad turn all h.3)
    c.in_err-copy_records.ensures.fault)
