use Rattle.std.proofs.Common.{◌≢◌, ◌⊎◌, inl, inr, ◌≡◌, ◌∙◌, ◌++◌, ◌∷◌, [], arith, length, refl, rules}
use Rattle.std.proofs.lemmas.List.{length_push}
use Rattle.csv.specs.Records.{fields_of}
use Rattle.tiles.proofs.CopyLemmas.{added_more, added_none, read_end, read_more, read_none, room}
use Rattle.table_model.specs.Loading.{Record}
use Rattle.tiles.proofs.FaultLemmas.{returned, spoilt_record, uneven_later}
use Rattle.tiles.specs.Faults.{IsCopyFault}
use Rattle.tiles.specs.PlainRecords.{HasLeft, IsReadFault}
use Rattle.tiles.specs.RecordLines.{SpellsNoGeometry, field_in}
use Rattle.tiles.specs.declared.faults.CopyFault.TheVariants as copy
use Rattle.tiles.proofs.copying.copy_records.Goals as goal

pub loop-place-init : goal.loop-place-init
loop-place-init g c = record {
  ready = c.requires.ready;
  same = refl;
  read = (
    [],
    refl,
    read_none g.R.Read.remaining c.args.records.now c.args.layout.now.width,
    added_none
        (g.T.CellTexts.texts c.args.texts.now) c.args.cells.now c.args.layout.now.places.items c.args.column c.args.columns.now c.args.counts.now.items c.requires.counts,
  );
}

pub returns-then-not-branch-clause-added : goal.returns-then-not-branch-clause-added
returns-then-not-branch-clause-added g c =
    let m = c.loop-place.invariant.read in (
      m.0,
      read_end g.R.Read.remaining c.args.records.now c.loop-place.records c.args.layout.now.width m.0 m.2
          (λ rest gives. rw c.if-not-branch.true at (c.in_ok-read_even.ensures.takes rest gives)),
      m.3,
    )

pub copy_record-requires-clause-room : goal.copy_record-requires-clause-room
copy_record-requires-clause-room g c =
    let m = c.loop-place.invariant.read in
    room (g.T.CellTexts.texts c.args.texts.now)
    (g.T.CellTexts.texts c.loop-place.texts) c.args.cells.now c.args.layout.now.places.items c.args.column c.args.columns.now m.0 c.loop-place.counts.items m.3 (omega (arith, m.1))

pub loop-place-preserved : goal.loop-place-preserved
loop-place-preserved g c =
    let m = c.loop-place.invariant.read in
    let fields = fields_of c.read_even.new.fields in
    let cells = c.args.cells.now in
    let places = c.args.layout.now.places.items in
    let columns = c.args.columns.now in
    let size : length c.copy_record.new.counts.items ≡ length c.loop-place.counts.items = search rules in
    let more = length_push m.0 fields in
    record {
      ready = c.in_ok-read_even.ensures.ready;
      same = c.in_ok-copy_record.ensures.same ∙ c.loop-place.invariant.same;
      read = (
        m.0 ++ fields ∷ [],
        omega (arith, m.1, more),
        read_more g.R.Read.remaining c.args.records.now c.loop-place.records c.read_even.new.self c.args.layout.now.width m.0 fields m.2 (c.in_ok-read_even.ensures.width c.if-not-branch.false)
            (λ rest gives. rw c.if-not-branch.false at (c.in_ok-read_even.ensures.takes rest gives)),
        added_more (g.T.CellTexts.texts c.args.texts.now) (g.T.CellTexts.texts c.loop-place.texts)
            (g.T.CellTexts.texts c.copy_record.new.texts) cells places c.args.column columns m.0 fields
            c.loop-place.counts.items c.copy_record.new.counts.items m.3
            (rw c.as_slice.ensures.value at c.in_ok-copy_record.ensures.texts) size
            (rw c.as_slice.ensures.value at c.in_ok-copy_record.ensures.counted),
      );
    }

pub returns-in_err-read_even-clause-fault : goal.returns-in_err-read_even-clause-fault
returns-in_err-read_even-clause-fault g c =
    let m = c.loop-place.invariant.read in
    let width = c.args.layout.now.width in
    let failures = g.T.CellTexts.failures in
    let remaining = g.R.Read.remaining in
    let old = c.args.records.now in
    let Bad : Record → Type 0 = λ fields. (length fields ≢ width) ⊎ SpellsNoGeometry
    (field_in c.args.layout.now.places.items fields c.args.column) in
    returned (IsCopyFault (IsReadFault c.read_even.new.self (HasLeft remaining old Bad)) (failures c.args.texts.now)
    (failures c.loop-place.texts))
    c.from_residual.result (copy.Load c.in_err-read_even.field-0.0) c.from_residual.ensures.1
    (uneven_later remaining old c.loop-place.records c.read_even.new.self width m.0 Bad (failures c.args.texts.now)
    (failures c.loop-place.texts)
    c.in_err-read_even.field-0.0 m.2 (λ fields uneven. inl uneven) c.loop-place.invariant.same c.in_err-read_even.ensures.fault)

pub returns-in_err-copy_record-clause-fault : goal.returns-in_err-copy_record-clause-fault
returns-in_err-copy_record-clause-fault g c =
    let m = c.loop-place.invariant.read in
    let width = c.args.layout.now.width in
    let failures = g.T.CellTexts.failures in
    let remaining = g.R.Read.remaining in
    let old = c.args.records.now in
    let new = c.read_even.new.self in
    let fields = fields_of c.read_even.new.fields in
    let places = c.args.layout.now.places.items in
    let Bad : Record → Type 0 = λ r. (length r ≢ width) ⊎ SpellsNoGeometry (field_in places r c.args.column) in
    returned (IsCopyFault (IsReadFault new (HasLeft remaining old Bad)) (failures c.args.texts.now)
    (failures c.copy_record.new.texts))
    c.from_residual-in_err-copy_record.result c.in_err-copy_record.field-0.0 c.from_residual-in_err-copy_record.ensures.1
    (spoilt_record remaining old c.loop-place.records new width m.0 fields Bad
    (SpellsNoGeometry (field_in places fields c.args.column))
    (failures c.args.texts.now) (failures c.loop-place.texts)
    (failures c.copy_record.new.texts) c.in_err-copy_record.field-0.0 m.2
    (λ rest gives. rw c.if-not-branch.false at (c.in_ok-read_even.ensures.takes rest gives))
    (λ bad. inr bad) c.loop-place.invariant.same
    (rw c.as_slice.ensures.value at c.in_err-copy_record.ensures.fault))
