use Rattle.std.proofs.Common.{◌-◌, List, Ok, arith, inl, [], ◌∙◌, ◌≡◌, ◌∷◌, ap, inr, length, refl}
use Rattle.std.proofs.lemmas.Result.{err_from_is_err_and}
use Rattle.csv.specs.Records.{fields_of}
use Rattle.feature_table.proofs.LastRecordLemmas.{shows_failure, shows_header, shows_key}
use Rattle.feature_table.proofs.LoadLemmas.{header_fails, no_header, rows_fail, rows_pass}
use Rattle.feature_table.proofs.GeometryFieldLemmas.{table_rows}
use Rattle.feature_table.specs.Records.{asked}
use Rattle.feature_table.specs.GeometryFields.{reading}
use Rattle.feature_table.specs.ReadRows.{rows_read}
use Rattle.table_model.specs.Loading.{Record, load}
use Rattle.feature_table.proofs.tables.Table.load_into.Goals.{In_ok-rows}
use Rattle.feature_table.proofs.tables.Table.load_into.Goals as goal

pub returns-then-not-found-clause-loads : goal.returns-then-not-found-clause-loads
returns-then-not-found-clause-loads g c all gives other =
    let none = rw c.if-not-found.true at (c.in_ok-found.ensures.takes all gives) in
    ap (load reading c.args.table.now) none ∙ no_header reading c.args.table.now c.requires.lawful

pub returns-in_err-layout-clause-loads : goal.returns-in_err-layout-clause-loads
returns-in_err-layout-clause-loads g c all gives =
    let table = c.args.table.now in
    let header = fields_of c.next_record.new.record in
    let took = rw c.if-not-found.false at (c.in_ok-found.ensures.takes all gives) in
    let p = err_from_is_err_and c.from_residual-in_err-layout.result c.from_residual-in_err-layout.ensures.1 in
    rw (p.1, p.2) (λ other.
    let some = rw c.as_slice.ensures at (c.in_err-layout.ensures.fault (λ e. other (inr e))) in
    ap (load reading table) took.2 ∙ header_fails reading table header took.0 c.in_err-layout.field-0.0 some)

pub returns-in_err-read-clause-loads : goal.returns-in_err-read-clause-loads
returns-in_err-read-clause-loads g c all gives =
    let table = c.args.table.now in
    let header = fields_of c.next_record.new.record in
    let took = rw c.if-not-found.false at (c.in_ok-found.ensures.takes all gives) in
    let layout = rw c.as_slice.ensures at c.in_ok-layout.ensures.ok in
    let p = err_from_is_err_and c.from_residual-in_err-read.result c.from_residual-in_err-read.ensures.1 in
    rw (p.1, p.2) (λ other.
    ap (load reading table) took.2
    ∙ rows_fail reading table header took.0 c.in_err-read.field-0.0 layout.0
    (c.in_err-read.ensures.loads header took.0 layout.1 took.1 other))

pub returns-in_err-rows-clause-loads : goal.returns-in_err-rows-clause-loads
returns-in_err-rows-clause-loads g c all gives =
    let table = c.args.table.now in
    let header = fields_of c.next_record.new.record in
    let took = rw c.if-not-found.false at (c.in_ok-found.ensures.takes all gives) in
    let layout = rw c.as_slice.ensures at c.in_ok-layout.ensures.ok in
    let rows = c.in_ok-read.ensures.loads header took.0 layout.1 took.1 in
    let p = err_from_is_err_and c.from_residual-in_err-rows.result c.from_residual-in_err-rows.ensures.1 in
    rw (p.1, p.2) (λ other.
    ap (load reading table) took.2 ∙ rows_pass reading table header took.0 (rows_read (length table.columns) c.in_ok-read.read)
    layout.0 rows
    ∙ (rw c.len.ensures at (c.in_err-rows.ensures.fault (λ e. other (inr e)))))

pub returns-clause-loads : goal.returns-clause-loads
returns-clause-loads g c all gives =
    let table = c.args.table.now in
    let header = fields_of c.next_record.new.record in
    let took = rw c.if-not-found.false at (c.in_ok-found.ensures.takes all gives) in
    let layout = rw c.as_slice.ensures at c.in_ok-layout.ensures.ok in
    let rows = c.in_ok-read.ensures.loads header took.0 layout.1 took.1 in
    ap (load reading table) took.2 ∙ rows_pass reading table header took.0 (rows_read (length table.columns) c.in_ok-read.read)
    layout.0 rows ∙ (rw c.len.ensures at c.in_ok-rows.ensures.ok)

pub returns-in_err-found-clause-records : goal.returns-in_err-found-clause-records
returns-in_err-found-clause-records g c =
    let p = err_from_is_err_and c.from_residual.result c.from_residual.ensures.1 in
    rw (p.1, p.2) (
      [],
      tt,
      λ other. absurd (other c.in_err-found.ensures.fails),
      shows_failure [] _ _ _
          c.in_err-found.ensures.fails,
    )

pub returns-in_err-found-clause-refused : goal.returns-in_err-found-clause-refused
returns-in_err-found-clause-refused g c all gives =
    let p = err_from_is_err_and c.from_residual.result c.from_residual.ensures.1 in
    rw (p.1, p.2) (shows_failure all _ _ _ c.in_err-found.ensures.fails)

pub returns-then-not-found-clause-records : goal.returns-then-not-found-clause-records
returns-then-not-found-clause-records g c = (
  [],
  tt,
  λ other. no_header reading c.args.table.now c.requires.lawful,
  λ other.
      (c.clear.ensures.fields, tt),
)

pub returns-then-not-found-clause-refused : goal.returns-then-not-found-clause-refused
returns-then-not-found-clause-refused g c all gives =
    let none = rw c.if-not-found.true at (c.in_ok-found.ensures.takes all gives) in
    rw none (λ other. (c.clear.ensures.fields, tt))

pub returns-in_err-layout-clause-records : goal.returns-in_err-layout-clause-records
returns-in_err-layout-clause-records g c =
    let table = c.args.table.now in
    let header = fields_of c.next_record.new.record in
    let p = err_from_is_err_and c.from_residual-in_err-layout.result c.from_residual-in_err-layout.ensures.1 in
    let fault = rw c.as_slice.ensures at c.in_err-layout.ensures.fault in
    rw (p.1, p.2) (
      header ∷ [],
      tt,
      λ other. header_fails reading table header [] c.in_err-layout.field-0.0 (fault (λ e. other (inr e))),
      shows_header table.columns header [] _ _ fault,
    )

pub returns-in_err-layout-clause-refused : goal.returns-in_err-layout-clause-refused
returns-in_err-layout-clause-refused g c all gives =
    let table = c.args.table.now in
    let header = fields_of c.next_record.new.record in
    let took = rw c.if-not-found.false at (c.in_ok-found.ensures.takes all gives) in
    let p = err_from_is_err_and c.from_residual-in_err-layout.result c.from_residual-in_err-layout.ensures.1 in
    let fault = rw c.as_slice.ensures at c.in_err-layout.ensures.fault in
    rw (p.1, p.2, took.2) (shows_header table.columns header took.0 _ _ fault)

pub returns-in_err-read-clause-records : goal.returns-in_err-read-clause-records
returns-in_err-read-clause-records g c =
    let table = c.args.table.now in
    let header = fields_of c.next_record.new.record in
    let layout = rw c.as_slice.ensures at c.in_ok-layout.ensures.ok in
    let some = c.in_err-read.ensures.records header layout.1 in
    let p = err_from_is_err_and c.from_residual-in_err-read.result c.from_residual-in_err-read.ensures.1 in
    rw (p.1, p.2) (
      header ∷ some.0,
      tt,
      λ other. rows_fail reading table header some.0 c.in_err-read.field-0.0 layout.0
          (some.1 other),
      some.2,
    )

pub returns-in_err-read-clause-refused : goal.returns-in_err-read-clause-refused
returns-in_err-read-clause-refused g c all gives =
    let header = fields_of c.next_record.new.record in
    let took = rw c.if-not-found.false at (c.in_ok-found.ensures.takes all gives) in
    let layout = rw c.as_slice.ensures at c.in_ok-layout.ensures.ok in
    let p = err_from_is_err_and c.from_residual-in_err-read.result c.from_residual-in_err-read.ensures.1 in
    rw (p.1, p.2, took.2) (c.in_err-read.ensures.refused header took.0 layout.1 took.1)

pub returns-in_err-rows-clause-records : goal.returns-in_err-rows-clause-records
returns-in_err-rows-clause-records g c =
    let table = c.args.table.now in
    let header = fields_of c.next_record.new.record in
    let layout = rw c.as_slice.ensures at c.in_ok-layout.ensures.ok in
    let some = c.in_ok-read.ensures.records header layout.1 in
    let p = err_from_is_err_and c.from_residual-in_err-rows.result c.from_residual-in_err-rows.ensures.1 in
    let fault = rw c.len.ensures at c.in_err-rows.ensures.fault in
    let rows = rows_read (length table.columns) c.in_ok-read.read in
    rw (p.1, p.2) (
      header ∷ some.0,
      tt,
      λ other. rows_pass reading table header some.0 rows layout.0 some.1 ∙ fault (λ e. other (inr e)),
      shows_key header some.0 _ table.key rows _ fault,
    )

pub returns-in_err-rows-clause-refused : goal.returns-in_err-rows-clause-refused
returns-in_err-rows-clause-refused g c all gives =
    let table = c.args.table.now in
    let p = err_from_is_err_and c.from_residual-in_err-rows.result c.from_residual-in_err-rows.ensures.1 in
    let fault = rw c.len.ensures at c.in_err-rows.ensures.fault in
    let header = fields_of c.next_record.new.record in
    let took = rw c.if-not-found.false at (c.in_ok-found.ensures.takes all gives) in
    rw (p.1, p.2, took.2) (shows_key header took.0 _ table.key (rows_read (length table.columns) c.in_ok-read.read) _ fault)

-- the rows are those of the header and of the records that were read
loaded : (g : _) (c : In_ok-rows g) → (all : List Record) × (load reading c.args.table.now all ≡ Ok c.in_ok-rows.rows)
loaded g c =
    let table = c.args.table.now in
    let header = fields_of c.next_record.new.record in
    let layout = rw c.as_slice.ensures at c.in_ok-layout.ensures.ok in
    let some = c.in_ok-read.ensures.records header layout.1 in (
      header ∷ some.0,
      rows_pass reading table header some.0 (rows_read (length table.columns) c.in_ok-read.read) layout.0 some.1
          ∙ (rw c.len.ensures at c.in_ok-rows.ensures.ok),
    )

pub returns-clause-records : goal.returns-clause-records
returns-clause-records g c = let all = loaded g ((goal.at.returns-clause-records g c).In_ok-rows) in (all.0, tt, all.1, tt)

pub returns-clause-rows : goal.returns-clause-rows
returns-clause-rows g c =
    let all = loaded g ((goal.at.returns-clause-rows g c).In_ok-rows) in
    table_rows c.args.table.now all.0 _ all.1

pub build-requires : goal.build-requires
build-requires g c =
    let all = loaded g ((goal.at.build-requires g c).In_ok-rows) in
    table_rows c.args.table.now all.0 c.in_ok-rows.rows all.1

pub invariant_of-result : goal.invariant_of-result
invariant_of-result g c =
    let all = loaded g ((goal.at.invariant_of-result g c).In_ok-rows) in (
      record {
        definition = c.args.table.now;
        is_lawful = c.requires.lawful;
        are_rows = table_rows c.args.table.now all.0 _
            all.1;
      },
      c.in_ok-indexes.ensures,
    )

pub returns-in_err-indexes-clause-loads : goal.returns-in_err-indexes-clause-loads
returns-in_err-indexes-clause-loads g c all gives =
    let p = err_from_is_err_and c.from_residual-in_err-indexes.result c.from_residual-in_err-indexes.ensures.1 in
    rw (p.1, p.2) (λ other. absurd (other (inr refl)))

pub returns-in_err-indexes-clause-records : goal.returns-in_err-indexes-clause-records
returns-in_err-indexes-clause-records g c =
    let p = err_from_is_err_and c.from_residual-in_err-indexes.result c.from_residual-in_err-indexes.ensures.1 in
    rw (p.1, p.2) ([], tt, λ other. absurd (other (inr refl)), λ other. absurd (other (inr refl)))

pub returns-in_err-indexes-clause-refused : goal.returns-in_err-indexes-clause-refused
returns-in_err-indexes-clause-refused g c all gives =
    let p = err_from_is_err_and c.from_residual-in_err-indexes.result c.from_residual-in_err-indexes.ensures.1 in
    rw (p.1, p.2) (λ other. absurd (other (inr refl)))

pub returns-in_err-found-clause-before : goal.returns-in_err-found-clause-before
returns-in_err-found-clause-before g c all gives =
    let none : asked c.next_record.new.records - 1 ≡ 0 = omega (arith, c.next_record.ensures.asked, c.requires.none) in
    let p = err_from_is_err_and c.from_residual.result c.from_residual.ensures.1 in
    rw (p.1, p.2) (λ failed. inl none)

pub returns-in_err-read-clause-before : goal.returns-in_err-read-clause-before
returns-in_err-read-clause-before g c all gives =
    let table = c.args.table.now in
    let header = fields_of c.next_record.new.record in
    let took = rw c.if-not-found.false at (c.in_ok-found.ensures.takes all gives) in
    let layout = rw c.as_slice.ensures at c.in_ok-layout.ensures.ok in
    let p = err_from_is_err_and c.from_residual-in_err-read.result c.from_residual-in_err-read.ensures.1 in
    let places : asked c.read_rows.new.records - 1 - 1 ≡ asked c.read_rows.new.records - 2 = omega arith in
    rw (p.1, p.2, took.2) (λ failed. inr (
      layout.0,
      rw places (c.in_err-read.ensures.before header took.0 layout.1 took.1
          failed),
    ))

pub rows_by_key-requires : goal.rows_by_key-requires
rows_by_key-requires g c = rw c.len.ensures c.in_ok-read.ensures.width
