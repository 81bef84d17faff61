use Rattle.std.proofs.Common.{◌+◌, ◌-◌, ◌≡◌, ◌∙◌, ap, arith, drop, length, refl, subst, sym}
use Rattle.std.proofs.lemmas.Result.{err_from_is_err_and}
use Rattle.feature_table.proofs.EachLemmas.{passed_front}
use Rattle.feature_table.specs.Records.{asked}
use Rattle.feature_table.proofs.FlatLemmas.{one_more_wide, row_appended}
use Rattle.feature_table.proofs.LastRecordLemmas.{shows_given, shows_read}
use Rattle.feature_table.proofs.LoadingLemmas.{AreRead, Midway, midway_end, midway_fault, midway_more, read_end, read_more, row_is_within}
use Rattle.feature_table.specs.FlatRows.{first_rows}
use Rattle.feature_table.specs.GeometryFields.{reading}
use Rattle.table_model.specs.Loading.{checked_rows}
use Rattle.feature_table.proofs.loading.read_rows.Goals as goal

pub returns-in_err-found-clause-loads : goal.returns-in_err-found-clause-loads
returns-in_err-found-clause-loads g c header records layout gives =
    let m = c.loop-place.invariant.midway header records layout gives in
    let took = c.in_err-found.ensures.takes header (drop c.loop-place.place records) layout m.gives in
    let rows = first_rows (length c.args.table.now.columns) c.loop-place.values c.loop-place.place in
    let p = err_from_is_err_and c.from_residual.result c.from_residual.ensures.1 in
    rw (p.1, p.2) (λ other. let t = took other in
    midway_fault _ _ reading c.args.table.now header records c.loop-place.place rows t.0 t.1 c.in_err-found.field-0.0 m t.2 t.3)

pub returns-then-not-found-clause-width : goal.returns-then-not-found-clause-width
returns-then-not-found-clause-width g c = ap length (c.in_ok-found.ensures.none c.if-not-found.true) ∙
    c.loop-place.invariant.width

pub returns-then-not-found-clause-loads : goal.returns-then-not-found-clause-loads
returns-then-not-found-clause-loads g c header records layout gives =
    let m = c.loop-place.invariant.midway header records layout gives in
    let rows = first_rows (length c.args.table.now.columns) c.loop-place.values c.loop-place.place in
    let took = rw c.if-not-found.true at (c.in_ok-found.ensures.takes header (drop c.loop-place.place records) layout m.gives) in
    rw (c.in_ok-found.ensures.none c.if-not-found.true) (midway_end _ _ reading c.args.table.now header records
    c.loop-place.place rows m took)

pub loop-place-preserved : goal.loop-place-preserved
loop-place-preserved g c =
    let wide = length c.args.table.now.columns in
    let old = c.loop-place.values in
    let new = c.push_next_row.new.values in
    let place = c.loop-place.place in
    let longer = c.in_ok-found.ensures.width c.if-not-found.false in
    record {
      ready = c.in_ok-found.ensures.ready;
      asked = omega (arith, c.push_next_row.ensures.asked, c.loop-place.invariant.asked);
      within = λ header layout.
          let t = rw c.if-not-found.false at (c.in_ok-found.ensures.record header layout) in
          row_is_within reading c.args.table.now header (place + 1) t.0 t.1 t.2;
      width = one_more_wide wide (length old) (length new) place c.loop-place.invariant.width longer;
      midway = λ header records layout gives.
          let m = c.loop-place.invariant.midway header records layout gives in
          let t = rw c.if-not-found.false at (c.in_ok-found.ensures.takes header (drop place records) layout m.gives) in
          let rows = row_appended wide old new t.2 place c.loop-place.invariant.width longer t.5 in
          subst (Midway g.R.Read.remaining c.push_next_row.new.records reading c.args.table.now header records (place + 1))
          (sym rows)
          (midway_more _ _ _ reading c.args.table.now header records place (first_rows wide old place) t.0 t.1 t.2 m t.3 t.4 t.6);
      read = λ header layout.
          let a = c.loop-place.invariant.read header layout in
          let t = rw c.if-not-found.false at (c.in_ok-found.ensures.record header layout) in
          let rows = row_appended wide old new t.1 place c.loop-place.invariant.width longer t.3 in
          subst (AreRead reading c.args.table.now header (place + 1)) (sym rows)
          (read_more reading c.args.table.now header place (first_rows wide old place) t.0 t.1 a t.2);
    }

pub returns-in_err-found-clause-refused : goal.returns-in_err-found-clause-refused
returns-in_err-found-clause-refused g c header records layout gives =
    let m = c.loop-place.invariant.midway header records layout gives in
    let p = err_from_is_err_and c.from_residual.result c.from_residual.ensures.1 in
    rw (p.1, p.2) (shows_given _ c.loop-place.records c.args.table.now header records c.loop-place.place _ _ m.gives
    (c.in_err-found.ensures.refused header layout))

pub returns-in_err-found-clause-records : goal.returns-in_err-found-clause-records
returns-in_err-found-clause-records g c header layout =
    let a = c.loop-place.invariant.read header layout in
    let p = err_from_is_err_and c.from_residual.result c.from_residual.ensures.1 in
    rw (p.1, p.2) (shows_read _ c.loop-place.records c.args.table.now header c.loop-place.place _ _ _ a
    (c.in_err-found.ensures.refused header layout))

pub returns-then-not-found-clause-records : goal.returns-then-not-found-clause-records
returns-then-not-found-clause-records g c header layout =
    let rows = first_rows (length c.args.table.now.columns) c.loop-place.values c.loop-place.place in
    rw (c.in_ok-found.ensures.none c.if-not-found.true)
    (let all = read_end reading c.args.table.now header c.loop-place.place rows (c.loop-place.invariant.read header layout) in
    (all.0, all.1, tt))

pub returns-in_err-found-clause-before : goal.returns-in_err-found-clause-before
returns-in_err-found-clause-before g c header records layout gives =
    let m = c.loop-place.invariant.midway header records layout gives in
    let rows = checked_rows reading c.args.table.now header records in
    let read = first_rows (length c.args.table.now.columns) c.loop-place.values c.loop-place.place in
    let place : asked c.push_next_row.new.records - 2 ≡ c.loop-place.place = omega
    (arith, c.push_next_row.ensures.asked, c.loop-place.invariant.asked) in
    let p = err_from_is_err_and c.from_residual.result c.from_residual.ensures.1 in
    rw (p.1, p.2, place) (λ failed. passed_front rows c.loop-place.place read m.passed)

-- no more rows are taken than a table may have
pub returns-clause-loads : goal.returns-clause-loads
returns-clause-loads g c header records layout gives =
    let within = c.loop-place.invariant.within header layout in absurd (omega (arith, within, c.loop-place-test.false))

pub returns-clause-records : goal.returns-clause-records
returns-clause-records g c header layout =
    let within = c.loop-place.invariant.within header layout in absurd (omega (arith, within, c.loop-place-test.false))

pub returns-clause-refused : goal.returns-clause-refused
returns-clause-refused g c header records layout gives other = (refl, tt)
