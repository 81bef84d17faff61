use Rattle.std.proofs.Common.{None, ◌∙◌, ◌≡◌, ap, get_or, map, sym}
use Rattle.std.proofs.lemmas.List.{take_all}
use Rattle.std.proofs.lemmas.Result.{err_from_is_err_and}
use Rattle.csv.specs.Records.{fields_of}
use Rattle.table_model.specs.Loading.{name_fault, place_in}
use Rattle.feature_table.proofs.HeaderLemmas.{fault_here, fault_none, fault_past, places_more}
use Rattle.feature_table.proofs.headers.layout_of.Goals as goal

pub loop-column-preserved : goal.loop-column-preserved
loop-column-preserved c =
    let columns = c.args.columns.now in
    let header = fields_of c.args.header.now in
    let i = c.loop-column.column-index in
    let column = c.column-item.result in
    let found = c.in_ok-place_of.ensures.place in
    let none : name_fault header (get_or columns i column).name ≡ None =
    ap (λ c. name_fault header c.name) (sym c.column-item.is) ∙ ap (name_fault header) (sym c.bytes.ensures) ∙ found.0 in
    let place : c.in_ok-place_of.field-0 ≡ place_in header (get_or columns i column).name =
    found.1 ∙ ap (place_in header) c.bytes.ensures ∙ ap (λ c. place_in header c.name) c.column-item.is in
    record {
      places = c.in_ok-push.ensures.items ∙ places_more columns header i column c.loop-column.places.items c.in_ok-place_of.field-0 c.loop-column-test.true c.loop-column.invariant.places place;
      faults = sym (fault_past columns header i column c.loop-column-test.true none) ∙ c.loop-column.invariant.faults;
    }

pub returns-in_err-place_of-clause-fault : goal.returns-in_err-place_of-clause-fault
returns-in_err-place_of-clause-fault c =
    let columns = c.args.columns.now in
    let header = fields_of c.args.header.now in
    let i = c.loop-column.column-index in
    let column = c.column-item.result in
    let p = err_from_is_err_and c.from_residual-in_err-place_of.result c.from_residual-in_err-place_of.ensures.1 in
    let some = ap (λ c. name_fault header c.name) (sym c.column-item.is) ∙ ap (name_fault header) (sym c.bytes.ensures) ∙ c.in_err-place_of.ensures.place in
    rw (p.1, p.2) (λ other. sym c.loop-column.invariant.faults ∙ fault_here columns header i column c.in_err-place_of.field-0.0 c.loop-column-test.true some)

pub returns-clause-ok : goal.returns-clause-ok
returns-clause-ok c =
    let columns = c.args.columns.now in
    let header = fields_of c.args.header.now in
    let i = c.loop-column.column-index in
    let past = c.loop-column-test.false in
    let all = take_all i columns past in (
      sym c.loop-column.invariant.faults ∙ fault_none columns header i past,
      record { places = c.loop-column.invariant.places ∙ ap (map (λ c. place_in header c.name)) all; width = c.len.ensures },
    )
