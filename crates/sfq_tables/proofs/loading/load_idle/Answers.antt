-- What was read of the text is what the table at its place is, or its fault.
use Rattle.std.proofs.Common.{◌≡◌, ◌∙◌, ◌<◌, arith, ap, inr, length, sym, false, Err}
use Rattle.kept_tables.specs.KeptTables.{KeptTables}
use Rattle.sfq_tables.specs.TableFaults.{has_failed_load, load_fault_in_numbers, status_of_reading}
use Rattle.sfq_tables.proofs.Reports.{of_table_text, reported_fault}
use Rattle.sfq_tables.proofs.TextsOfTables.{has_loaded, no_definition, read_at, status_within, unloaded}
use Rattle.table_model.specs.SpatialTables.{SpatialSchema}
use Rattle.sfq_tables.proofs.loading.load_idle.Goals as goal

pub returns-in-Err-clause-refused : goal.returns-in-Err-clause-refused
returns-in-Err-clause-refused c = λ one.
    let kept : KeptTables = c.args.database.now in
    let place = c.args.place in
    let text = c.args.text.now in
    let found = c.in-Err.found in
    let new = c.report_load.new.fault in
    let many = ap (λ (d : SpatialSchema). length d) c.definitions.ensures.value in
    let there : place < length kept.definitions = omega (arith, c.if-place-definitions.false, many) in
    let of_text : has_failed_load found ≡ false → read_at kept place text ≡ Err found =
    λ other. c.in-Err.ensures.loads no_definition (of_table_text found other) in
    let refused = reported_fault has_failed_load load_fault_in_numbers (read_at kept place text) found c.args.fault.now new
    c.report_load.result of_text c.report_load.ensures one in
    unloaded kept place text new there refused

pub returns-clause-loaded : goal.returns-clause-loaded
returns-clause-loaded c = λ _.
    let kept : KeptTables = c.args.database.now in
    let after : KeptTables = c.load.new.self in
    let place = c.args.place in
    let text = c.args.text.now in
    let many = ap (λ (d : SpatialSchema). length d) c.definitions.ensures.value in
    let there : place < length kept.definitions = omega (arith, c.if-place-definitions.false, many) in
    let loads = c.in_default.ensures.loads no_definition in
    has_loaded kept place text after there loads c.in_default.ensures.put

pub returns-clause-status : goal.returns-clause-status
returns-clause-status c =
    let kept : KeptTables = c.args.database.now in
    let place = c.args.place in
    let text = c.args.text.now in
    let many = ap (λ (d : SpatialSchema). length d) c.definitions.ensures.value in
    let there : place < length kept.definitions = omega (arith, c.if-place-definitions.false, many) in
    inr (sym (status_within kept place text there ∙ ap status_of_reading (c.in_default.ensures.loads no_definition)))
