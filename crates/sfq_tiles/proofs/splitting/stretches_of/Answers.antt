-- A part's table that can't be opened, or read again as it was.
use Rattle.sfq_tiles.specs.Splits.{IsLate}
use Rattle.std.proofs.Common.{◌≡◌, refl, subst, sym}
use Rattle.sfq_tiles.proofs.SplitLemmas.{copy_fails, failed_with, stretches_written, unopened}
use Rattle.sfq_tiles.proofs.splitting.stretches_of.Goals as goal

pub returns-in_err-reader-clause-ending : goal.returns-in_err-reader-clause-ending
returns-in_err-reader-clause-ending g c =
    let files = g.I.Sources.bytes c.args.sources.now in
    let table = c.args.named.now.table.now in
    failed_with (IsLate files c.args.directory.now (λ t. t ≡ table)) c.from_residual.result c.in_err-reader.field-0.0
    c.from_residual.ensures.1
    (unopened files c.args.directory.now table c.as_str-name.result.now _ c.as_str-name.ensures refl c.in_err-reader.field-0.0
    c.in_err-reader.ensures.ending)

pub returns-in-Err-clause-ending : goal.returns-in-Err-clause-ending
returns-in-Err-clause-ending g c =
    let files = g.I.Sources.bytes c.args.sources.now in
    let table = c.args.named.now.table.now in
    subst (IsLate files c.args.directory.now (λ t. t ≡ table)) (sym c.copy_ending.ensures)
    (copy_fails files c.args.directory.now table c.as_str-name.result.now _ c.as_str-name.ensures c.in_ok-reader.ensures.bytes
    c.as_str-name.result c.as_str-name.ensures _ _ c.in-Err.fault (c.in-Err.ensures.fault _ c.new-records.ensures.all))

pub returns-clause-written : goal.returns-clause-written
returns-clause-written g c =
    λ boxes. stretches_written g.O.Targets.begins_tiles g.O.Targets.begins_stretches g.O.Targets.takes g.O.Texts.CellTexts.texts
    (g.I.Sources.bytes c.args.sources.now) c.args.directory.now boxes c.args.rows c.args.named.now c.requires _ _
    c.as_str-name.ensures
    c.in_ok-reader.ensures.bytes _ c.as_slice.ensures.value _ _ _ _ _ c.in_ok-texts.ensures
    (c.in-Ok.ensures.stretches _ c.new-records.ensures.all)
    c.in_ok-finish.ensures.taken
