-- One part more is written.
use Rattle.std.proofs.Common.{◌≡◌, ◌<◌, arith, length, refl}
use Rattle.sfq_tiles.specs.Splits.{IsLate, IsOfPart}
use Rattle.sfq_tiles.proofs.SplitLemmas.{failed_with, late_of, of_part, written_more}
use Rattle.sfq_tiles.proofs.splitting.write_parts.Goals as goal

pub loop-named-preserved : goal.loop-named-preserved
loop-named-preserved g c =
    let within : c.loop-named.named-index < length c.args.parts.now = omega arith in
    written_more g.O.Targets.begins_tiles g.O.Targets.begins_stretches g.O.Targets.takes g.O.Texts.CellTexts.texts
    (g.I.Sources.bytes c.args.sources.now) c.args.directory.now c.args.cells.now c.args.rows c.args.parts.now
    c.loop-named.named-index
    c.named-item.result c.loop-named.written.items _ _ _ c.loop-named.targets _ within c.named-item.is c.loop-named.invariant refl
    c.in_ok-counts.ensures.written c.in_ok-push.ensures.items

pub returns-in_err-counts-clause-ending : goal.returns-in_err-counts-clause-ending
returns-in_err-counts-clause-ending g c =
    let files = g.I.Sources.bytes c.args.sources.now in
    let directory = c.args.directory.now in
    let parts = c.args.parts.now in
    let named = c.named-item.result in
    let ending = c.in_err-counts.field-0.0 in
    let within : c.loop-named.named-index < length parts = omega arith in
    failed_with (IsLate files directory (IsOfPart parts)) c.from_residual.result ending c.from_residual.ensures.1
    (late_of (λ table. table ≡ named.table.now) (IsOfPart parts) files directory ending
    (of_part parts c.loop-named.named-index named within c.named-item.is) c.in_err-counts.ensures.ending)
