use Rattle.std.proofs.Common.{◌≢◌, ◌≡◌, ◌∙◌, ◌++◌, ◌∷◌, [], ℕ, List, ap, arith, length, rules, subst}
use Rattle.csv.specs.Records.{fields_of}
use Rattle.table_model.specs.Loading.{Record}
use Rattle.tiles.specs.Copies.{copied_fields}
use Rattle.tiles.specs.RecordLines.{line_of}
use Rattle.tiles.specs.Texts.{Grow, in_cell}
use Rattle.tiles.proofs.CopyLemmas.{read_end, read_more, read_none}
use Rattle.tiles.proofs.StretchLemmas.{filled_all, filled_start, filled_step, none_counted}
use Rattle.tiles.proofs.FaultLemmas.{returned, uneven_later}
use Rattle.tiles.specs.Faults.{IsCopyFault}
use Rattle.tiles.specs.PlainRecords.{HasLeft, IsReadFault}
use Rattle.tiles.specs.declared.faults.CopyFault.TheVariants as copy
use Rattle.tiles.proofs.stretching.copy_stretches.Goals as goal

pub loop-place-init : goal.loop-place-init
loop-place-init g c = record {
  ready = c.requires.ready;
  same = c.in_ok-put_record.ensures.same;
  few = omega arith;
  some = none_counted c.new-counts.result.items 0 c.new-counts.ensures.items;
  read = (
    [],
    read_none g.R.Read.remaining c.args.records.now c.args.layout.now.width,
    filled_start (g.T.CellTexts.texts c.args.texts.now) (g.T.CellTexts.texts c.put_record.new.texts)
        (fields_of c.args.header.now) (copied_fields c.args.layout.now.places.items c.args.columns.now)
        c.args.size c.new-counts.result.items c.new-counts.ensures.items c.in_ok-put_record.ensures.texts,
  );
}

pub returns-then-not-branch-clause-written : goal.returns-then-not-branch-clause-written
returns-then-not-branch-clause-written g c =
    let m = c.loop-place.invariant.read in (
      m.0,
      read_end g.R.Read.remaining c.args.records.now c.loop-place.records c.args.layout.now.width m.0 m.1
          (λ rest gives. rw c.if-not-branch.true at (c.in_ok-read_even.ensures.takes rest gives)),
      filled_all (g.T.CellTexts.texts c.args.texts.now) (g.T.CellTexts.texts c.loop-place.texts) (fields_of c.args.header.now)
          (copied_fields c.args.layout.now.places.items c.args.columns.now)
          c.args.size m.0 c.loop-place.counts.items c.push.new.self.items c.loop-place.rows m.2 c.requires.size c.loop-place.invariant.few c.loop-place.invariant.some c.in_ok-push.ensures.items,
    )

pub loop-place-preserved : goal.loop-place-preserved
loop-place-preserved g c =
    let m = c.loop-place.invariant.read in
    let texts = g.T.CellTexts.texts in
    let fields = fields_of c.read_even.new.fields in
    let copied = c.args.columns.now in
    let row = copied_fields c.args.layout.now.places.items copied in
    let more = c.begin_if_full.new.counts.items in
    let here : c.len.result ≡ length more = search rules in
    let line = c.in_ok-copied_fields.ensures.fields
    ∙ ap (λ (p : List ℕ). copied_fields p copied fields) c.as_slice.ensures.value in
    let grew = subst (λ (l : Record). Grow (texts c.begin_if_full.new.texts) (texts c.put_record-in-loop-place.new.texts)
    (in_cell (length more) (line_of l))) line
    (subst (λ (n : ℕ). Grow (texts c.begin_if_full.new.texts) (texts c.put_record-in-loop-place.new.texts)
    (in_cell n (line_of (fields_of c.copied_fields.new.line)))) here c.in_ok-put_record-2.ensures.texts) in
    let step = filled_step (texts c.args.texts.now) (texts c.loop-place.texts) (texts c.begin_if_full.new.texts)
    (texts c.put_record-in-loop-place.new.texts) (fields_of c.args.header.now) row
    c.args.size m.0 fields c.loop-place.counts.items more c.loop-place.rows c.in_ok-rows.rows m.2 c.requires.size c.loop-place.invariant.few c.in_ok-rows.ensures.goes_on c.in_ok-rows.ensures.begins grew in
    record {
      ready = c.in_ok-read_even.ensures.ready;
      same = c.in_ok-put_record-2.ensures.same ∙ c.in_ok-rows.ensures.same ∙ c.loop-place.invariant.same;
      few = step.1;
      some = λ _. omega arith;
      read = (
        m.0 ++ fields ∷ [],
        read_more g.R.Read.remaining c.args.records.now c.loop-place.records c.read_even.new.self c.args.layout.now.width m.0 fields m.1 (c.in_ok-read_even.ensures.width c.if-not-branch.false)
            (λ rest gives. rw c.if-not-branch.false at (c.in_ok-read_even.ensures.takes rest gives)),
        step.0,
      );
    }

pub returns-in_err-read_even-clause-fault : goal.returns-in_err-read_even-clause-fault
returns-in_err-read_even-clause-fault g c =
    let m = c.loop-place.invariant.read in
    let width = c.args.layout.now.width in
    let failures = g.T.CellTexts.failures in
    let remaining = g.R.Read.remaining in
    let old = c.args.records.now in
    let Bad : Record → Type 0 = λ fields. length fields ≢ width in
    returned (IsCopyFault (IsReadFault c.read_even.new.self (HasLeft remaining old Bad)) (failures c.args.texts.now)
    (failures c.loop-place.texts))
    c.from_residual-in_err-read_even.result (copy.Load c.in_err-read_even.field-0.0) c.from_residual-in_err-read_even.ensures.1
    (uneven_later remaining old c.loop-place.records c.read_even.new.self width m.0 Bad (failures c.args.texts.now)
    (failures c.loop-place.texts)
    c.in_err-read_even.field-0.0 m.1 (λ fields uneven. uneven) c.loop-place.invariant.same c.in_err-read_even.ensures.fault)
