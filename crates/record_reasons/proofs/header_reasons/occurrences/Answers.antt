-- A field more that has the name is counted.
use Rattle.std.proofs.Common.{[], ◌∙◌, ◌<◌, ◌≤◌, ap, arith, length, sym}
use Rattle.std.proofs.lemmas.List.{take_all}
use Rattle.std.proofs.lemmas.List.Sums.{count_by_more_no, count_by_more_yes}
use Rattle.std.specs.List.{count_by}
use Rattle.csv.specs.Records.{fields_of}
use Rattle.table_model.specs.Texts.{same_name}
use Rattle.record_reasons.proofs.header_reasons.occurrences.Goals as goal
use Rattle.record_reasons.proofs.header_reasons.occurrences.Goals.{then-same_name, else-same_name}

pub loop-place-preserved : goal.loop-place-preserved
loop-place-preserved c =
    let fields = fields_of c.args.header.now in
    let test = same_name c.args.name.now in
    let place = c.loop-place.place in
    let within : place < length fields = omega (arith, c.len-place-end.ensures) in
    let same = ap test (sym c.field_at.ensures) ∙ sym c.same_name.ensures in
    elim c.if-same_name.branch [
      | then-same_name w ↦ rw w.found-is (record {
        count = omega (arith, count_by_more_yes test fields place [] within (same ∙ w.if-same_name.true), c.loop-place.invariant.count);
        low = omega (arith, c.loop-place.invariant.low);
      })
      | else-same_name w ↦ rw w.found-is (record {
        count = omega (arith, count_by_more_no test fields place [] within (same ∙ w.if-same_name.false), c.loop-place.invariant.count);
        low = omega (arith, c.loop-place.invariant.low);
      })
    ]

pub returns : goal.returns
returns c =
    let fields = fields_of c.args.header.now in
    let past : length fields ≤ c.loop-place.place = omega (arith, c.loop-place-test.false, c.len-place-end.ensures) in
    c.loop-place.invariant.count ∙ ap (count_by (same_name c.args.name.now)) (take_all c.loop-place.place fields past)
